-- FIPS 203, section 8, table 2: the parameter sets.
use Rattle.parameters.specs.declared.Parameters.{Parameters}

abbrev pub ml_kem512 : Parameters
ml_kem512 = record { k = 2; eta1 = 3; eta2 = 2; du = 10; dv = 4 }

abbrev pub ml_kem768 : Parameters
ml_kem768 = record { k = 3; eta1 = 2; eta2 = 2; du = 10; dv = 4 }

abbrev pub ml_kem1024 : Parameters
ml_kem1024 = record { k = 4; eta1 = 2; eta2 = 2; du = 11; dv = 5 }
