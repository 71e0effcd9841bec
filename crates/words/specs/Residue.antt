-- FIPS 203, section 2.4: the modulus of ML-KEM.
use Rattle.std.specs.Prelude.{ℕ}

abbrev pub q : ℕ
q = 3329
