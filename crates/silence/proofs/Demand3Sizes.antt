-- Demand 3 at the three parameter sets, with the numbers written out: steps; first coefficients, and words and
-- coefficients of a strip. Kyber512, Kyber768 and Kyber1024 have the sets of ML-KEM-512, ML-KEM-768 and ML-KEM-1024.
use Rattle.parameters.specs.declared.Edition.TheVariants.{MlKem, Kyber}
use Rattle.parameters.specs.Sets.{ml_kem512, ml_kem768, ml_kem1024}
use Rattle.parameters.specs.FitsLaws.{fits512, fits768, fits1024}
use Rattle.stages.specs.CountsTable.{counts_table}
use Rattle.silence.specs.Claim.{choices, trace_choices, Silent}
use Rattle.silence.proofs.Demand3.{demand3}
use Rattle.silence.proofs.TraceClaim.{demand3_trace}

-- ---- ML-KEM, by the worksheet

pub demand3_512 : Silent MlKem ml_kem512 155928 (choices MlKem ml_kem512 512 9588 6400)
demand3_512 =
    rw (counts_table.entries512.mlkem_steps, counts_table.words512.mlkem_strip, counts_table.coeffs512.strip) at
    (demand3 MlKem ml_kem512 fits512)

pub demand3_768 : Silent MlKem ml_kem768 187794 (choices MlKem ml_kem768 768 11750 7424)
demand3_768 =
    rw (counts_table.entries768.mlkem_steps, counts_table.words768.mlkem_strip, counts_table.coeffs768.strip) at
    (demand3 MlKem ml_kem768 fits768)

pub demand3_1024 : Silent MlKem ml_kem1024 242052 (choices MlKem ml_kem1024 1024 15192 9472)
demand3_1024 =
    rw (counts_table.entries1024.mlkem_steps, counts_table.words1024.mlkem_strip, counts_table.coeffs1024.strip) at
    (demand3 MlKem ml_kem1024 fits1024)

-- ---- ML-KEM, by what the trace hands back

pub demand3_trace_512 : Silent MlKem ml_kem512 155928 (trace_choices MlKem ml_kem512 512 9588 6400)
demand3_trace_512 =
    rw (counts_table.entries512.mlkem_steps, counts_table.words512.mlkem_strip, counts_table.coeffs512.strip) at
    (demand3_trace MlKem ml_kem512 fits512)

pub demand3_trace_768 : Silent MlKem ml_kem768 187794 (trace_choices MlKem ml_kem768 768 11750 7424)
demand3_trace_768 =
    rw (counts_table.entries768.mlkem_steps, counts_table.words768.mlkem_strip, counts_table.coeffs768.strip) at
    (demand3_trace MlKem ml_kem768 fits768)

pub demand3_trace_1024 : Silent MlKem ml_kem1024 242052 (trace_choices MlKem ml_kem1024 1024 15192 9472)
demand3_trace_1024 =
    rw (counts_table.entries1024.mlkem_steps, counts_table.words1024.mlkem_strip, counts_table.coeffs1024.strip) at
    (demand3_trace MlKem ml_kem1024 fits1024)

-- ---- Kyber, round 3, by the worksheet

pub demand3_kyber512 : Silent Kyber ml_kem512 116638 (choices Kyber ml_kem512 512 6588 6400)
demand3_kyber512 =
    rw (counts_table.entries512.kyber_steps, counts_table.words512.kyber_strip, counts_table.coeffs512.strip) at
    (demand3 Kyber ml_kem512 fits512)

pub demand3_kyber768 : Silent Kyber ml_kem768 124930 (choices Kyber ml_kem768 768 6950 7424)
demand3_kyber768 =
    rw (counts_table.entries768.kyber_steps, counts_table.words768.kyber_strip, counts_table.coeffs768.strip) at
    (demand3 Kyber ml_kem768 fits768)

pub demand3_kyber1024 : Silent Kyber ml_kem1024 155614 (choices Kyber ml_kem1024 1024 8592 9472)
demand3_kyber1024 =
    rw (counts_table.entries1024.kyber_steps, counts_table.words1024.kyber_strip, counts_table.coeffs1024.strip) at
    (demand3 Kyber ml_kem1024 fits1024)

-- ---- Kyber, round 3, by what the trace hands back

pub demand3_trace_kyber512 : Silent Kyber ml_kem512 116638 (trace_choices Kyber ml_kem512 512 6588 6400)
demand3_trace_kyber512 =
    rw (counts_table.entries512.kyber_steps, counts_table.words512.kyber_strip, counts_table.coeffs512.strip) at
    (demand3_trace Kyber ml_kem512 fits512)

pub demand3_trace_kyber768 : Silent Kyber ml_kem768 124930 (trace_choices Kyber ml_kem768 768 6950 7424)
demand3_trace_kyber768 =
    rw (counts_table.entries768.kyber_steps, counts_table.words768.kyber_strip, counts_table.coeffs768.strip) at
    (demand3_trace Kyber ml_kem768 fits768)

pub demand3_trace_kyber1024 : Silent Kyber ml_kem1024 155614 (trace_choices Kyber ml_kem1024 1024 8592 9472)
demand3_trace_kyber1024 =
    rw (counts_table.entries1024.kyber_steps, counts_table.words1024.kyber_strip, counts_table.coeffs1024.strip) at
    (demand3_trace Kyber ml_kem1024 fits1024)
