-- The three sets lie within the bounds in either edition: their numbers, with the counts of the table, are compared.
use Rattle.std.proofs.Common.{◌≡◌, ℕ, rules}
use Rattle.parameters.specs.declared.Edition.{Edition}
use Rattle.parameters.specs.declared.Edition.TheVariants.{MlKem, Kyber}
use Rattle.parameters.specs.declared.Parameters.{Parameters}
use Rattle.parameters.specs.Sets.{ml_kem512, ml_kem768, ml_kem1024}
use Rattle.parameters.specs.Ranks.{of_rank}
use Rattle.parameters.specs.RankLaws.{each_set}
use Rattle.parameters.specs.Lengths.{ek_bytes, dk_bytes, ct_bytes}
use Rattle.stages.specs.Counts.{strip_words, strip_coeffs}
use Rattle.stages.specs.EntryCounts.{steps}
use Rattle.stages.specs.CountsTable.{counts_table}
use Rattle.cli_support.specs.Bounded.{Between, SetBounded}

-- a set whose counts are known lies within the bounds if its numbers do
listed :
    (e : Edition) (p : Parameters) {w c s : ℕ}
    → strip_words e p ≡ w
    → strip_coeffs p ≡ c
    → steps e p ≡ s
    → Between p.k (ek_bytes p) (dk_bytes p) (ct_bytes p) w c s
    → SetBounded e p
listed e p ew ec es b = rw (ew, ec, es) b

pub bounded : (e : Edition) (rank : ℕ) → SetBounded e (of_rank rank)
bounded MlKem =
    let t = counts_table in
    each_set (SetBounded MlKem)
    (listed MlKem ml_kem512 t.words512.mlkem_strip t.coeffs512.strip t.entries512.mlkem_steps (search rules))
    (listed MlKem ml_kem768 t.words768.mlkem_strip t.coeffs768.strip t.entries768.mlkem_steps (search rules))
    (listed MlKem ml_kem1024 t.words1024.mlkem_strip t.coeffs1024.strip t.entries1024.mlkem_steps
    (search rules))
bounded Kyber =
    let t = counts_table in
    each_set (SetBounded Kyber)
    (listed Kyber ml_kem512 t.words512.kyber_strip t.coeffs512.strip t.entries512.kyber_steps (search rules))
    (listed Kyber ml_kem768 t.words768.kyber_strip t.coeffs768.strip t.entries768.kyber_steps (search rules))
    (listed Kyber ml_kem1024 t.words1024.kyber_strip t.coeffs1024.strip t.entries1024.kyber_steps
    (search rules))
