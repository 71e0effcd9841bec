-- Stages 1 to 4, which are the same for every set, make 10,842 entries, and the others what the calls count.
use borrow.Author.Rules.{rules}
use native.Mathlib.Omega.{arith}
use Rattle.masked_fips202.specs.EntryCounts.{sha3_512_entries}
use Rattle.masked_adder.specs.EntryCounts.{adder_entries}
use Rattle.masked_compression.specs.EntryCounts.{compress_entries}
use Rattle.stages.specs.EntryCounts.{compress_poly_entries, decrypt_entries, stage6_entries, encrypt_entries}
use Rattle.stages.specs.EntryCounts.{compared_entries, steps}
use Rattle.stages.proofs.entry_counts.steps.Goals as goal

pub returns : goal.returns
unfolding steps compared_entries decrypt_entries encrypt_entries stage6_entries compress_poly_entries compress_entries
    adder_entries sha3_512_entries
returns c = record {
  value = omega (
    arith,
    c.stage5_entries.ensures.value,
    c.stage7_entries.ensures.value,
    c.stage8_entries.ensures.value,
    c.ending_entries.ensures.value,
  );
  upper_bound = search rules;
}
