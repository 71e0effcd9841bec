-- Selection makes 48 entries; the hash that is before or behind makes what stage 9 does, or 7,858 for 64 bytes.
use native.Mathlib.Omega.{arith}
use Rattle.masked_fips202.specs.EntryCounts.{shake256_entries}
use Rattle.stages.specs.EntryCounts.{ending_entries}
use Rattle.stages.proofs.entry_counts.ending_entries.Goals as goal

pub returns-in-MlKem : goal.returns-in-MlKem
unfolding ending_entries
returns-in-MlKem c =
    let n = c.stage9_entries.ensures in
    rw c.in-MlKem.is (record { value = omega (arith, n.value); upper_bound = omega (arith, n.upper_bound) })

pub returns-in-Kyber : goal.returns-in-Kyber
unfolding ending_entries shake256_entries
returns-in-Kyber c = rw c.in-Kyber.is (record { value = omega arith; upper_bound = omega arith })
