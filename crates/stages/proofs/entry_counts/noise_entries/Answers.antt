-- 33 bytes are one block, further blocks of 17 words are permutations alone, and a coefficient makes 12 eta - 2
-- entries.
use Prim.Native.Nat.{ℕ, ◌-◌, ◌*◌, ◌/◌, ◌≤◌}
use native.Mathlib.Omega.{arith}
use Rattle.masked_fips202.specs.EntryCounts.{shake256_entries}
use Rattle.masked_sampler.specs.EntryCounts.{sampler_entries}
use Rattle.stages.specs.EntryCounts.{noise_entries}
use Rattle.stages.proofs.entry_counts.noise_entries.Goals as goal

-- three bits less three bits take one further block at most
further : (eta : ℕ) → eta ≤ 3 → (8 * eta - 1) / 17 ≤ 1
further eta h = omega arith

pub returns : goal.returns
unfolding noise_entries shake256_entries sampler_entries
returns c = record { value = omega arith; upper_bound = omega (arith, c.requires.most, further _ c.requires.most) }
