-- The adder on d + 13 planes makes 18 (d + 13) - 14 entries and the fixed points 128, and there are four groups.
use native.Mathlib.Omega.{arith}
use Rattle.masked_adder.specs.EntryCounts.{adder_entries}
use Rattle.masked_compression.specs.EntryCounts.{compress_entries}
use Rattle.stages.specs.EntryCounts.{compress_poly_entries}
use Rattle.stages.proofs.entry_counts.compress_poly_entries.Goals as goal

pub returns : goal.returns
unfolding compress_poly_entries compress_entries adder_entries
returns c = record { value = omega arith; upper_bound = omega (arith, c.requires.most) }
