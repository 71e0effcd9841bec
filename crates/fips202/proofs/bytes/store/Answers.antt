-- The digits to base 256 are the bytes of to_le_bytes, computed for the eight of them.
use mathlib.Core.Path.{◌∙◌}
use native.Mathlib.Nat.{div-one}
use Rattle.words.specs.Tab.{tab}
use Rattle.words.specs.NumeralLaws.{digits-tab}
use Rattle.fips202.proofs.bytes.store.Goals as goal

pub returns : goal.returns
unfolding tab
returns c = rw (digits-tab 256 8 c.args.w, div-one c.args.w) (c.copy_from_slice.ensures.after ∙ c.to_le_bytes.ensures)
