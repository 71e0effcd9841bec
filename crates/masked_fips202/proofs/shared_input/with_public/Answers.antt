-- The words fill 8 bytes each from the front, and the string what is left.
use Prim.Native.Nat.{◌*◌}
use native.Mathlib.Omega.{arith}
use lib.ListN.{length}
use Rattle.words.specs.LittleEndianLaws.{length-words_to_bytes}
use Rattle.words.specs.Overwrite.{two_parts}
use Rattle.masked_fips202.proofs.shared_input.with_public.Goals as goal

pub returns : goal.returns
returns c =
    let a = c.args in
    two_parts a.b.now (8 * length a.w.now) (length-words_to_bytes 8 a.w.now) (omega arith)
    c.words_to_bytes.ensures c.copy_bytes.ensures
