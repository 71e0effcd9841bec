-- The words fill 8 bytes each from the front, and zeros what is left.
use Prim.Native.Nat.{◌*◌}
use native.Mathlib.Omega.{arith}
use lib.ListN.{length}
use Rattle.words.specs.LittleEndianLaws.{length-words_to_bytes}
use Rattle.masked_fips202.proofs.SharedInput.{zeros_behind}
use Rattle.masked_fips202.proofs.shared_input.with_zeros.Goals as goal

pub returns : goal.returns
returns c =
    let a = c.args in
    zeros_behind a.b.now (8 * length a.w.now) a.n (length-words_to_bytes 8 a.w.now) (omega arith)
    c.words_to_bytes.ensures c.zero_bytes.ensures
