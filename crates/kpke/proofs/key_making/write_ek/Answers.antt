-- t-hat's coefficients are below q and so below 2^12: its encoding fills the first 384 k bytes of ek, and rho the
-- last 32.
use borrow.Author.Rules.{rules}
use Prim.Native.Nat.{◌*◌}
use native.Mathlib.Omega.{arith}
use Rattle.kpke.proofs.Encoded.{below_byte_encode12, length_encoded}
use Rattle.words.specs.Overwrite.{two_parts}
use Rattle.kpke.proofs.key_making.write_ek.Goals as goal

pub returns : goal.returns
returns c =
    let s = c.args in
    two_parts s.ek.now (384 * s.k) (length_encoded 12 s.k _) (omega arith) c.encode_all.ensures
    c.copy_from_slice.ensures.after

pub encode_all-requires : goal.encode_all-requires
encode_all-requires c = search (rules, below_byte_encode12)
