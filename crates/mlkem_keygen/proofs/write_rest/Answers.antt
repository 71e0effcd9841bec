-- The three calls fill rest from the front: ek, then the 32 bytes of its hash, then z.
use mathlib.Core.Path.{refl, ◌∙◌}
use mathlib.Core.List.{append_assoc}
use Prim.Native.Nat.{◌+◌}
use native.Mathlib.Omega.{arith}
use lib.ListN.{length, length-append}
use Rattle.words.specs.Overwrite.{overwritten_start, overwritten_part, overwritten_last}
use Rattle.fips202.specs.Sponge.{sha3_256}
use Rattle.fips202.specs.OutputLaws.{length_sha3_256}
use Rattle.mlkem_keygen.proofs.write_rest.Goals as goal

pub returns : goal.returns
returns c =
    let s = c.args in
    let ek = s.ek.now in
    let d = length-append ek (sha3_256 ek) in
    let w = length_sha3_256 ek in
    let rest = overwritten_start {l = s.rest.now} in
    let o₁ = overwritten_part rest 0 (length ek) refl (omega arith) (omega arith) c.copy_bytes.ensures in
    let o₂ = overwritten_part o₁ (length ek) (length ek + 32) refl (omega arith) (omega arith) c.hash_h.ensures in
    overwritten_last o₂ (length ek + 32) (omega arith) (omega arith) c.copy_bytes-2.ensures
    ∙ append_assoc ek (sha3_256 ek) s.z.now
