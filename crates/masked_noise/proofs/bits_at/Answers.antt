-- The bits stand in the word s / 64 from bit s % 64 on; where they reach past its end, the next word, moved up, has the
-- others.
use Prim.Native.Nat.{◌/◌}
use native.Mathlib.Omega.{arith}
use Rattle.words.specs.Word.{xor}
use Rattle.masked_noise.proofs.Sampled.{bits_within, bits_across}
use Rattle.masked_noise.proofs.bits_at.Goals as goal

pub returns-then-b-n-le64 : goal.returns-then-b-n-le64
returns-then-b-n-le64 c =
    let a = c.args in
    bits_within a.o.now a.s a.n c.if-b-n-le64.true

pub returns : goal.returns
unfolding xor
returns c =
    let a = c.args in
    bits_across a.o.now a.s a.n (omega arith) c.requires.most
    (c.type_inv.o (a.s / 64)).fits
