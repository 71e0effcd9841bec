-- Row 1's first length is tested here, the others by the general call.
use mathlib.Core.Path.{refl, ◌∙◌}
use borrow.Author.Tests.{eq-eqb, ne_eqb}
use Rattle.refusals.specs.Refusals.{answer, sized}
use Rattle.masked_fips202.specs.MaskedCalls.{masked_sha3_512, hash_answer, sha3_512_answer}
use Rattle.masked_fips202.proofs.masked_hash.masked_sha3_512.Goals as goal

pub returns-then-out0-ne64 : goal.returns-then-out0-ne64
unfolding sha3_512_answer answer sized
returns-then-out0-ne64 c = record { answer = rw (ne_eqb _ _ c.if-out0-ne64.true); out0 = refl; out1 = refl }

pub returns : goal.returns
unfolding masked_sha3_512 sha3_512_answer hash_answer answer sized
returns c =
    let e = c.if-out0-ne64.false in
    let h = c.masked_hash.ensures in
    record { answer = h.answer ∙ rw (eq-eqb _ _ e); out0 = rw e at h.out0; out1 = rw e at h.out1 }
