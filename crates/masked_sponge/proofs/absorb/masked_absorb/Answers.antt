-- The blocks that the message fills, and its rest, padded in share 0 and zero-filled in share 1, are the blocks of the
-- padded message; the start and each block draw their masks in the strip's order.
use Prim.Native.Nat.{ℕ, ◌+◌, ◌*◌, ◌/◌, ◌<◌}
use mathlib.Core.Path.{◌≡◌}
use native.Mathlib.Nat.{lt-div-mul-add}
use native.Mathlib.Omega.{arith}
use lib.ListN.{length, length-take, length-drop}
use Rattle.words.specs.Part.{part_rest}
use Rattle.worksheet.specs.Ran.{part_words}
use Rattle.masked_keccak.specs.MaskedKeccak.{keccak_p_words}
use Rattle.masked_sponge.specs.MaskedSponge.{hash_mask_words}
use Rattle.masked_sponge.proofs.MaskedBlocks.{absorb_ran}
use Rattle.masked_sponge.proofs.absorb.masked_absorb.Goals as goal

-- ---- facts of lengths
-- the rest is shorter than a block
rest : (rate n : ℕ) → 0 < rate → n < n / rate * rate + rate
rest rate n h = lt-div-mul-add {a = n} {b = rate} h

pub last_block-b0-requires : goal.last_block-b0-requires
last_block-b0-requires c =
    let sponge = c.requires.sponge in
    let short = rest c.args.rate (length c.args.in0.now) sponge.positive in
    (simp (length-take, length-drop) (omega arith), sponge.fits, sponge.short)

pub zero_filled-b1-requires : goal.zero_filled-b1-requires
zero_filled-b1-requires c =
    let sponge = c.requires.sponge in
    let short = rest c.args.rate (length c.args.in0.now) sponge.positive in
    simp (length-take, length-drop) (omega (arith, c.requires.inputs, sponge.fits))

pub returns : goal.returns
returns c cs =
    let a = c.args in
    let in0 = a.in0.now in
    let in1 = a.in1.now in
    let ws = a.ws.now in
    let q = length in0 / a.rate in
    let p = q * a.rate in
    let e : hash_mask_words q + keccak_p_words ≡ hash_mask_words (q + 1) = omega arith in
    absorb_ran a.rate a.suffix in0 in1 c.requires.sponge.positive c.last_block-b0.result
    c.zero_filled-b1.result
    (rw (part_rest p in0) at c.last_block-b0.ensures)
    (rw (part_rest p in1) at c.zero_filled-b1.ensures)
    (c.start-s.ensures a.rec cs)
    (part_words ws 25 (keccak_p_words * q) (c.whole_blocks-o.ensures cs))
    (rw e at (part_words ws (hash_mask_words q) keccak_p_words (c.take_in.ensures cs)))
