-- Absorbing draws the first masks of the strip and squeezing those behind them, as the program does.
use Prim.Native.Nat.{◌+◌, ◌*◌}
use mathlib.Core.Path.{◌≡◌}
use native.Mathlib.Omega.{arith}
use lib.ListN.{length}
use Rattle.worksheet.specs.Ran.{bind, part_words}
use Rattle.masked_keccak.specs.MaskedKeccak.{keccak_p_words}
use Rattle.masked_sponge.specs.MaskedSponge.{input_blocks, further_blocks, hash_mask_words}
use Rattle.masked_fips202.proofs.sponge.masked_sponge.Goals as goal

pub returns : goal.returns
returns g c cs =
    let a = c.args in
    let blocks = input_blocks a.rate (length a.in0.now) in
    let further = further_blocks (g.T.Output.block a.rate) (length a.out0.now) in
    let k = hash_mask_words blocks in
    let m = keccak_p_words * further in
    let e : k + m ≡ hash_mask_words (blocks + further) = omega arith in
    rw (← e)
    (bind _ (c.masked_absorb-o.ensures cs)
    (part_words a.ws.now k m (rw c.block.ensures.0 at (c.masked_squeeze.ensures cs))))
