-- Turn i takes in block i of both shares with the next masks, as the program's loop does; block i lies within the
-- input, since i is below its length divided by the rate.
use Prim.Native.Nat.{ℕ, ◌-◌, ◌*◌, ◌/◌, ◌≤◌}
use mathlib.Core.List.{List}
use lib.ListN.{length, drop}
use Rattle.worksheet.specs.Prog.{loop}
use Rattle.worksheet.specs.Ran.{Ran}
use Rattle.worksheet.specs.SharedList.{shared_list}
use Rattle.masked_keccak.specs.MaskedKeccak.{keccak_p_words}
use Rattle.masked_sponge.specs.MaskedSponge.{shared_block}
use Rattle.masked_sponge.specs.MaskedSteps.{take_in}
use Rattle.masked_sponge.proofs.absorb.whole_blocks.Given as goal

-- i blocks are taken in
abbrev pub invariant-loop-i : goal.invariant-loop-i
invariant-loop-i l = (l.i ≤ length l.in0 / l.rate) × (l.i * l.rate ≤ length l.in0)
    × ((cs : List ℕ)
    → Ran (loop l.i (λ i. take_in (l.rate / 8) (shared_block l.rate l.in0 l.in1 i))
    (shared_list l.initial.o.value.s0.lanes l.initial.o.value.s1.lanes)) l.initial.o.rec l.ws cs
    (shared_list l.o.value.s0.lanes l.o.value.s1.lanes) l.o.rec (drop (keccak_p_words * l.i) l.ws) cs)

abbrev pub decreases-loop-i : goal.decreases-loop-i
decreases-loop-i l = length l.in0 / l.rate - l.i
