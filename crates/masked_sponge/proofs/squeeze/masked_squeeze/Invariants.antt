-- Each turn gives out a block of both shares and permutes; what is left behind the last permutation is one block at
-- most, so that the outputs hold what the program's states give.
use Prim.Native.Nat.{◌-◌}
use lib.ListN.{length}
use Rattle.masked_keccak.specs.SharedRows.{shared_state}
use Rattle.masked_sponge.proofs.MaskedOutput.{Squeezing}
use Rattle.masked_sponge.proofs.squeeze.masked_squeeze.Given as goal

-- i blocks are given out, of m and a last one
abbrev pub invariant-loop-i : goal.invariant-loop-i
invariant-loop-i g l =
    Squeezing g.T.Output.read l.per (length l.initial.out0)
    (shared_state l.initial.o.value.s0 l.initial.o.value.s1) l.initial.o.rec l.ws l.i
    (shared_state l.o.value.s0 l.o.value.s1) l.o.rec l.out0 l.out1

abbrev pub decreases-loop-i : goal.decreases-loop-i
decreases-loop-i g l = l.m - l.i
