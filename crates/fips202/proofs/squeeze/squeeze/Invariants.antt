-- Each block of output comes from a state of its own, one permutation after the one before; what is left at the end is
-- one block at most.
use mathlib.Core.Path.{◌≡◌}
use Prim.Native.Nat.{◌-◌, ◌*◌}
use lib.ListN.{length}
use Rattle.words.specs.Iterate.{iterate}
use Rattle.keccak.specs.KeccakP.{keccak_p}
use Rattle.fips202.specs.Sponge.{byte_of}
use Rattle.fips202.proofs.Output.{Output}
use Rattle.fips202.proofs.squeeze.squeeze.Given as goal

-- i blocks are given out, and t is the state that gives the next
abbrev pub invariant-loop-i : goal.invariant-loop-i
invariant-loop-i l =
    Output byte_of l.rate (length l.initial.out) (λ q. iterate q (λ _. keccak_p) l.initial.t.lanes) (l.i * l.rate) l.out
    × (l.t.lanes ≡ iterate l.i (λ _. keccak_p) l.initial.t.lanes)

abbrev pub decreases-loop-i : goal.decreases-loop-i
decreases-loop-i l = l.blocks - l.i
