-- Turn by turn bits move from the bytes to the numbers: what was read is what was written and what the accumulator
-- still holds. At the end it holds nothing, since both strings have the same number of bits.
use mathlib.Core.Path.{◌≡◌}
use Prim.Native.Nat.{◌≤◌, ◌<◌, ◌+◌, ◌-◌}
use lib.ListN.{length}
use Rattle.codec.proofs.Repack.{Repacked, Loaded}
use Rattle.codec.proofs.encoding.byte_decode.Given as goal

-- i bytes read, n bits held
abbrev pub invariant-loop-x : goal.invariant-loop-x
invariant-loop-x l = (l.i ≤ length l.b) × (length l.f ≡ 256) × (l.n < 8 + l.d)
    × Repacked 8 l.d l.b l.f l.i l.x-index l.n l.acc

abbrev pub invariant-loop-n : goal.invariant-loop-n
invariant-loop-n l = (l.i ≤ length l.b) × (l.n < 8 + l.d)
    × Loaded 8 l.d l.b l.initial.i l.initial.n l.initial.acc l.i l.n l.acc

abbrev pub decreases-loop-n : goal.decreases-loop-n
decreases-loop-n l = l.d - l.n
