-- Turn by turn bits move from the numbers to the bytes: what was read is what was written and what the accumulator
-- still holds. At the end it holds nothing, since both strings have the same number of bits.
use mathlib.Core.Path.{◌≡◌}
use Prim.Native.Nat.{◌≤◌, ◌<◌, ◌+◌, ◌-◌}
use lib.ListN.{length}
use Rattle.codec.proofs.Repack.{Repacked, Loaded}
use Rattle.codec.proofs.encoding.byte_encode.Given as goal

-- i numbers read, n bits held
abbrev pub invariant-loop-byte : goal.invariant-loop-byte
invariant-loop-byte l = (l.i ≤ length l.f) × (length l.out ≡ length l.initial.out) × (l.n < 8 + l.d)
    × Repacked l.d 8 l.f l.out l.i l.byte-index l.n l.acc

abbrev pub invariant-loop-n : goal.invariant-loop-n
invariant-loop-n l = (l.i ≤ length l.f) × (l.n < 8 + l.d)
    × Loaded l.d 8 l.f l.initial.i l.initial.n l.initial.acc l.i l.n l.acc

abbrev pub decreases-loop-n : goal.decreases-loop-n
decreases-loop-n l = 8 - l.n
