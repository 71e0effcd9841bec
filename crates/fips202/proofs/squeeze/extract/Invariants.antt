-- Whole lanes are stored as long as eight bytes are left, then single bytes: either way byte i is byte i % 8 of lane
-- i / 8.
use Prim.Native.Nat.{◌*◌}
use Rattle.words.specs.Fill.{Filled}
use Rattle.fips202.specs.Sponge.{byte_of}
use Rattle.fips202.proofs.squeeze.extract.Given as goal

-- j lanes are given out
abbrev pub invariant-loop-j : goal.invariant-loop-j
invariant-loop-j l = Filled l.n (byte_of l.s.lanes) (8 * l.j) l.out

-- i bytes are given out
abbrev pub invariant-loop-i : goal.invariant-loop-i
invariant-loop-i l = Filled l.n (byte_of l.s.lanes) l.i l.out
