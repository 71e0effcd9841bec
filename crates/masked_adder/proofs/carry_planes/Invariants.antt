-- The loop is the definition's chain: i carries have been made on the first i masks, and the last of them, which the
-- next turn reads, stands at place i of the two arrays.
use Prim.Native.Nat.{ℕ, ◌+◌, ◌≤◌}
use mathlib.Core.Path.{◌≡◌}
use mathlib.Core.List.{List}
use lib.ListN.{length, drop}
use Rattle.worksheet.specs.Prog.{chain}
use Rattle.worksheet.specs.Ran.{Ran}
use Rattle.worksheet.specs.Sharing.{none}
use Rattle.masked_adder.specs.Adder.{at, carry_step}
use Rattle.worksheet.specs.SharedList.{shared_list}
use Rattle.worksheet.specs.Zip.{zip}
use Rattle.masked_adder.proofs.carry_planes.Given as goal

-- i carries made after the first, which is none; i masks drawn
abbrev pub invariant-loop-i : goal.invariant-loop-i
invariant-loop-i l = (l.i-end + 1 ≡ l.n) × (l.i ≤ l.i-end) × (length l.s0 ≡ 24) × (length l.s1 ≡ 24)
    × (let x = zip l.n (shared_list l.a.s0 l.a.s1) in
    let y = zip l.n (shared_list l.b.s0 l.b.s1) in
    (cs : List ℕ)
    → Ran (chain l.i (λ j c. carry_step (at x j) (at y j) c) none) l.initial.rec l.ws cs
    (zip (l.i + 1) (shared_list l.s0 l.s1)) l.rec (drop l.i l.ws) cs)
