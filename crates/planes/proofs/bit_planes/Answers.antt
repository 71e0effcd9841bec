-- The transposition makes 32 planes, and the first n of them are copied over zeros.
use Prim.Native.Nat.{ℕ, ◌≤◌}
use mathlib.Core.Path.{◌≡◌, ◌∙◌}
use mathlib.Core.List.{List, ◌++◌}
use native.Mathlib.Omega.{arith}
use lib.ListN.{get_or, length, take, drop, length-append, replicate}
use Rattle.std.proofs.Common.{take_at, get_or-take}
use Rattle.std.proofs.lemmas.List.{length-take-le, length-drop}
use Rattle.words.specs.Fill.{Filled}
use Rattle.words.specs.Plane.{plane}
use Rattle.words.specs.Tab.{tab}
use Rattle.words.specs.TabLaws.{tab_of, tabulated_length, tabulated_at}
use Rattle.planes.proofs.bit_planes.Goals as goal

-- p, the first n of the m elements of w, over the first n of l
copied : {m n : ℕ} {f : ℕ → ℕ} {w p : List ℕ} (l : List ℕ) → w ≡ tab m f → n ≤ m → n ≤ length l → p ≡ take n w
    → Filled (length l) f n (p ++ drop n l)
copied {m} {n} {f} {w} {p} l e h g q =
    let long = tabulated_length m f e in
    let is : p ≡ tab n f =
    q
    ∙ tab_of 0 (take n w) n (length-take-le n w (omega arith))
    (λ i k. get_or-take n w i 0 k ∙ tabulated_at m f e i 0 (omega arith)) in
    let size = tabulated_length n f is in
    record {
      within = g;
      long = length-append p (drop n l) ∙ omega (arith, size, length-drop n l);
      front = take_at p (drop n l) n size ∙ is;
    }

pub returns : goal.returns
returns c =
    let v : ℕ → ℕ = λ i. get_or c.args.v.now i 0 in
    copied {f = plane 64 v} (replicate 24 0) c.transpose.ensures (omega arith) (omega arith)
    c.copy_from_slice.ensures.after
