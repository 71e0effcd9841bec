-- The loop that enters the lanes of a pass's outcome: after i turns it has made the first i entries of `times`.
use mathlib.Core.Path.{◌≡◌}
use mathlib.Core.List.{List}
use Prim.Native.Nat.{ℕ, ◌+◌, ◌<◌, ◌≤◌}
use native.Mathlib.Numerals.{add-one}
use native.Mathlib.Omega.{arith}
use lib.ListN.{length, get_or, take}
use lib.Seq.{take-suc, take_all}
use Rattle.keccak.specs.KeccakP.{theta, rho, pi}
use Rattle.worksheet.specs.declared.Recorder.{Recorder}
use Rattle.worksheet.specs.Prog.{entry, times}
use Rattle.worksheet.specs.Ran.{Makes}
use Rattle.worksheet.specs.RanLoops.{times_start, times_turn}
use Rattle.masked_keccak.specs.MaskedKeccak.{pass}

-- the first i of the n elements of l are entered
pub record EntersFirst (n : ℕ) (l : List ℕ) (i : ℕ) (r r' : Recorder) : Type 0 where
  pub within : i ≤ n
  pub long : length l ≡ n
  pub makes : Makes (times i (λ j. entry (get_or l j 0))) r (take i l) r'

pub enters_start : {n : ℕ} {l : List ℕ} {r : Recorder} → length l ≡ n → EntersFirst n l 0 r r
enters_start e = record { within = omega arith; long = e; makes = λ ws cs. times_start _ }

pub enters_turn : {n : ℕ} {l : List ℕ} {i : ℕ} {r r' r'' : Recorder}
    → EntersFirst n l i r r' → i < n → Makes (entry (get_or l i 0)) r' (get_or l i 0) r''
    → EntersFirst n l (i + 1) r r''
enters_turn {l = l} {i = i} a h m =
    let g : i < length l = omega (arith, a.long) in
    let e = take-suc l i 0 g in
    record {
      within = omega arith;
      long = a.long;
      makes = λ ws cs. rw (add-one i, e) (rw (add-one i) at (times_turn _ i (a.makes ws cs) (m ws cs)));
    }

pub enters_end : {n : ℕ} {l : List ℕ} {i : ℕ} {r r' : Recorder}
    → EntersFirst n l i r r' → n ≤ i → Makes (times n (λ j. entry (get_or l j 0))) r l r'
enters_end {n} {l} {i} a h ws cs =
    let e : i ≡ n = omega (arith, a.within) in
    rw (e, take_all n l (omega (arith, a.long))) at (a.makes ws cs)

-- a pass enters what theta, rho and pi make
pub pass-makes : (l : List ℕ) {t : List ℕ} {r r' : Recorder}
    → t ≡ pi (rho (theta l)) → Makes (times 25 (λ i. entry (get_or t i 0))) r t r' → Makes (pass l) r t r'
unfolding pass
pass-makes l e m ws cs = rw e (rw e at (m ws cs))
