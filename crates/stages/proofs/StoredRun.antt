-- A loop whose turn i draws masks and writes part i of n elements of two slices, one for each share.
--
-- How a proof cites it, where turn i runs p i, which draws w words (or w words and c coefficients), and f reads a part:
--     the invariant    Written f (OnWords p w k r₀ ws) n k l m r i, or OnBoth p w c k r₀ ws cs
--     before the loop  written_start LENGTH LENGTH (words_start ENOUGH), or both_start
--     a turn           written_turn INVARIANT PART PART TAKEN LENGTH LENGTH (words_turn INVARIANT.ran RUN)
--     after the loop   written_end INVARIANT LEFT .ran
-- where TAKEN and LEFT are what the loop's test says.
use mathlib.Core.Path.{◌≡◌, sym, ap, ◌∙◌}
use mathlib.Core.List.{List, [], ◌∷◌, ◌++◌}
use Prim.Native.Nat.{ℕ, ◌+◌, ◌-◌, ◌*◌, ◌<◌, ◌≤◌}
use native.Mathlib.Nat.{mul-zero, mul-suc, le_of_eq}
use native.Mathlib.Numerals.{add-one}
use native.Mathlib.Omega.{arith}
use lib.ListN.{length, take, drop, length-append, length-take, length-drop}
use Rattle.worksheet.specs.declared.Recorder.{Recorder}
use Rattle.worksheet.specs.Prog.{Prog, word, times}
use Rattle.worksheet.specs.Ran.{Ran, Draws, part_words, part_coeffs}
use Rattle.worksheet.specs.RanLoops.{times_start, times_turn}
use Rattle.worksheet.specs.SharedList.{SharedList, shared_list}
use Rattle.words.specs.Part.{part_within, length_span}
use Rattle.stages.specs.Layout.{parts_by}
use Rattle.stages.specs.LayoutLaws.{stored, parts_by_start, parts_by_turn}

-- ---- the slices: the first i of k parts are written, and R says how the values that f reads from them were made

pub record Written {A : Type 0} (f : SharedList → A) (R : ℕ → List A → Recorder → Type 0) (n k : ℕ) (l m : List ℕ)
    (r : Recorder) (i : ℕ) : Type 0 where
  pub within : i ≤ k
  pub long0 : length l ≡ n * k
  pub long1 : length m ≡ n * k
  pub ran : R i (parts_by f n i (shared_list l m)) r

length-stored : (n i : ℕ) (l r : List ℕ) → n * i + n ≤ length l → length r ≡ n → length (stored n i l r) ≡ length l
length-stored n i l r h e =
    length-append (take (n * i) l) _
    ∙ omega (
      arith,
      length-take (n * i) l,
      length-append r (drop (n * i + n - n * i) (drop (n * i) l)),
      length-drop (n * i + n - n * i) (drop (n * i) l),
      length-drop (n * i) l,
    )

module _ {A : Type 0} {f : SharedList → A} {R : ℕ → List A → Recorder → Type 0} {n k : ℕ} where
  pub written_start : {l m : List ℕ} {r : Recorder} → length l ≡ n * k → length m ≡ n * k → R 0 [] r
      → Written f R n k l m r 0
  written_start {l} {m} {r} h g e =
      record { within = omega arith; long0 = h; long1 = g; ran = rw (parts_by_start f n (shared_list l m)) e }

  module _ {l m : List ℕ} {r : Recorder} {i : ℕ} (s : Written f R n k l m r i) where
    pub fits0 : i < k → n * i + n ≤ length l
    fits0 = part_within n (le_of_eq (sym s.long0))

    pub fits1 : i < k → n * i + n ≤ length m
    fits1 = part_within n (le_of_eq (sym s.long1))

    pub written_turn : (x y : List ℕ) {t : Recorder} → i < k
        → length x ≡ length (take (n * i + n - n * i) (drop (n * i) l))
        → length y ≡ length (take (n * i + n - n * i) (drop (n * i) m))
        → R (i + 1) (parts_by f n i (shared_list l m) ++ f (shared_list x y) ∷ []) t
        → Written f R n k (stored n i l x) (stored n i m y) t (i + 1)
    written_turn x y {t} h c d g =
        let a : length x ≡ n = c ∙ length_span (n * i) n l (fits0 h) in
        let b : length y ≡ n = d ∙ length_span (n * i) n m (fits1 h) in
        record {
          within = omega arith;
          long0 = length-stored n i l x (fits0 h) a ∙ s.long0;
          long1 = length-stored n i m y (fits1 h) b ∙ s.long1;
          ran = rw (parts_by_turn f n i l m x y (fits0 h) (fits1 h) a b) g;
        }

    pub written_end : k ≤ i → R k (parts_by f n k (shared_list l m)) r
    written_end h = let g : i ≡ k = omega (arith, s.within) in rw (← g) s.ran

-- ---- the strips: i of k turns have run, turn i being p i

-- of programs that draw w words each
pub record OnWords {A : Type 0} (p : ℕ → Prog A) (w k : ℕ) (r₀ : Recorder) (ws : List ℕ) (i : ℕ) (a : List A)
    (r : Recorder) : Type 0 where
  pub enough : w * k ≤ length ws
  pub ran : Draws word (w * i) (times i p) r₀ ws a r

-- of programs that draw w words and c coefficients each
pub record OnBoth {A : Type 0} (p : ℕ → Prog A) (w c k : ℕ) (r₀ : Recorder) (ws cs : List ℕ) (i : ℕ) (a : List A)
    (r : Recorder) : Type 0 where
  pub ran : Ran (times i p) r₀ ws cs a r (drop (w * i) ws) (drop (c * i) cs)

one_more : (w i : ℕ) → w * i + w ≡ w * (i + 1)
one_more w i = sym (mul-suc w i) ∙ ap (λ (j : ℕ). w * j) (sym (add-one i))

module _ {A : Type 0} {p : ℕ → Prog A} {w k : ℕ} {r₀ : Recorder} {ws : List ℕ} where
  pub words_start : w * k ≤ length ws → OnWords p w k r₀ ws 0 [] r₀
  words_start h = record { enough = h; ran = λ cs. rw (mul-zero w) (times_start p) }

  module _ {i : ℕ} {a : List A} {r : Recorder} (s : OnWords p w k r₀ ws i a r) where
    pub fits_words : i < k → w * i + w ≤ length ws
    fits_words = part_within w s.enough

    pub words_turn : {b : A} {t : Recorder} → Draws word w (p i) r (take (length ws - w * i) (drop (w * i) ws)) b t
        → OnWords p w k r₀ ws (i + 1) (a ++ b ∷ []) t
    words_turn g =
        record {
          enough = s.enough;
          ran = λ cs. rw (← one_more w i) (times_turn p i (s.ran cs) (part_words ws (w * i) w (g cs)));
        }

module _ {A : Type 0} {p : ℕ → Prog A} {w c k : ℕ} {r₀ : Recorder} {ws cs : List ℕ} where
  pub both_start : OnBoth p w c k r₀ ws cs 0 [] r₀
  both_start = record { ran = rw (mul-zero w, mul-zero c) (times_start p) }

  pub both_turn : {i : ℕ} {a : List A} {b : A} {r t : Recorder} → OnBoth p w c k r₀ ws cs i a r
      → Ran (p i) r (take (length ws - w * i) (drop (w * i) ws)) (take (length cs - c * i) (drop (c * i) cs)) b
      t (drop w (take (length ws - w * i) (drop (w * i) ws))) (drop c (take (length cs - c * i) (drop (c * i) cs)))
      → OnBoth p w c k r₀ ws cs (i + 1) (a ++ b ∷ []) t
  both_turn {i} s g =
      record {
        ran =
            rw (← one_more w i, ← one_more c i)
            (times_turn p i s.ran (part_words ws (w * i) w (part_coeffs cs (c * i) c g)));
      }

-- ---- what is lent

-- what is left of a strip from a on, lent to code that draws w masks
pub length_rest : (a w : ℕ) (l : List ℕ) → a + w ≤ length l → w ≤ length (take (length l - a) (drop a l))
length_rest a w l h = omega (arith, length-take (length l - a) (drop a l), length-drop a l)

-- ---- a run

-- the same run, its program and its value written another way
pub ran_as : {A : Type 0} {p q : Prog A} {a b : A} {r r' : Recorder} {ws ws' cs cs' : List ℕ} → p ≡ q → a ≡ b
    → Ran p r ws cs a r' ws' cs' → Ran q r ws cs b r' ws' cs'
ran_as e f h = rw (e, f) at h
