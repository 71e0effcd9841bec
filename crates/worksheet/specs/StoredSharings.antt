-- A loop whose turn i makes a sharing and stores it at place i of two arrays, one for each share.
--
-- How a proof cites it, where turn i runs p i and draws a word (a coefficient, several or none, as R says):
--     the invariant    StoredSharings (λ j ys r. Draws word j (times j p) r₀ ws ys r) n len l0 l1 r i
--     before the loop  sharings_start (omega arith) LENGTH LENGTH (λ cs. times_start _)
--     a turn           sharings_turn INVARIANT _ _ (omega arith) (λ cs. times_turn _ i (INVARIANT.ran cs) RUN)
--     after the loop   sharings_end INVARIANT (omega arith); where n sharings are handed on as two lists of len ≡ n,
--                      sharings_unzipped INVARIANT refl
use Rattle.std.specs.Prelude.{◌≡◌, List, [], ◌∷◌, ◌++◌, ℕ, ◌+◌, ◌<◌, ◌≤◌, length, get_or, set}
use Rattle.std.proofs.Common.{◌∙◌, arith, length-set}
use Rattle.worksheet.specs.declared.Recorder.{Recorder}
use Rattle.worksheet.specs.Shares.{Shares}
use Rattle.worksheet.specs.Sharing.{shares, none}
use Rattle.worksheet.specs.SharedList.{shared_list, unzip}
use Rattle.worksheet.specs.Zip.{zip}
use Rattle.worksheet.specs.SharedListLaws.{zip_zero, zip-set, unzip-zip}

-- the first i of n sharings stand in two arrays of len elements, and R says how they were made
pub record StoredSharings (R : ℕ → List Shares → Recorder → Type 0) (n len : ℕ) (l0 l1 : List ℕ) (r : Recorder)
    (i : ℕ) : Type 0 where
  pub within : i ≤ n
  pub fits : n ≤ len
  pub long0 : length l0 ≡ len
  pub long1 : length l1 ≡ len
  pub ran : R i (zip i (shared_list l0 l1)) r

module _ {R : ℕ → List Shares → Recorder → Type 0} {n len : ℕ} where
  pub sharings_start : {l0 l1 : List ℕ} {r : Recorder} → n ≤ len → length l0 ≡ len → length l1 ≡ len → R 0 [] r
      → StoredSharings R n len l0 l1 r 0
  sharings_start {l0} {l1} h e f g =
      record { within = omega arith; fits = h; long0 = e; long1 = f; ran = rw (zip_zero (shared_list l0 l1)) g }

  module _ {l0 l1 : List ℕ} {r : Recorder} {i : ℕ} (s : StoredSharings R n len l0 l1 r i) where
    pub sharings_turn : (a b : ℕ) {t : Recorder} → i < n → R (i + 1) (zip i (shared_list l0 l1) ++ shares a b ∷ []) t
        → StoredSharings R n len (set l0 i a) (set l1 i b) t (i + 1)
    sharings_turn a b h g =
        record {
          within = omega arith;
          fits = s.fits;
          long0 = length-set l0 i a ∙ s.long0;
          long1 = length-set l1 i b ∙ s.long1;
          ran = rw (zip-set l0 l1 i a b (omega arith) (omega arith)) g;
        }

    pub sharings_end : n ≤ i → R n (zip n (shared_list l0 l1)) r
    sharings_end h = let e : i ≡ n = omega (arith, s.within) in rw (← e) s.ran

    -- the n sharings that fill the arrays, as two lists
    pub sharings_unzipped : len ≡ n → unzip n (λ j. get_or (zip n (shared_list l0 l1)) j none) ≡ shared_list l0 l1
    sharings_unzipped e = unzip-zip n (shared_list l0 l1) none (s.long0 ∙ e) (s.long1 ∙ e)
