-- Passes that get one share alone: a pass asks for and hands on one choice of share.
use Prim.Native.Nat.{ℕ, zero, suc, ◌+◌, ◌*◌, ◌<◌}
use Rattle.std.specs.Prelude.{◌≡◌, refl, Bool, true, false, List, length, get_or}
use Rattle.std.proofs.Common.{sym, ap, ap₂, ◌∙◌, arith, ext_get_or}
use Rattle.words.specs.Tab.{tab}
use Rattle.words.specs.TabLaws.{tab_of, tab_cong}
use Rattle.worksheet.specs.Prog.{entry}
use Rattle.worksheet.specs.Gives.{Gives, ret_g, enter_g, gives_bind, gives_weaken, gives-times}
use Rattle.worksheet.specs.Couple.{Coupled, ret_c, enter_c, Like, Silent, SameAt, here, coupled_weaken}
use Rattle.worksheet.specs.Couple.{coupled_bind, coupled_map, same_at_left, same_at_right, same_at_map}
use Rattle.worksheet.specs.CoupleLoops.{coupled-times, like-times, silent-times}
use Rattle.worksheet.specs.Places.{cut}
use Rattle.worksheet.specs.Stage.{Stage}
use Rattle.worksheet.specs.SharedList.{SharedList, shared_list}
use Rattle.worksheet.specs.Choice.{SameShare}
use Rattle.worksheet.specs.Pass.{enter_both, entries}

gives-entries : (n : ℕ) (l : List ℕ) → length l ≡ n → Gives (λ a. a ≡ l) (entries n (λ i. get_or l i 0))
unfolding entry
gives-entries n l e =
    gives_weaken (λ a r. ext_get_or 0 a l (r.long ∙ sym e) (λ i h. r.at 0 i (omega (arith, r.long))))
    (gives-times (λ i v. v ≡ get_or l i 0) n (λ i h. enter_g (ret_g refl)))

pub gives-enter_both : (n : ℕ) (f g : List ℕ) → length f ≡ n → length g ≡ n
    → Gives (λ s. s ≡ shared_list f g) (enter_both n f g)
unfolding enter_both
gives-enter_both n f g e k =
    gives_bind (gives-entries n f e) (λ a p. gives_bind (gives-entries n g k) (λ b r. ret_g (ap₂ shared_list p r)))

-- ---- values on one share

-- what they hand back is what was entered
pub record Outcomes (n : ℕ) (f f' : ℕ → ℕ) (a a' : List ℕ) : Type 0 where
  pub left : a ≡ tab n f
  pub right : a' ≡ tab n f'

module _ (n : ℕ) (f f' : ℕ → ℕ) where
  abbrev Outcome : ℕ → ℕ → ℕ → Type 0
  Outcome i y y' = (y ≡ f i) × (y' ≡ f' i)

  coupled_entries : Coupled (Outcomes n f f') (n * 1) (entries n f) (entries n f')
  unfolding entry
  coupled_entries =
      coupled_weaken
      (λ a a' r.
      record {
        left = tab_of 0 a n r.long (λ i h. (r.at 0 0 i h).0);
        right = tab_of 0 a' n r.long' (λ i h. (r.at 0 0 i h).1);
      })
      (coupled-times n {R = Outcome} (λ i h. enter_c (ret_c (refl, refl))))

  pub like_entries : Like (n * 1) (entries n f) (entries n f')
  unfolding entry
  like_entries = like-times n (λ i h. enter_c (ret_c tt))

  pub silent_entries : ((i : ℕ) → i < n → f i ≡ f' i) → Silent (n * 1) (entries n f) (entries n f')
  unfolding entry
  silent_entries e = silent-times n (λ i h. enter_c (ret_c tt)) go
    where
      go : (i : ℕ) → i < n → Silent 1 (entry (f i)) (entry (f' i))
      go i h zero g = here (e i h) (ret_c tt)
      go i h (suc k) g = absurd (omega arith)

-- ---- a pass on each share

abbrev element : List ℕ → ℕ → ℕ
element l i = get_or l i 0

same_element : {l l' : List ℕ} → l ≡ l' → (n i : ℕ) → i < n → element l i ≡ element l' i
same_element e n i h = ap (λ (l : List ℕ). get_or l i 0) e

outcomes_same : {n : ℕ} {f f' : List ℕ} {a a' : List ℕ} → Outcomes n (element f) (element f') a a' → f ≡ f' → a ≡ a'
outcomes_same {n} r e = r.left ∙ tab_cong n (same_element e n) ∙ sym r.right

-- share 0's outcomes are f and f', share 1's g and g'
module _ (n : ℕ) (f g f' g' : List ℕ) where
  pub coupled-enter_both : {S : SharedList → SharedList → Type 0}
      → ((x x' y y' : List ℕ) → Outcomes n (element f) (element f') x x' → Outcomes n (element g) (element g') y y'
      → S (shared_list x y) (shared_list x' y'))
      → Coupled S (n * 1 + n * 1) (enter_both n f g) (enter_both n f' g')
  unfolding enter_both
  coupled-enter_both s =
      coupled_bind (coupled_entries n (element f) (element f')) (λ x x' r.
      coupled_map _ _ (λ y y' t. s x x' y y' r t) (coupled_entries n (element g) (element g')))

  pub like-enter_both : Like (n * 1 + n * 1) (enter_both n f g) (enter_both n f' g')
  like-enter_both = coupled-enter_both (λ x x' y y' r t. tt)

  -- an entry of a share whose outcomes are equal
  pub same_at_share0 : ((i : ℕ) → i < n → element f i ≡ element f' i) → (i : ℕ) → i < n * 1
      → SameAt i (enter_both n f g) (enter_both n f' g')
  unfolding enter_both
  same_at_share0 e i h =
      same_at_left (silent_entries n (element f) (element f') e i h)
      (λ x x'. coupled_map _ _ (λ y y' t. t) (like_entries n (element g) (element g')))

  pub same_at_share1 : ((i : ℕ) → i < n → element g i ≡ element g' i) → (i : ℕ) → i < n * 1
      → SameAt (n * 1 + i) (enter_both n f g) (enter_both n f' g')
  unfolding enter_both
  same_at_share1 e i h =
      same_at_right (like_entries n (element f) (element f')) (λ x x' t.
      same_at_map _ _ (silent_entries n (element g) (element g') e i h))

-- where choice false makes the outcomes on share 0 equal, and choice true those on share 1
module _ {A B : Type 0} (R : Bool → A → B → Type 0) (n : ℕ) (f g : A → List ℕ) (f' g' : B → List ℕ)
    (same0 : (a : A) (b : B) → R false a b → f a ≡ f' b) (same1 : (a : A) (b : B) → R true a b → g a ≡ g' b) where
  pub coupled_pass : (c : Bool) (a : A) (b : B) → R c a b
      → Coupled (SameShare c) (n * 1 + n * 1) (enter_both n (f a) (g a)) (enter_both n (f' b) (g' b))
  coupled_pass false a b r =
      coupled-enter_both n _ _ _ _ (λ x x' y y' o u. record { same = outcomes_same o (same0 a b r) })
  coupled_pass true a b r =
      coupled-enter_both n _ _ _ _ (λ x x' y y' o u. record { same = outcomes_same u (same1 a b r) })

  abbrev Entry : ℕ → Type 0
  Entry i = (c : Bool) × ((a : A) (b : B) → R c a b → SameAt i (enter_both n (f a) (g a)) (enter_both n (f' b) (g' b)))

  pub pass_stage : Stage R SameShare (n * 1 + n * 1) (λ a. enter_both n (f a) (g a)) (λ b. enter_both n (f' b) (g' b))
  pass_stage =
      record {
        like = λ a b. like-enter_both n (f a) (g a) (f' b) (g' b);
        entry =
            cut Entry (n * 1) (n * 1)
            (λ i h. (false, λ a b r. same_at_share0 n (f a) (g a) (f' b) (g' b) (same_element (same0 a b r) n) i h))
            (λ i h. (true, λ a b r. same_at_share1 n (f a) (g a) (f' b) (g' b) (same_element (same1 a b r) n) i h));
        fresh = λ c. (c, coupled_pass c);
      }
