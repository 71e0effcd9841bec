-- Laws of two shares of a list.
use Rattle.std.specs.Prelude.{◌≡◌, refl, List, [], ◌∷◌, ◌++◌, ℕ, ◌+◌, ◌<◌, length, get_or, set}
use Rattle.std.proofs.Common.{sym, ap, ap₂, ◌∙◌, add-one, arith, get_or-set_same, get_or-set_other}
use Rattle.words.specs.Tab.{tab}
use Rattle.words.specs.TabLaws.{length-tab, get_or-tab, tab_of, tab_cong}
use Rattle.worksheet.specs.Shares.{Shares}
use Rattle.worksheet.specs.Sharing.{shares, joined}
use Rattle.worksheet.specs.SharedList.{SharedList, joined_list, shared_at, shared_list, unzip}
use Rattle.worksheet.specs.Zip.{zip}

pub get_d_zip : (n : ℕ) (s : SharedList) (i : ℕ) (d : Shares) → i < n → get_or (zip n s) i d ≡ shared_at s i
unfolding zip
get_d_zip n s = get_or-tab n (shared_at s)

pub unzip-zip : (n : ℕ) (s : SharedList) (d : Shares) → length s.s0 ≡ n → length s.s1 ≡ n
    → unzip n (λ i. get_or (zip n s) i d) ≡ s
unfolding unzip
unzip-zip n s d e0 e1 =
    ap₂ shared_list (sym (tab_of 0 s.s0 n e0 (λ i h. sym (ap (λ (z : Shares). z.s0) (get_d_zip n s i d h)))))
    (sym (tab_of 0 s.s1 n e1 (λ i h. sym (ap (λ (z : Shares). z.s1) (get_d_zip n s i d h)))))

pub shared_at-unzip : (n : ℕ) (f : ℕ → Shares) (i : ℕ) → i < n → shared_at (unzip n f) i ≡ f i
unfolding unzip
shared_at-unzip n f i h = ap₂ shares (get_or-tab n (λ i. (f i).s0) i 0 h) (get_or-tab n (λ i. (f i).s1) i 0 h)

pub joined_list-unzip : (n : ℕ) (f : ℕ → Shares) {x : ℕ → ℕ} → ((i : ℕ) → i < n → joined (f i) ≡ x i)
    → joined_list (unzip n f) ≡ tab n x
unfolding joined_list unzip
joined_list-unzip n f h =
    rw (length-tab n (λ i. (f i).s0)) (tab_cong n (λ i l. ap joined (shared_at-unzip n f i l) ∙ h i l))

-- ---- code that keeps sharings in two arrays, one for each share

pub zip_zero : (s : SharedList) → zip 0 s ≡ []
unfolding zip tab
zip_zero s = refl

pub zip_one : (s : SharedList) → zip 1 s ≡ shared_at s 0 ∷ []
unfolding zip tab
zip_one s = refl

-- one more
zip_suc : (s t : SharedList) (i : ℕ) → ((k : ℕ) → k < i → shared_at t k ≡ shared_at s k)
    → zip (i + 1) t ≡ zip i s ++ shared_at t i ∷ []
unfolding zip tab
zip_suc s t i e = rw (add-one i) (ap (λ (l : List Shares). l ++ shared_at t i ∷ []) (tab_cong i e))

-- one more is stored, in both arrays or in that of share 0 only
pub zip-set : (l m : List ℕ) (i : ℕ) (a b : ℕ) → i < length l → i < length m
    → zip (i + 1) (shared_list (set l i a) (set m i b)) ≡ zip i (shared_list l m) ++ shares a b ∷ []
zip-set l m i a b h g =
    zip_suc (shared_list l m) (shared_list (set l i a) (set m i b)) i
    (λ k f. ap₂ shares (get_or-set_other l i k a 0 (omega arith)) (get_or-set_other m i k b 0 (omega arith)))
    ∙ ap (λ (z : Shares). zip i (shared_list l m) ++ z ∷ [])
    (ap₂ shares (get_or-set_same l i a 0 h) (get_or-set_same m i b 0 g))

pub zip_set0 : (l m : List ℕ) (i a : ℕ) → i < length l
    → zip (i + 1) (shared_list (set l i a) m) ≡ zip i (shared_list l m) ++ shares a (get_or m i 0) ∷ []
zip_set0 l m i a h =
    zip_suc (shared_list l m) (shared_list (set l i a) m) i
    (λ k f. ap (λ (x : ℕ). shares x (get_or m k 0)) (get_or-set_other l i k a 0 (omega arith)))
    ∙ ap (λ (x : ℕ). zip i (shared_list l m) ++ shares x (get_or m i 0) ∷ []) (get_or-set_same l i a 0 h)
