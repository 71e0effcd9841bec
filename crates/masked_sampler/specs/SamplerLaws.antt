-- The sampler: how much it does, and what the result is a sharing of.
use Rattle.std.specs.Prelude.{ℕ, zero, suc, ◌+◌, ◌-◌, ◌*◌, ◌%◌, ◌<◌, ◌≤◌, ◌≡◌, refl, Bool, cond, List, [], ◌∷◌, ◌++◌}
use Rattle.std.specs.Prelude.{length, get_or}
use Rattle.std.proofs.Common.{sym, ap, ap₂, ◌∙◌, add-mul, mul-le-mul, le_refl, add-one, arith, lt-ltb, le-ltb}
use Rattle.std.proofs.Math.Nat.{add-mod}
use Rattle.words.specs.Residue.{q}
use Rattle.words.specs.Tab.{tab}
use Rattle.words.specs.TabLaws.{get_or-tab, tab_add, tab_cong, tab_part}
use Rattle.ring.specs.Polynomial.{minus}
use Rattle.codec.specs.Bytes.{bits_of}
use Rattle.codec.specs.BytesLaws.{length-bits_of}
use Rattle.sampling.specs.Sample.{sum, sample_poly_cbd}
use Rattle.worksheet.specs.Shares.{Shares}
use Rattle.worksheet.specs.Prog.{entry}
use Rattle.worksheet.specs.ProgLaws.{loop_cong, times_cong}
use Rattle.worksheet.specs.Uses.{Uses, ret_u, enter_u, uses_bind, uses_map, uses-loop, uses-times, uses_recount}
use Rattle.worksheet.specs.Gives.{Gives, ret_g, enter_g, gives_bind, gives-loop, gives-times}
use Rattle.worksheet.specs.Sharing.{shares, joined, none}
use Rattle.worksheet.specs.CoeffSharing.{CoeffSharing, coeff_sharing_add_shares}
use Rattle.masked_sampler.specs.Coefficient.{bit_to_coeff, sums, weight, sampler, sampler_coeffs}
use Rattle.masked_sampler.specs.EntryCounts.{sampler_entries}
use Rattle.masked_sampler.specs.CoefficientLaws.{uses-bit_to_coeff, gives-bit_to_coeff}

pub weight_lt : (eta j : ℕ) → j < eta → weight eta j ≡ 1
weight_lt eta j h = ap (λ (b : Bool). cond b 1 (q - 1)) (lt-ltb j eta h)

pub weight_ge : (eta j : ℕ) → eta ≤ j → weight eta j ≡ q - 1
weight_ge eta j h = ap (λ (b : Bool). cond b 1 (q - 1)) (le-ltb j eta h)

-- ---- sums

-- x 0, .., x n added modulo q from the left
unfoldable pub sum_to : (ℕ → ℕ) → ℕ → ℕ
sum_to x zero = x 0
sum_to x (suc n) = (sum_to x n + x (n + 1)) % q

-- the first n + 1 numbers are read
pub sums_cong : (n : ℕ) (x x' : ℕ → ℕ) → ((j : ℕ) → j < suc n → x j ≡ x' j) → sums n x ≡ sums n x'
unfolding sums
sums_cong n x x' e =
    loop_cong n (x 0) (λ j h s. ap (λ (y : ℕ). entry ((s + y) % q)) (e (j + 1) (omega arith))) ∙ rw (e 0 (omega arith))

uses-sums : (n : ℕ) (x : ℕ → ℕ) → Uses (n * 1) (n * 0) (n * 0) (sums n x)
unfolding sums entry
uses-sums n x = uses-loop n (x 0) (λ j s. enter_u ret_u)

gives-sums : (n : ℕ) (x : ℕ → ℕ) → Gives (λ s. s ≡ sum_to x n) (sums n x)
unfolding sums entry sum_to
gives-sums n x =
    gives-loop (λ j s. s ≡ sum_to x j) n (λ j h s e. enter_g (ret_g (ap (λ (t : ℕ). (t + x (j + 1)) % q) e))) refl

coeff_sharing_sum_to : (X : ℕ → ℕ) (z : ℕ → Shares) (n : ℕ) → ((j : ℕ) → j < suc n → CoeffSharing q (X j) (z j))
    → CoeffSharing q (sum_to X n) (shares (sum_to (λ j. (z j).s0) n) (sum_to (λ j. (z j).s1) n))
unfolding sum_to
coeff_sharing_sum_to X z zero r = r 0 (omega arith)
coeff_sharing_sum_to X z (suc n) r =
    coeff_sharing_add_shares (coeff_sharing_sum_to X z n (λ j h. r j (omega arith))) (r (n + 1) (omega arith))

sum_append : (l m : List ℕ) → sum (l ++ m) ≡ sum l + sum m
unfolding sum
sum_append [] m = omega arith
sum_append (x ∷ l) m = omega (arith, sum_append l m)

sum-tab-suc : (n : ℕ) (x : ℕ → ℕ) → sum (tab (suc n) x) ≡ sum (tab n x) + x n
unfolding tab sum
sum-tab-suc n x = sum_append (tab n x) (x n ∷ []) ∙ omega arith

sum-tab_mul : (n c : ℕ) (x : ℕ → ℕ) → sum (tab n (λ j. x j * c)) ≡ sum (tab n x) * c
unfolding tab sum
sum-tab_mul zero c x = omega arith
sum-tab_mul (suc n) c x =
    sum-tab-suc n (λ j. x j * c)
    ∙ ap (λ (t : ℕ). t + x n * c) (sum-tab_mul n c x)
    ∙ sym (ap (λ (t : ℕ). t * c) (sum-tab-suc n x) ∙ add-mul (sum (tab n x)) (x n) c)

sum_to_mod : (x : ℕ → ℕ) (n : ℕ) → sum_to (λ j. x j % q) n ≡ sum (tab (suc n) x) % q
unfolding sum_to tab sum
sum_to_mod x zero = ap (λ (t : ℕ). t % q) (omega arith)
sum_to_mod x (suc n) =
    ap₂ (λ (s y : ℕ). (s + y) % q) (sum_to_mod x n) (ap (λ (k : ℕ). x k % q) (add-one n))
    ∙ sym (add-mod (sum (tab (suc n) x)) (x (suc n)) q)
    ∙ ap (λ (t : ℕ). t % q) (sym (sum-tab-suc (suc n) x))

-- ---- the sampler

pub uses-sampler : (eta : ℕ) (b : ℕ → Shares) → Uses (sampler_entries eta) 0 (sampler_coeffs eta) (sampler eta b)
unfolding sampler sampler_entries
uses-sampler eta b =
    uses_recount (omega arith) (omega arith) (omega arith)
    (uses_bind (uses-times (2 * eta) (λ j. uses-bit_to_coeff (weight eta j) (b j))) (λ z.
    uses_bind (uses-sums (2 * eta - 1) (λ j. (get_or z j none).s0)) (λ s.
    uses_map _ (uses-sums (2 * eta - 1) (λ j. (get_or z j none).s1)))))

-- the first 2 eta bits are read
pub sampler_cong : (eta : ℕ) (b b' : ℕ → Shares) → ((j : ℕ) → j < 2 * eta → b j ≡ b' j) → sampler eta b ≡ sampler eta b'
unfolding sampler
sampler_cong eta b b' e = rw (times_cong (2 * eta) (λ j h. ap (bit_to_coeff (weight eta j)) (e j h)))

-- FIPS 203, Algorithm 8: eta bits less eta bits
unfoldable pub binomial : ℕ → (ℕ → ℕ) → ℕ
binomial eta x = minus (sum (tab eta x)) (sum (tab eta (λ j. x (eta + j))))

sum_weighted : (eta : ℕ) (x : ℕ → ℕ) → sum (tab (2 * eta) (λ j. x j * weight eta j)) % q ≡ binomial eta x
unfolding binomial
sum_weighted eta x =
    let e : 2 * eta ≡ eta + eta = omega arith in
    let y : ℕ → ℕ = λ j. x (eta + j) in
    ap (λ (t : ℕ). t % q)
    (rw (e, tab_add eta eta (λ j. x j * weight eta j))
    (sum_append (tab eta (λ j. x j * weight eta j)) (tab eta (λ j. y j * weight eta (eta + j))))
    ∙ ap₂ (λ (s t : List ℕ). sum s + sum t)
    (tab_cong eta (λ j h. ap (λ (w : ℕ). x j * w) (weight_lt eta j h)))
    (tab_cong eta (λ j h. ap (λ (w : ℕ). y j * w) (weight_ge eta (eta + j) (omega arith))))
    ∙ ap₂ (λ (s t : ℕ). s + t) (sum-tab_mul eta 1 x) (sum-tab_mul eta (q - 1) y)
    ∙ omega arith)

pub gives-sampler : (eta : ℕ) (b : ℕ → Shares) → 0 < eta → ((j : ℕ) → j < 2 * eta → (b j).s0 < 2)
    → Gives (CoeffSharing q (binomial eta (λ j. joined (b j)))) (sampler eta b)
unfolding sampler
gives-sampler eta b h l =
    let n = 2 * eta - 1 in
    let e : suc n ≡ 2 * eta = omega arith in
    let X : ℕ → ℕ = λ j. joined (b j) * weight eta j in
    let r : sum_to (λ j. X j % q) n ≡ binomial eta (λ j. joined (b j)) =
    sum_to_mod X n ∙ ap (λ (k : ℕ). sum (tab k X) % q) e ∙ sum_weighted eta (λ j. joined (b j)) in
    gives_bind (gives-times _ (2 * eta) (λ j g. gives-bit_to_coeff (weight eta j) (b j) (l j g))) (λ z p.
    gives_bind (gives-sums n (λ j. (get_or z j none).s0)) (λ s₀ q₀.
    gives_bind (gives-sums n (λ j. (get_or z j none).s1)) (λ s₁ q₁.
    ret_g
    (rw (q₀, q₁, ← r)
    (coeff_sharing_sum_to (λ j. X j % q) (λ j. get_or z j none) n (λ j g. p.at none j (omega arith)))))))

pub get_or-sample_poly_cbd : (eta : ℕ) (bytes : List ℕ) (i : ℕ) → length bytes ≡ 64 * eta → i < 256
    → get_or (sample_poly_cbd eta bytes) i 0 ≡ binomial eta (λ j. get_or (bits_of 8 bytes) (2 * i * eta + j) 0)
unfolding sample_poly_cbd binomial
get_or-sample_poly_cbd eta bytes i e h =
    let b = bits_of 8 bytes in
    let k = 2 * i * eta in
    let g : i ≤ 255 = omega arith in
    let m = mul-le-mul g (le_refl eta) in
    let l : k + eta + eta ≤ length b = omega (arith, length-bits_of 8 bytes) in
    get_or-tab 256 _ i 0 h
    ∙ ap₂ (λ (s t : List ℕ). minus (sum s) (sum t)) (tab_part 0 k eta b (omega arith))
    (tab_part 0 (k + eta) eta b l ∙ tab_cong eta (λ j f. ap (λ (n : ℕ). get_or b n 0) (omega arith)))
