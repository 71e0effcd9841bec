-- Polynomials whose coefficients are made one by one with masks of their own, as stages: nothing is asked of the bits
-- that they are made from, and either share can be kept.
use Rattle.std.specs.Prelude.{ℕ, ◌*◌, ◌<◌, ◌≡◌, Bool, get_or}
use Rattle.worksheet.specs.Shares.{Shares}
use Rattle.worksheet.specs.Prog.{Prog, ret, ◌>>=◌, times}
use Rattle.worksheet.specs.Couple.{Coupled, Like, Silent, coupled_map, same_at_map}
use Rattle.worksheet.specs.CoupleLoops.{coupled-times, like-times, silent-times}
use Rattle.worksheet.specs.Stage.{Stage}
use Rattle.worksheet.specs.Sharing.{none}
use Rattle.worksheet.specs.SharingLaws.{share}
use Rattle.worksheet.specs.SharedList.{SharedList, unzip}
use Rattle.worksheet.specs.Choice.{SameShare, same_share_unzip}
use Rattle.masked_sampler.specs.Coefficient.{bit_to_coeff, sampler}
use Rattle.masked_sampler.specs.EntryCounts.{bit_to_coeff_entries, sampler_entries}
use Rattle.masked_sampler.specs.CoefficientSilence.{like-bit_to_coeff, silent-bit_to_coeff, coupled-bit_to_coeff-share}
use Rattle.masked_sampler.specs.SamplerSilence.{like-sampler, silent-sampler, coupled-sampler-share}

-- n coefficients in two shares
abbrev pub polynomial : ℕ → (ℕ → Prog Shares) → Prog SharedList
polynomial n f = times n f >>= λ z. ret (unzip n (λ i. get_or z i none))

-- nothing is asked
abbrev pub Anything : {A B : Type 0} → Unit {0} → A → B → Type 0
Anything u a b = Unit {0}

-- each coefficient draws and enters alike, has silent entries, and can keep either share
module _ {A B : Type 0} (n : ℕ) {m : ℕ} {f : A → ℕ → Prog Shares} {f' : B → ℕ → Prog Shares}
    (like : (a : A) (b : B) (i : ℕ) → Like m (f a i) (f' b i))
    (silent : (a : A) (b : B) (i : ℕ) → Silent m (f a i) (f' b i))
    (keeps : (c : Bool) (a : A) (b : B) (i : ℕ) → Coupled (λ z z'. share c z ≡ share c z') m (f a i) (f' b i)) where
  polynomial-stage : Stage Anything SameShare (n * m) (λ a. polynomial n (f a)) (λ b. polynomial n (f' b))
  polynomial-stage =
      record {
        like = λ a b. coupled_map _ _ (λ z z' t. t) (like-times n (λ i h. like a b i));
        entry = λ k g. (tt, λ a b r. same_at_map _ _ (silent-times n (λ i h. like a b i) (λ i h. silent a b i) k g));
        fresh = λ c. (
          tt,
          λ a b r.
              coupled_map _ _ (λ z z' t. same_share_unzip n c _ _ (λ i h. t.at none none i h))
              (coupled-times n (λ i h. keeps c a b i)),
        );
      }

-- n bits, each a coefficient of weight w
abbrev pub bits_to_coeffs : ℕ → ℕ → (ℕ → Shares) → Prog SharedList
bits_to_coeffs n w b = polynomial n (λ i. bit_to_coeff w (b i))

pub bits_to_coeffs-stage : (n w : ℕ) → Stage Anything SameShare (n * bit_to_coeff_entries) (bits_to_coeffs n w)
    (bits_to_coeffs n w)
bits_to_coeffs-stage n w =
    polynomial-stage n (λ b b' i. like-bit_to_coeff w (b i) (b' i)) (λ b b' i. silent-bit_to_coeff w (b i) (b' i))
    (λ c b b' i. coupled-bit_to_coeff-share c w (b i) (b' i))

-- n samples of width eta
abbrev pub samples : ℕ → ℕ → (ℕ → ℕ → Shares) → Prog SharedList
samples n eta b = polynomial n (λ i. sampler eta (b i))

pub samples-stage : (n eta : ℕ) → 0 < eta
    → Stage Anything SameShare (n * sampler_entries eta) (samples n eta) (samples n eta)
samples-stage n eta pos =
    polynomial-stage n (λ b b' i. like-sampler eta (b i) (b' i)) (λ b b' i. silent-sampler eta (b i) (b' i) pos)
    (λ c b b' i. coupled-sampler-share eta (b i) (b' i) pos c)
