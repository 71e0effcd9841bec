-- The lengths that the functions of import and of refreshing ask for.
use Rattle.std.specs.Prelude.{◌≡◌, List, ℕ, ◌+◌, ◌*◌, length}
use Rattle.parameters.specs.declared.Parameters.{Parameters}
use Rattle.parameters.specs.Lengths.{ek_bytes, dk_bytes}
use Rattle.worksheet.specs.SharedList.{SharedList}
use Rattle.split_key.specs.SplitKey.{SplitKey}

-- x has m elements, the masks and both shares n
pub record SharingInput (m n : ℕ) (x₀ masks₀ share0₀ share1₀ : List ℕ) : Type 0 where
  pub x : length x₀ ≡ m
  pub masks : length masks₀ ≡ n
  pub share0 : length share0₀ ≡ n
  pub share1 : length share1₀ ≡ n

module _ (p : Parameters) where
  pub record SplitSized (key : SplitKey) : Type 0 where
    pub s0 : length key.s.s0 ≡ 256 * p.k
    pub s1 : length key.s.s1 ≡ 256 * p.k
    pub z0 : length key.z.s0 ≡ 4
    pub z1 : length key.z.s1 ≡ 4
    pub public : length key.public ≡ ek_bytes p + 32

  pub record ImportSized (dk₀ mask_coeffs₀ mask_words₀ : List ℕ) (key₀ : SplitKey) : Type 0 where
    pub dk : length dk₀ ≡ dk_bytes p
    pub mask_coeffs : length mask_coeffs₀ ≡ 256 * p.k
    pub mask_words : length mask_words₀ ≡ 4
    pub key : SplitSized key₀

-- n mask coefficients, and as many of either share; four mask words, and as many of either share of z
pub record RefreshSized (n : ℕ) (mask_coeffs₀ mask_words₀ : List ℕ) (s z : SharedList) : Type 0 where
  pub mask_coeffs : length mask_coeffs₀ ≡ n
  pub mask_words : length mask_words₀ ≡ 4
  pub s0 : length s.s0 ≡ n
  pub s1 : length s.s1 ≡ n
  pub z0 : length z.s0 ≡ 4
  pub z1 : length z.s1 ≡ 4
