-- Compression and decompression: their ranges, and compression from two shares.
use Rattle.std.specs.Prelude.{◌≡◌, List, map, ℕ, ◌+◌, ◌*◌, ◌/◌, ◌%◌, ◌^◌, ◌<◌, ◌≤◌, get_or}
use Rattle.std.proofs.Common.{sym, ap, ◌∙◌, mod-lt, div-lt_iff_lt-mul, arith, pow_pos, pow-add, pow_mono}
use Rattle.std.proofs.Math.Nat.{zero-mod, add-mul-mod_self_left}
use Rattle.std.proofs.Math.ListN.{get_or-map}
use Rattle.std.proofs.Math.Pow.{field}
use Rattle.words.specs.Residue.{q}
use Rattle.words.specs.Bounded.{Below}
use Rattle.words.specs.BoundedLaws.{below-map}
use Rattle.codec.specs.Compress.{compress, decompress}

pub compress_lt : (d x : ℕ) → compress d x < 2 ^ d
unfolding compress
compress_lt d x = mod-lt _ (pow_pos d)

compress_zero : (d : ℕ) → compress d 0 ≡ 0
unfolding compress
compress_zero d = ap (λ (x : ℕ). x % 2 ^ d) (omega arith) ∙ zero-mod (2 ^ d)

pub get_or-compress : (d : ℕ) (f : List ℕ) (i : ℕ) → get_or (map (compress d) f) i 0 ≡ compress d (get_or f i 0)
get_or-compress d f i =
    ap (λ (z : ℕ). get_or (map (compress d) f) i z) (sym (compress_zero d)) ∙ get_or-map (compress d) f i 0

pub below-compress : (d : ℕ) (f : List ℕ) → Below (2 ^ d) (map (compress d) f)
below-compress d f = below-map (compress d) (pow_pos d) (compress_lt d) f

-- a, b and y are 2^d times two shares and their sum modulo q, v is 2^d where the sum wrapped
module _ (a b y v : ℕ) (h : a + b ≡ y + q * v) where
  odd : (2 * y + q) % (2 * q) % 2 ≡ 1
  odd = omega arith

  -- the two quotients lose at most 1
  lost : (8192 * a / q + 8192 * b / q ≤ 8192 * y / q + 8192 * v)
      × (8192 * y / q + 8192 * v ≤ 8192 * a / q + 8192 * b / q + 1)
  lost = omega arith

  from_shares : (8192 * a / q + 8192 * b / q + 4096) / 8192 ≡ (2 * y + q) / (2 * q) + v
  from_shares = omega (arith, odd, lost.0, lost.1)

-- the same for shares and sum times p
from_multiples : (p x₀ x₁ x w : ℕ) → x₀ + x₁ ≡ x + q * w
    → (p * 8192 * x₀ / q + p * 8192 * x₁ / q + 4096) / 8192 ≡ (2 * (p * x) + q) / (2 * q) + p * w
from_multiples p x₀ x₁ x w h =
    let k : p * x₀ + p * x₁ ≡ p * x + q * (p * w) = omega (arith, ap (λ (n : ℕ). p * n) h) in
    let e₀ : p * 8192 * x₀ ≡ 8192 * (p * x₀) = omega arith in
    let e₁ : p * 8192 * x₁ ≡ 8192 * (p * x₁) = omega arith in
    rw (e₀, e₁) (from_shares (p * x₀) (p * x₁) (p * x) (p * w) k)

-- with 13 fraction bits the shares' own quotients give the sum's compression, at every depth
pub compress_shares : (d x₀ x₁ : ℕ)
    → (2 ^ (d + 13) * x₀ / q + 2 ^ (d + 13) * x₁ / q + 4096) % 2 ^ (d + 13) / 2 ^ 13 ≡ compress d ((x₀ + x₁) % q)
unfolding compress
compress_shares d x₀ x₁ =
    field (2 ^ (d + 13) * x₀ / q + 2 ^ (d + 13) * x₁ / q + 4096) d 13
    ∙ rw (pow-add 2 d 13)
    (ap (λ (n : ℕ). n % 2 ^ d) (from_multiples (2 ^ d) x₀ x₁ ((x₀ + x₁) % q) ((x₀ + x₁) / q) (omega arith))
    ∙ add-mul-mod_self_left ((2 * (2 ^ d * ((x₀ + x₁) % q)) + q) / (2 * q)) (2 ^ d) ((x₀ + x₁) / q))

pub decompress_lt : (d y : ℕ) → d ≤ 11 → y < 2 ^ d → decompress d y < q
unfolding decompress
decompress_lt d y h g =
    (div-lt_iff_lt-mul {k = 2 * 2 ^ d} {y = q} (omega (arith, pow_pos d))).1
    (omega (arith, pow_mono {i = d} {j = 11} h))
