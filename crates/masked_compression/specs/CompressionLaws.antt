-- How much masked compression does, and that it compresses.
use Rattle.std.specs.Prelude.{ℕ, ◌+◌, ◌*◌, ◌/◌, ◌%◌, ◌^◌, ◌<◌, ◌≡◌, refl, get_or, drop}
use Rattle.std.proofs.Common.{sym, ap, ◌∙◌, arith}
use Rattle.std.proofs.Math.Nat.{add-mod}
use Rattle.words.specs.Digit.{digit}
use Rattle.words.specs.DigitLaws.{digit_div, digit_mod}
use Rattle.words.specs.Plane.{plane}
use Rattle.words.specs.PlaneLaws.{plane_cong}
use Rattle.words.specs.Residue.{q}
use Rattle.codec.specs.Compress.{compress}
use Rattle.codec.specs.CompressLaws.{compress_shares}
use Rattle.worksheet.specs.Shares.{Shares}
use Rattle.worksheet.specs.Prog.{entry}
use Rattle.worksheet.specs.Uses.{Uses, ret_u, enter_u, uses_bind, uses_map, uses-times, uses_recount}
use Rattle.worksheet.specs.Turns.{Each, each-drop}
use Rattle.worksheet.specs.Gives.{Gives, ret_g, enter_g, gives_bind, gives-times}
use Rattle.worksheet.specs.SharingLaws.{Sharing}
use Rattle.masked_compression.specs.Compression.{fixed_point, fixed_points, masked_compress}
use Rattle.masked_compression.specs.Compression.{compress_words}
use Rattle.masked_compression.specs.EntryCounts.{compress_entries}
use Rattle.masked_adder.proofs.AdderLaws.{uses-adder, gives-adder}

uses-fixed_points : (d h : ℕ) (x : ℕ → ℕ) → Uses 64 0 0 (fixed_points d h x)
unfolding entry
uses-fixed_points d h x = uses-times 64 (λ i. enter_u ret_u)

pub uses-masked_compress : (d : ℕ) (x : ℕ → Shares)
    → Uses (compress_entries d) (compress_words d) 0 (masked_compress d x)
unfolding masked_compress compress_entries
uses-masked_compress d x =
    uses_recount refl (omega arith) refl
    (uses_bind (uses-fixed_points d 0 (λ i. (x i).s0)) (λ a.
    uses_bind (uses-fixed_points d 4096 (λ i. (x i).s1)) (λ b.
    uses_map (drop 13) (uses-adder (d + 13) (plane 64 (λ i. get_or a i 0)) (plane 64 (λ i. get_or b i 0))))))

gives-fixed_points : (d h : ℕ) (x : ℕ → ℕ) → Gives (Each (λ i v. v ≡ fixed_point d h (x i)) 64) (fixed_points d h x)
unfolding entry
gives-fixed_points d h x = gives-times _ 64 (λ i lt. enter_g (ret_g refl))

-- the top d bits of the sum
digit_sum : (d x₀ x₁ j : ℕ) → j < d
    → digit (13 + j) (fixed_point d 0 x₀ + fixed_point d 4096 x₁) ≡ digit j (compress d ((x₀ + x₁) % q))
unfolding fixed_point
digit_sum d x₀ x₁ j h =
    let n = d + 13 in
    let a = 2 ^ n * x₀ / q in
    let b = 2 ^ n * x₁ / q in
    sym (digit_mod (13 + j) n ((a + 0) % 2 ^ n + (b + 4096) % 2 ^ n) (omega arith))
    ∙ ap (digit (13 + j)) (sym (add-mod (a + 0) (b + 4096) (2 ^ n)) ∙ ap (λ (t : ℕ). t % 2 ^ n) (omega arith))
    ∙ sym (digit_div j 13 ((a + b + 4096) % 2 ^ n))
    ∙ ap (digit j) (compress_shares d x₀ x₁)

-- plane j holds bit j of the compressed coefficients, in two shares of 64 bits
pub gives-masked_compress : (d : ℕ) (x : ℕ → Shares)
    → Gives (Each (λ j. Sharing 64 (plane 64 (λ i. compress d (((x i).s0 + (x i).s1) % q)) j)) d) (masked_compress d x)
unfolding masked_compress
gives-masked_compress d x =
    gives_bind (gives-fixed_points d 0 (λ i. (x i).s0)) (λ a p.
    gives_bind (gives-fixed_points d 4096 (λ i. (x i).s1)) (λ b r.
    gives_bind (gives-adder (d + 13) (λ i. get_or a i 0) (λ i. get_or b i 0)) (λ s t.
    ret_g (each-drop 13 t (omega arith) (λ j z lt e.
    rw (plane_cong 64 (13 + j) j (λ i. get_or a i 0 + get_or b i 0) (λ i. compress d (((x i).s0 + (x i).s1) % q))
    (λ i h. rw (p.at 0 i h, r.at 0 i h) (digit_sum d (x i).s0 (x i).s1 j lt))) at e)))))
