-- Compression reads 64 coefficients: where these are alike, so is what it does.
use Rattle.std.specs.Prelude.{◌≡◌, ℕ, ◌<◌}
use Rattle.std.proofs.Common.{ap}
use Rattle.worksheet.specs.Shares.{Shares}
use Rattle.worksheet.specs.Prog.{entry}
use Rattle.worksheet.specs.ProgLaws.{times_cong}
use Rattle.masked_compression.specs.Compression.{fixed_point, fixed_points, masked_compress}

pub masked_compress_cong : (d : ℕ) {x y : ℕ → Shares} → ((i : ℕ) → i < 64 → x i ≡ y i)
    → masked_compress d x ≡ masked_compress d y
unfolding masked_compress
masked_compress_cong d {x} {y} e =
    let f : (h : ℕ) (a b : ℕ → ℕ) → ((i : ℕ) → i < 64 → a i ≡ b i) → fixed_points d h a ≡ fixed_points d h b =
    λ h a b g. times_cong 64 (λ i l. ap (λ (v : ℕ). entry (fixed_point d h v)) (g i l)) in
    rw (
      f 0 (λ i. (x i).s0) (λ i. (y i).s0) (λ i l. ap (λ (z : Shares). z.s0) (e i l)),
      f 4096 (λ i. (x i).s1) (λ i. (y i).s1) (λ i l. ap (λ (z : Shares). z.s1) (e i l)),
    )
