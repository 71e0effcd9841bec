-- The fold reads its n words: where these are alike, so is what it does.
use Rattle.std.specs.Prelude.{◌≡◌, ℕ, ◌+◌, ◌<◌}
use Rattle.std.proofs.Common.{ap, ap₂, arith}
use Rattle.words.specs.Word.{xor}
use Rattle.worksheet.specs.Shares.{Shares}
use Rattle.worksheet.specs.Prog.{ret, ◌>>=◌, entry}
use Rattle.worksheet.specs.ProgLaws.{loop_cong, times_cong}
use Rattle.worksheet.specs.Sharing.{shares}
use Rattle.worksheet.specs.Gates.{masked_or}
use Rattle.masked_comparison.specs.Comparison.{add_public, fold_or, all_zero}

pub add_public_cong : (n : ℕ) {c e : ℕ → ℕ} {v w : ℕ → Shares} → ((j : ℕ) → j < n → c j ≡ e j)
    → ((j : ℕ) → j < n → v j ≡ w j)
    → add_public n c v ≡ add_public n e w
unfolding add_public
add_public_cong n f g =
    times_cong n (λ j h.
    ap₂ (λ (x : ℕ) (z : Shares). entry (xor z.s0 x) >>= λ y. ret (shares y z.s1)) (f j h) (g j h))

fold_or_cong : (n : ℕ) {v w : ℕ → Shares} → ((j : ℕ) → j < n + 1 → v j ≡ w j) → fold_or n v ≡ fold_or n w
unfolding fold_or
fold_or_cong n {v} {w} e =
    rw (e 0 (omega arith)) (loop_cong n (w 0) (λ j h t. ap (masked_or 64 t) (e (j + 1) (omega arith))))

pub all_zero_cong : (n : ℕ) {v w : ℕ → Shares} → ((j : ℕ) → j < n + 1 → v j ≡ w j) → all_zero n v ≡ all_zero n w
unfolding all_zero
all_zero_cong n e = rw (fold_or_cong n e)
