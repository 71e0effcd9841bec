-- Bit to coefficient: how much it does, and what the result is a sharing of.
use Rattle.std.specs.Prelude.{ℕ, zero, suc, ◌+◌, ◌-◌, ◌*◌, ◌/◌, ◌%◌, ◌^◌, ◌<◌, ◌≡◌, refl, Bool, true, false, cond, eqb}
use Rattle.std.proofs.Common.{sym, ap, ◌∙◌, subst, mod-lt, arith, eqb→eq}
use Rattle.words.specs.Word.{xor}
use Rattle.words.specs.Residue.{q}
use Rattle.words.specs.TableLaws.{every_at}
use Rattle.codec.specs.Compress.{decompress}
use Rattle.worksheet.specs.Shares.{Shares}
use Rattle.worksheet.specs.Prog.{◌>>=◌, mask, entry}
use Rattle.worksheet.specs.Uses.{Uses, ret_u, coeff_u, enter_u}
use Rattle.worksheet.specs.Gives.{Gives, ret_g, draw_g, enter_g, gives_weaken}
use Rattle.worksheet.specs.Sharing.{shares, joined}
use Rattle.worksheet.specs.CoeffSharing.{CoeffSharing}
use Rattle.masked_sampler.specs.Coefficient.{bit_to_coeff, table_value, bit_to_coeff_coeffs}
use Rattle.masked_sampler.specs.EntryCounts.{bit_to_coeff_entries}

pub uses-bit_to_coeff : (w : ℕ) (b : Shares) → Uses bit_to_coeff_entries 0 bit_to_coeff_coeffs (bit_to_coeff w b)
unfolding bit_to_coeff mask entry ◌>>=◌
uses-bit_to_coeff w b = coeff_u (λ r. enter_u (enter_u (enter_u (enter_u ret_u))))

pub mod_q_lt : (x : ℕ) → x % q < q
mod_q_lt x = mod-lt x (omega arith)

-- what the result is a sharing of, modulo q
unfoldable pub coeff_of : ℕ → Shares → ℕ
coeff_of w b = cond (eqb b.s0 0) (xor 0 b.s1) (xor 1 b.s1) * w

pub cond_table : (c : Bool) (u v w r : ℕ) → cond c ((u * w + r) % q) ((v * w + r) % q) ≡ (cond c u v * w + r) % q
cond_table true u v w r = refl
cond_table false u v w r = refl

sum_masked : (v r : ℕ) → r < q → ((v + r) % q + (q - r) % q) % q ≡ v % q
sum_masked v r h = omega arith

pub coeff_sharing_result : (w : ℕ) (b : Shares) (r : ℕ) → r < q
    → CoeffSharing q (coeff_of w b % q)
    (shares (cond (eqb b.s0 0) (table_value 0 b.s1 w r) (table_value 1 b.s1 w r)) ((q - r) % q))
unfolding coeff_of
coeff_sharing_result w b r h =
    let e = cond_table (eqb b.s0 0) (xor 0 b.s1) (xor 1 b.s1) w r in
    record {
      lt0 = subst (λ (t : ℕ). t < q) (sym e) (mod_q_lt _);
      lt1 = mod_q_lt _;
      sums = ap (λ (t : ℕ). (t + (q - r) % q) % q) e ∙ sum_masked _ r h;
    }

-- of bits, the joined bit times the weight
coeff_of-joined : (w : ℕ) (b : Shares) → b.s0 < 2 → coeff_of w b ≡ joined b * w
unfolding coeff_of
coeff_of-joined w b h = ap (λ (x : ℕ). x * w) (go b.s0 h)
  where
    go : (i : ℕ) → i < 2 → cond (eqb i 0) (xor 0 b.s1) (xor 1 b.s1) ≡ xor i b.s1
    go zero g = refl
    go (suc zero) g = refl
    go (suc (suc i)) g = absurd (omega arith)

gives-coeff_of : (w : ℕ) (b : Shares) → Gives (CoeffSharing q (coeff_of w b % q)) (bit_to_coeff w b)
unfolding bit_to_coeff mask entry ◌>>=◌
gives-coeff_of w b = draw_g (λ r h. enter_g (enter_g (enter_g (enter_g (ret_g (coeff_sharing_result w b r h))))))

pub gives-bit_to_coeff : (w : ℕ) (b : Shares) → b.s0 < 2 → Gives (CoeffSharing q (joined b * w % q)) (bit_to_coeff w b)
gives-bit_to_coeff w b h = gives_weaken (λ z s. rw (coeff_of-joined w b h) at s) (gives-coeff_of w b)

-- a message bit with its weight, stage 4
pub bit_1665 : (y : ℕ) → y < 2 → y * 1665 % q ≡ decompress 1 y
unfolding decompress
bit_1665 y h = eqb→eq _ _ (every_at 2 (λ x. eqb (x * 1665 % q) ((2 * (q * x) + 2 ^ 1) / (2 * 2 ^ 1))) tt y h)
