-- Couplings of bit to coefficient: every entry can be made equal, whatever the bits are, and the result set apart by
-- any difference.
use Rattle.std.specs.Prelude.{ℕ, zero, suc, ◌+◌, ◌-◌, ◌*◌, ◌%◌, ◌<◌, ◌≡◌, refl, Bool, eqb}
use Rattle.std.proofs.Common.{sym, ap, ◌∙◌, add-zero, arith}
use Rattle.std.proofs.Math.Nat.{mod-mod, mod-add-mod, add-mod-mod}
use Rattle.words.specs.Word.{xor}
use Rattle.words.specs.Residue.{q}
use Rattle.worksheet.specs.Shares.{Shares}
use Rattle.worksheet.specs.Prog.{◌>>=◌, mask, entry}
use Rattle.worksheet.specs.Couple.{Coupled, ret_c, draw_c, enter_c, coupled_weaken, Like, Silent, here, there, under}
use Rattle.worksheet.specs.Matching.{identity, by_adding}
use Rattle.worksheet.specs.SharingLaws.{share}
use Rattle.worksheet.specs.CoeffSharing.{CoeffApart, coeff_keep, share-coeff_keep}
use Rattle.masked_sampler.specs.Coefficient.{bit_to_coeff}
use Rattle.masked_sampler.specs.EntryCounts.{bit_to_coeff_entries}
use Rattle.masked_sampler.specs.CoefficientLaws.{mod_q_lt, coeff_of, cond_table, coeff_sharing_result}

-- the constant by which masks are matched so that v and v' masked differ by d
abbrev constant : ℕ → ℕ → ℕ → ℕ
constant v v' d = (v + d + (q - v' % q)) % q

constant_lt : (v v' d : ℕ) → constant v v' d < q
constant_lt v v' d = mod_q_lt _

add_complement : (v : ℕ) → (v + (q - v % q)) % q ≡ 0
add_complement v = omega arith

add_constant : (v v' d r : ℕ) → (v' + (r + constant v v' d) % q) % q ≡ ((v + r) % q + d) % q
add_constant v v' d r =
    add-mod-mod v' (r + constant v v' d) q
    ∙ ap (λ (t : ℕ). t % q) (omega arith)
    ∙ add-mod-mod (v' + r) (v + d + (q - v' % q)) q
    ∙ ap (λ (t : ℕ). t % q) (regroup v' r v d (q - v' % q))
    ∙ sym (add-mod-mod (v + r + d) (v' + (q - v' % q)) q)
    ∙ ap (λ (t : ℕ). (v + r + d + t) % q) (add_complement v')
    ∙ ap (λ (t : ℕ). t % q) (add-zero (v + r + d))
    ∙ sym (mod-add-mod (v + r) q d)
  where
    regroup : (a b c d e : ℕ) → a + b + (c + d + e) ≡ c + b + d + (a + e)
    regroup a b c d e = omega arith

same_masked : (v v' r : ℕ) → (v + r) % q ≡ (v' + (r + constant v v' 0) % q) % q
same_masked v v' r = sym (add_constant v v' 0 r ∙ ap (λ (t : ℕ). t % q) (add-zero ((v + r) % q)) ∙ mod-mod (v + r) q)

pub like-bit_to_coeff : (w : ℕ) (b b' : Shares) → Like bit_to_coeff_entries (bit_to_coeff w b) (bit_to_coeff w b')
unfolding bit_to_coeff mask entry ◌>>=◌ identity
like-bit_to_coeff w b b' = draw_c identity (λ r h. enter_c (enter_c (enter_c (enter_c (ret_c tt)))))

-- the result is fresh
pub coupled-bit_to_coeff : (w : ℕ) (b b' : Shares) (d : ℕ)
    → Coupled (CoeffApart q d (coeff_of w b % q) (coeff_of w b' % q)) bit_to_coeff_entries (bit_to_coeff w b)
    (bit_to_coeff w b')
unfolding bit_to_coeff mask entry ◌>>=◌ by_adding coeff_of
coupled-bit_to_coeff w b b' d =
    draw_c (by_adding (constant_lt (coeff_of w b) (coeff_of w b') d)) (λ r h.
    enter_c (enter_c (enter_c (enter_c
    (ret_c
    (record {
      left = coeff_sharing_result w b r h;
      right = coeff_sharing_result w b' _ (mod_q_lt _);
      by =
          cond_table (eqb b'.s0 0) _ _ w _
          ∙ add_constant (coeff_of w b) (coeff_of w b') d r
          ∙ ap (λ (t : ℕ). (t + d) % q) (sym (cond_table (eqb b.s0 0) _ _ w r));
    }))))))

-- so that share c is equal
pub coupled-bit_to_coeff-share : (c : Bool) (w : ℕ) (b b' : Shares)
    → Coupled (λ z z'. share c z ≡ share c z') bit_to_coeff_entries (bit_to_coeff w b) (bit_to_coeff w b')
coupled-bit_to_coeff-share c w b b' =
    coupled_weaken (λ z z' a. share-coeff_keep c a)
    (coupled-bit_to_coeff w b b' (coeff_keep q c (coeff_of w b % q) (coeff_of w b' % q)))

pub silent-bit_to_coeff : (w : ℕ) (b b' : Shares) → Silent bit_to_coeff_entries (bit_to_coeff w b) (bit_to_coeff w b')
unfolding bit_to_coeff mask entry ◌>>=◌ by_adding identity coeff_of
silent-bit_to_coeff w b b' zero h =
    let v = xor 0 b.s1 * w in
    let v' = xor 0 b'.s1 * w in
    under (by_adding (constant_lt v v' 0)) (λ r g. here (same_masked v v' r) (enter_c (enter_c (enter_c (ret_c tt)))))
silent-bit_to_coeff w b b' (suc zero) h =
    let v = xor 1 b.s1 * w in
    let v' = xor 1 b'.s1 * w in
    under (by_adding (constant_lt v v' 0)) (λ r g. there (here (same_masked v v' r) (enter_c (enter_c (ret_c tt)))))
silent-bit_to_coeff w b b' (suc (suc zero)) h =
    under (by_adding (constant_lt (coeff_of w b) (coeff_of w b') 0)) (λ r g.
    there (there
    (here
    (cond_table (eqb b.s0 0) _ _ w r
    ∙ same_masked (coeff_of w b) (coeff_of w b') r
    ∙ sym (cond_table (eqb b'.s0 0) _ _ w _)) (enter_c (ret_c tt)))))
silent-bit_to_coeff w b b' (suc (suc (suc zero))) h =
    under identity (λ r g. there (there (there (here refl (ret_c tt)))))
silent-bit_to_coeff w b b' (suc (suc (suc (suc i)))) h = absurd (omega arith)
