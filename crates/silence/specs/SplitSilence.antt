-- The split that import makes, under two keys: the first shares can be matched so that either share of the secret is
-- equal, and so that either share of each word of z is.
use Rattle.std.specs.Prelude.{ℕ, ◌+◌, ◌*◌, ◌%◌, ◌<◌, ◌≡◌, refl, Bool, List, get_or}
use Rattle.std.proofs.Math.Path.{sym}
use Rattle.std.proofs.Common.{◌∙◌, mod-lt, mul-zero, arith}
use Rattle.std.proofs.Math.Bool.{true, false}
use Rattle.words.specs.Word.{xor}
use Rattle.words.specs.Bits.{Bits}
use Rattle.words.specs.WordLaws.{xor_comm, xor-xor_cancel, xor-bits}
use Rattle.words.specs.Bounded.{Below}
use Rattle.words.specs.BoundedLaws.{below-take, below-drop}
use Rattle.words.specs.Residue.{q}
use Rattle.words.specs.TabLaws.{get_or-tab, tab_of, tab_cong}
use Rattle.worksheet.specs.Shares.{Shares}
use Rattle.worksheet.specs.Prog.{word, coeff, mask, times}
use Rattle.worksheet.specs.Couple.{Coupled, ret_c, draw_c, coupled_weaken, coupled_recount}
use Rattle.worksheet.specs.CoupleLoops.{coupled-times}
use Rattle.worksheet.specs.Matching.{by_xor, by_adding}
use Rattle.worksheet.specs.Turns.{Turns}
use Rattle.worksheet.specs.Sharing.{shares}
use Rattle.worksheet.specs.SharingLaws.{share, Sharing, keep-bits}
use Rattle.worksheet.specs.CoeffSharing.{CoeffSharing, coeff_keep_lt, share-coeff_keep}
use Rattle.worksheet.specs.SharedList.{shared_list}
use Rattle.worksheet.specs.Choice.{Kept, chosen, KeptShared, SameShare}
use Rattle.ring.specs.Polynomial.{minus, sub}
use Rattle.parameters.specs.declared.Parameters.{Parameters}
use Rattle.parameters.specs.Lengths.{vector_bytes, ek_bytes}
use Rattle.fips202.specs.Sponge.{lane_of}
use Rattle.masked_fips202.specs.XorBytes.{lane_of-bits}
use Rattle.mlkem.specs.MlKem.{secret_part, z_part}
use Rattle.vectors.specs.Vector.{coefficients}
use Rattle.vectors.specs.VectorLaws.{length-coefficients}
use Rattle.split_key.specs.SplitKey.{second_coeffs, second_words}

-- ---- one coefficient X, whose first share is x

abbrev split_coeff : ℕ → ℕ → Shares
split_coeff X x = shares x (minus X x)

q_positive : 0 < q
q_positive = omega arith

coeff_sharing_split_coeff : (X : ℕ) {x : ℕ} → x < q → CoeffSharing q (X % q) (split_coeff X x)
coeff_sharing_split_coeff X g = record { lt0 = g; lt1 = mod-lt _ q_positive; sums = omega arith }

coupled_first : (c : Bool) (X X' : ℕ)
    → Coupled (λ x x'. share c (split_coeff X x) ≡ share c (split_coeff X' x')) 0 (mask coeff) (mask coeff)
unfolding mask by_adding
coupled_first c X X' =
    draw_c (by_adding (coeff_keep_lt c (X % q) (X' % q) q_positive)) (λ x l.
    ret_c (share-coeff_keep c
    (record {
      left = coeff_sharing_split_coeff X l;
      right = coeff_sharing_split_coeff X' (mod-lt _ q_positive);
      by = refl;
    })))

-- ---- one word X, whose first share is x

abbrev split_word : ℕ → ℕ → Shares
split_word X x = shares x (xor X x)

sharing-split_word : {X x : ℕ} → Bits 64 X → Bits 64 x → Sharing 64 X (split_word X x)
sharing-split_word {X} {x} a b =
    record { bits0 = b; bits1 = xor-bits a b; joins = xor_comm x (xor X x) ∙ xor-xor_cancel X x }

coupled-word : (c : Bool) {X X' : ℕ} → Bits 64 X → Bits 64 X'
    → Coupled (λ x x'. Kept 64 c (split_word X x) (split_word X' x')) 0 (mask word) (mask word)
unfolding mask by_xor
coupled-word c a a' =
    draw_c (by_xor (keep-bits c a a')) (λ x l.
    ret_c (chosen c
    (record {
      left = sharing-split_word a (record { lt = l });
      right = sharing-split_word a' (xor-bits (record { lt = l }) (keep-bits c a a'));
      by = refl;
    })))

-- ---- the secret

module _ (p : Parameters) (dk dk' : List ℕ) where
  abbrev coeff_at : List ℕ → ℕ → ℕ
  coeff_at dk i = get_or (coefficients p.k (secret_part p dk)) i 0

  abbrev SameSplit : Bool → ℕ → ℕ → ℕ → Type 0
  SameSplit c i x x' = share c (split_coeff (coeff_at dk i) x) ≡ share c (split_coeff (coeff_at dk' i) x')

  same_share_split : (c : Bool) {a a' : List ℕ} → Turns (SameSplit c) (256 * p.k) a a'
      → SameShare c (shared_list a (second_coeffs p dk a)) (shared_list a' (second_coeffs p dk' a'))
  unfolding second_coeffs sub
  same_share_split false {a} {a'} r =
      record {
        same =
            tab_of 0 a (256 * p.k) r.long (r.at 0 0)
            ∙ sym (tab_of 0 a' (256 * p.k) r.long' (λ i h. refl));
      }
  same_share_split true r =
      record {
        same =
            rw (length-coefficients p.k (secret_part p dk), length-coefficients p.k (secret_part p dk'))
            (tab_cong (256 * p.k) (r.at 0 0));
      }

  pub coupled_firsts : (c : Bool)
      → Coupled (λ a a'. SameShare c (shared_list a (second_coeffs p dk a)) (shared_list a' (second_coeffs p dk' a'))) 0
      (times (256 * p.k) (λ i. mask coeff)) (times (256 * p.k) (λ i. mask coeff))
  coupled_firsts c =
      coupled_recount (mul-zero (256 * p.k))
      (coupled_weaken (λ a a' r. same_share_split c r)
      (coupled-times (256 * p.k) {R = SameSplit c} (λ i h.
      coupled_first c (coeff_at dk i) (coeff_at dk' i))))

  -- ---- z

  abbrev word_at : List ℕ → ℕ → ℕ
  word_at dk j = lane_of (z_part p dk) j

  word_at-bits : {dk : List ℕ} → Below 256 dk → (j : ℕ) → Bits 64 (word_at dk j)
  word_at-bits b j = lane_of-bits (below-take 32 (below-drop (vector_bytes p + ek_bytes p + 32) b)) j

  pub coupled_words : Below 256 dk → Below 256 dk' → (c : ℕ → Bool)
      → Coupled
      (λ w w'. KeptShared 4 c (shared_list w (second_words p dk w)) (shared_list w' (second_words p dk' w'))) 0
      (times 4 (λ j. mask word)) (times 4 (λ j. mask word))
  unfolding second_words
  coupled_words b b' c =
      coupled_weaken (λ w w' r. record {
        at = λ j h.
            rw (
              get_or-tab 4 (λ i. xor (word_at dk i) (get_or w i 0)) j 0 h,
              get_or-tab 4 (λ i. xor (word_at dk' i) (get_or w' i 0)) j 0 h,
            )
            (r.at 0 0 j h);
      })
      (coupled-times 4 {R = λ j x x'. Kept 64 (c j) (split_word (word_at dk j) x) (split_word (word_at dk' j) x')}
      (λ j h.
      coupled-word (c j) (word_at-bits b j) (word_at-bits b' j)))
