-- Refreshing the split that import makes is the split with the first shares moved by the masks: what a share takes the
-- other gives.
use Rattle.std.specs.Prelude.{◌≡◌, ℕ, ◌*◌, length, get_or}
use Rattle.std.proofs.Math.Path.{sym, ap, ap₂}
use Rattle.std.proofs.Common.{◌∙◌}
use mathlib.Core.List.{List}
use Rattle.words.specs.Word.{xor}
use Rattle.words.specs.WordLaws.{xor_assoc}
use Rattle.words.specs.TabLaws.{length-tab, get_or-tab, tab_cong}
use Rattle.fips202.specs.Sponge.{lane_of}
use Rattle.ring.specs.Polynomial.{add, sub}
use Rattle.ring.specs.Sum.{sub-sub}
use Rattle.parameters.specs.declared.Parameters.{Parameters}
use Rattle.vectors.specs.Vector.{coefficients}
use Rattle.vectors.specs.VectorLaws.{length-coefficients}
use Rattle.mlkem.specs.MlKem.{secret_part, z_part}
use Rattle.split_key.specs.SplitKey.{split_key, second_coeffs, second_words, public_of, split}
use Rattle.split_key.specs.Refresh.{xor_words, fresh_key}

pub length-xor_words : (z m : List ℕ) → length (xor_words z m) ≡ length z
unfolding xor_words
length-xor_words z m = length-tab (length z) _

module _ (p : Parameters) (dk : List ℕ) where
  second_coeffs_moved : (a m : List ℕ) → length a ≡ 256 * p.k → length m ≡ 256 * p.k
      → sub (second_coeffs p dk a) m ≡ second_coeffs p dk (add a m)
  unfolding second_coeffs
  second_coeffs_moved a m ea em =
      sub-sub (coefficients p.k (secret_part p dk)) a m
      (length-coefficients p.k (secret_part p dk) ∙ sym ea) (ea ∙ sym em)

  second_words_moved : (w m : List ℕ) → length w ≡ 4
      → xor_words (second_words p dk w) m ≡ second_words p dk (xor_words w m)
  unfolding second_words xor_words
  second_words_moved w m e =
      rw (length-tab 4 (λ i. xor (lane_of (z_part p dk) i) (get_or w i 0)), e)
      (tab_cong 4 (λ i h.
      ap (λ (x : ℕ). xor x (get_or m i 0)) (get_or-tab 4 (λ i. xor (lane_of (z_part p dk) i) (get_or w i 0)) i 0 h)
      ∙ xor_assoc (lane_of (z_part p dk) i) (get_or w i 0) (get_or m i 0)
      ∙ ap (xor (lane_of (z_part p dk) i)) (sym (get_or-tab 4 (λ i. xor (get_or w i 0) (get_or m i 0)) i 0 h))))

  pub fresh_key-split : (a w m n : List ℕ) → length a ≡ 256 * p.k → length w ≡ 4 → length m ≡ 256 * p.k
      → fresh_key (split p dk a w) m n ≡ split p dk (add a m) (xor_words w n)
  unfolding fresh_key split
  fresh_key-split a w m n ea ew em =
      ap₂ (λ (s z : List ℕ). split_key (add a m) s (xor_words w n) z (public_of p dk))
      (second_coeffs_moved a m ea em) (second_words_moved w n ew)
