-- The shares of import's split join to the key's coefficients modulo q and to the words of z: what was taken from them
-- is the first share.
use Rattle.std.specs.Prelude.{◌≡◌, List, ℕ, ◌+◌, ◌*◌, ◌%◌, ◌<◌, length, get_or}
use Rattle.std.proofs.Math.Path.{ap}
use Rattle.std.proofs.Common.{◌∙◌, arith}
use Rattle.words.specs.Word.{xor}
use Rattle.words.specs.WordLaws.{xor_comm, xor-xor_cancel}
use Rattle.words.specs.Residue.{q}
use Rattle.words.specs.TabLaws.{get_or-tab}
use Rattle.fips202.specs.Sponge.{lane_of}
use Rattle.ring.specs.Sum.{length-sub, get_or_sub}
use Rattle.parameters.specs.declared.Parameters.{Parameters}
use Rattle.vectors.specs.Vector.{coefficients}
use Rattle.vectors.specs.VectorLaws.{length-coefficients}
use Rattle.mlkem.specs.MlKem.{secret_part, z_part}
use Rattle.split_key.specs.SplitKey.{second_coeffs, second_words}

module _ (p : Parameters) (dk : List ℕ) where
  pub length-second_coeffs : (a : List ℕ) → length (second_coeffs p dk a) ≡ 256 * p.k
  unfolding second_coeffs
  length-second_coeffs a =
      length-sub (coefficients p.k (secret_part p dk)) a ∙ length-coefficients p.k (secret_part p dk)

  pub join_coefficients : (a : List ℕ) (i : ℕ) → length a ≡ 256 * p.k
      → (get_or a i 0 + get_or (second_coeffs p dk a) i 0) % q ≡ get_or (coefficients p.k (secret_part p dk)) i 0 % q
  unfolding second_coeffs
  join_coefficients a i h =
      let s = coefficients p.k (secret_part p dk) in
      omega (arith, get_or_sub s a i (omega (arith, length-coefficients p.k (secret_part p dk))))

  pub join_words : (w : List ℕ) (i : ℕ) → i < 4
      → xor (get_or w i 0) (get_or (second_words p dk w) i 0) ≡ lane_of (z_part p dk) i
  unfolding second_words
  join_words w i h =
      ap (xor (get_or w i 0)) (get_or-tab 4 (λ i. xor (lane_of (z_part p dk) i) (get_or w i 0)) i 0 h)
      ∙ xor_comm (get_or w i 0) (xor (lane_of (z_part p dk) i) (get_or w i 0))
      ∙ xor-xor_cancel (lane_of (z_part p dk) i) (get_or w i 0)
