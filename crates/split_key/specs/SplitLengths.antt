-- The parts of an accepted key, and of the split that import makes of it, have their lengths.
use Rattle.std.specs.Prelude.{◌≡◌, List, ℕ, ◌+◌, ◌*◌, length}
use Rattle.std.proofs.Common.{◌∙◌, arith, length-append}
use Rattle.words.specs.Part.{length_part}
use Rattle.words.specs.TabLaws.{length-tab}
use Rattle.parameters.specs.declared.Parameters.{Parameters}
use Rattle.parameters.specs.Lengths.{vector_bytes, ek_bytes}
use Rattle.mlkem.specs.MlKem.{public_part, hash_part, z_part}
use Rattle.split_key.specs.SplitKey.{second_words, public_of, split}
use Rattle.split_key.specs.Import.{Accepted}
use Rattle.split_key.specs.Sized.{SplitSized}
use Rattle.split_key.specs.SplitLaws.{length-second_coeffs}

module _ {p : Parameters} {dk : List ℕ} (x : Accepted p dk) where
  pub length-public_part : length (public_part p dk) ≡ ek_bytes p
  length-public_part = length_part (vector_bytes p) (ek_bytes p) dk (omega (arith, x.long))

  pub length-hash_part : length (hash_part p dk) ≡ 32
  length-hash_part = length_part (vector_bytes p + ek_bytes p) 32 dk (omega (arith, x.long))

  pub length-z_part : length (z_part p dk) ≡ 32
  length-z_part = length_part (vector_bytes p + ek_bytes p + 32) 32 dk (omega (arith, x.long))

  pub length-public_of : length (public_of p dk) ≡ ek_bytes p + 32
  length-public_of =
      length-append (public_part p dk) (hash_part p dk) ∙ omega (arith, length-public_part, length-hash_part)

  pub split_sized : (a w : List ℕ) → length a ≡ 256 * p.k → length w ≡ 4 → SplitSized p (split p dk a w)
  unfolding split second_words
  split_sized a w coeffs words =
      record {
        s0 = coeffs;
        s1 = length-second_coeffs p dk a;
        z0 = words;
        z1 = length-tab 4 _;
        public = length-public_of;
      }
