-- An accepted key, and as many masks as its split takes.
use Rattle.std.specs.Prelude.{◌≡◌, List, ℕ, ◌*◌, ◌^◌, length}
use Rattle.words.specs.Bounded.{Below}
use Rattle.parameters.specs.declared.Parameters.{Parameters}
use Rattle.split_key.specs.Import.{Accepted}

module _ (p : Parameters) where
  pub record Importable (dk mask_coeffs mask_words : List ℕ) : Type 0 where
    pub accepted : Accepted p dk
    pub bytes : Below 256 dk
    pub coeffs : length mask_coeffs ≡ 256 * p.k
    pub words : length mask_words ≡ 4
    pub bits : Below (2 ^ 64) mask_words
