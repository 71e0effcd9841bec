-- Words as bytes, the lowest byte first.
use Rattle.std.specs.Prelude.{List, [], ◌∷◌, ◌++◌, ℕ}
use Rattle.words.specs.Numeral.{digits}

-- n bytes for each word
unfoldable pub words_to_bytes : ℕ → List ℕ → List ℕ
words_to_bytes n [] = []
words_to_bytes n (w ∷ l) = digits 256 n w ++ words_to_bytes n l
