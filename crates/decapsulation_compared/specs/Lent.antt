-- What stages 1 to 8 ask of the slices that are lent.
use Rattle.std.specs.Prelude.{◌≡◌, List, ℕ, ◌+◌, ◌*◌, ◌≤◌, length, take, drop}
use Rattle.worksheet.specs.SharedList.{SharedList}
use Rattle.parameters.specs.declared.Parameters.{Parameters}
use Rattle.parameters.specs.Fits.{Fits}
use Rattle.parameters.specs.Lengths.{vector_bytes, ek_bytes, ct_bytes}
use Rattle.kpke.specs.Expanded.{Expanded}
use Rattle.stages.specs.Counts.{encrypt_words, encrypt_coeffs, stage8_words, compared_words}
use Rattle.stages.specs.Lent.{Long, Masks}
use Rattle.masked_encryption.specs.Lent.{ExpandedKey}

-- the secret s, the public key and h, the matrix a, the ciphertext, a strip, and where stage 3's words go
pub record CompareInput (p : Parameters) (s : SharedList) (key a c ws cs : List ℕ) (g : SharedList) : Type 0 where
  pub fits : Fits p
  pub secret : Long (256 * p.k) s
  pub public : length key ≡ ek_bytes p + 32
  pub matrix : Expanded p.k (drop (vector_bytes p) (take (ek_bytes p) key)) a
  pub ct : length c ≡ ct_bytes p
  pub words : compared_words p ≤ length ws
  pub coeffs : Masks (encrypt_coeffs p) cs
  pub out : Long 8 g

-- stages 4 to 8: the public key and its matrix, the ciphertext, the message, stage 3's words, and a strip
pub record ReencryptionCheckInput (p : Parameters) (ek a c : List ℕ) (m g : SharedList) (ws cs : List ℕ) : Type 0 where
  pub fits : Fits p
  pub key : ExpandedKey p ek a
  pub ct : length c ≡ ct_bytes p
  pub message : Long 4 m
  pub hashed : Long 8 g
  pub words : encrypt_words p + stage8_words p ≤ length ws
  pub coeffs : Masks (encrypt_coeffs p) cs
