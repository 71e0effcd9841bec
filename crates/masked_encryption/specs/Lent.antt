-- What masked encryption asks of the slices that are lent.
use Rattle.std.specs.Prelude.{◌≡◌, List, ℕ, ◌+◌, ◌*◌, ◌≤◌, length, drop}
use Rattle.worksheet.specs.SharedList.{SharedList}
use Rattle.parameters.specs.declared.Parameters.{Parameters}
use Rattle.parameters.specs.Fits.{Fits}
use Rattle.parameters.specs.Lengths.{vector_bytes, ek_bytes}
use Rattle.kpke.specs.Expanded.{Expanded}
use Rattle.stages.specs.Worksheet.{word_count}
use Rattle.stages.specs.Counts.{stage7_words, encrypt_words, encrypt_coeffs}
use Rattle.stages.specs.Lent.{Long, Residues, Masks}

-- an encryption key, and its matrix expanded
pub record ExpandedKey (p : Parameters) (ek a : List ℕ) : Type 0 where
  pub long : length ek ≡ ek_bytes p
  pub expanded : Expanded p.k (drop (vector_bytes p) ek) a

-- stage 6: the key and its matrix, the noise and mu
pub record ReencryptInput (p : Parameters) (ek a : List ℕ) (n mu : SharedList) : Type 0 where
  pub fits : Fits p
  pub key : ExpandedKey p ek a
  pub noise : Long (256 * (2 * p.k + 1)) n
  pub message : Long 256 mu

-- stage 7: u and v, mask words, and where the planes go
pub record Stage7Input (p : Parameters) (uv : SharedList) (ws : List ℕ) (planes : SharedList) : Type 0 where
  pub fits : Fits p
  pub input : Residues (256 * (p.k + 1)) uv
  pub words : stage7_words p ≤ length ws
  pub out : Long (word_count p) planes

-- stages 6 and 7: also mask words, and where the planes go
pub record EncryptWithInput (p : Parameters) (ek a : List ℕ) (n mu : SharedList) (ws : List ℕ)
    (planes : SharedList) : Type 0 where
  pub input : ReencryptInput p ek a n mu
  pub words : stage7_words p ≤ length ws
  pub out : Long (word_count p) planes

-- stages 4 to 7: the key and its matrix, the message, the coins, mask words and mask coefficients, and where the planes
-- go
pub record MaskedEncryptInput (p : Parameters) (ek a : List ℕ) (m r : SharedList) (ws cs : List ℕ)
    (planes : SharedList) : Type 0 where
  pub fits : Fits p
  pub key : ExpandedKey p ek a
  pub message : Long 4 m
  pub coins : Long 4 r
  pub words : encrypt_words p ≤ length ws
  pub coeffs : Masks (encrypt_coeffs p) cs
  pub out : Long (word_count p) planes

-- and room for mu and the noise
pub record MaskedEncryptRoom (p : Parameters) (mu n : SharedList) : Type 0 where
  pub message : Long 256 mu
  pub noise : Long (256 * (2 * p.k + 1)) n
