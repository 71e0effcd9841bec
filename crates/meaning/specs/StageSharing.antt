-- What the shares that a stage hands on stand for.
use Rattle.std.specs.Prelude.{◌≡◌, List, ℕ, length, get_or}
use Rattle.words.specs.LittleEndian.{words_to_bytes}
use Rattle.worksheet.specs.Shares.{Shares}
use Rattle.worksheet.specs.SharingLaws.{Sharing}
use Rattle.worksheet.specs.SharedList.{SharedList}
use Rattle.worksheet.specs.Turns.{Each}
use Rattle.masked_fips202.specs.MaskedSpongeValue.{WordSharing}
use Rattle.meaning.specs.JoinedDk.{joined_coeffs}

-- two shares of the polynomial f
pub record PolySharing (f : List ℕ) (s : SharedList) : Type 0 where
  pub long0 : length s.s0 ≡ 256
  pub long1 : length s.s1 ≡ 256
  pub sums : joined_coeffs s ≡ f

-- two shares of n words that hold the bytes b
pub record BytesSharing (n : ℕ) (b : List ℕ) (s : SharedList) : Type 0 where
  pub words : List ℕ
  pub sharing : WordSharing n words s
  pub bytes : words_to_bytes 8 words ≡ b

-- the words of l, each in two shares
pub record SharingList (l : List ℕ) (w : List Shares) : Type 0 where
  pub each : Each (λ j. Sharing 64 (get_or l j 0)) (length l) w
