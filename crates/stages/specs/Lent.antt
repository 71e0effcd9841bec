-- What the stages' functions ask of the slices that are lent to them.
use Rattle.std.specs.Prelude.{◌≡◌, List, ℕ, ◌*◌, ◌<◌, ◌≤◌, length}
use Rattle.words.specs.Bounded.{Below}
use Rattle.words.specs.Residue.{q}
use Rattle.worksheet.specs.SharedList.{SharedList}

-- both shares have n elements
pub record Long (n : ℕ) (s : SharedList) : Type 0 where
  pub long0 : length s.s0 ≡ n
  pub long1 : length s.s1 ≡ n

-- and these are below q
pub record Residues (n : ℕ) (s : SharedList) : Type 0 where
  pub long0 : length s.s0 ≡ n
  pub long1 : length s.s1 ≡ n
  pub below0 : Below q s.s0
  pub below1 : Below q s.s1

-- a strip with n mask coefficients at least
pub record Masks (n : ℕ) (cs : List ℕ) : Type 0 where
  pub enough : n ≤ length cs
  pub below : Below q cs

-- k polynomials of depth d in bytes, and m elements for what is made of them
pub record Decoding (d k m : ℕ) (b f : List ℕ) : Type 0 where
  pub bytes : length b ≡ 32 * d * k
  pub some : 0 < d
  pub most : d ≤ 11
  pub out : length f ≡ m

-- bits in n words become coefficients: m of them, with c mask coefficients
pub record ConvertInput (n c m : ℕ) (x : SharedList) (cs : List ℕ) (f : SharedList) : Type 0 where
  pub input : Long n x
  pub coeffs : Masks c cs
  pub out : Long m f

-- a hash of four words and a public string of len bytes, with w mask words, to n words
pub record HashInput (len w n : ℕ) (x : SharedList) (string ws : List ℕ) (o : SharedList) : Type 0 where
  pub input : Long 4 x
  pub public : length string ≡ len
  pub words : w ≤ length ws
  pub out : Long n o

-- compression to depth d at most: n coefficients, w mask words, and m words for the planes
pub record CompressInput (d n w m : ℕ) (f : SharedList) (ws : List ℕ) (planes : SharedList) : Type 0 where
  pub depth : d ≤ 11
  pub input : Residues n f
  pub words : w ≤ length ws
  pub out : Long m planes
