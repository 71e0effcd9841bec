-- Document 01, The work and its edge: a split key, and the split that import makes of a key.
use Rattle.std.specs.Prelude.{List, [], ◌∷◌, ◌++◌, ℕ, ◌+◌, ◌*◌, get_or, take, drop}
use Rattle.words.specs.Word.{xor}
use Rattle.words.specs.Tab.{tab}
use Rattle.fips202.specs.Sponge.{lane_of}
use Rattle.ring.specs.Polynomial.{sub}
use Rattle.worksheet.specs.SharedList.{SharedList, shared_list}
use Rattle.refusals.specs.Refusals.{Lent, lent}
use Rattle.parameters.specs.declared.Parameters.{Parameters}
use Rattle.parameters.specs.Lengths.{ek_bytes}
use Rattle.vectors.specs.Vector.{coefficients}
use Rattle.mlkem.specs.MlKem.{secret_part, public_part, hash_part, z_part}

-- the secret's shares, z's shares, and the public key followed by h
pub record SplitKey : Type 0 where
  pub s : SharedList
  pub z : SharedList
  pub public : List ℕ

-- by the five buffers that hold it
abbrev pub split_key : List ℕ → List ℕ → List ℕ → List ℕ → List ℕ → SplitKey
split_key s0 s1 z0 z1 public = record { s = shared_list s0 s1; z = shared_list z0 z1; public = public }

module _ (p : Parameters) where
  -- the public key and h, as stored
  abbrev pub ek_of : SplitKey → List ℕ
  ek_of key = take (ek_bytes p) key.public

  abbrev pub h_of : SplitKey → List ℕ
  h_of key = drop (ek_bytes p) key.public

  -- the lengths that the buffers must have: those of the shares, and all five
  abbrev pub share_lengths : SharedList → SharedList → List Lent
  share_lengths s z =
      lent s.s0 (256 * p.k) ∷ lent s.s1 (256 * p.k) ∷ lent z.s0 4 ∷ lent z.s1 4 ∷ []

  abbrev pub key_lengths : SplitKey → List Lent
  key_lengths key = share_lengths key.s key.z ++ lent key.public (ek_bytes p + 32) ∷ []

  -- ---- import's split of dk: the first shares are the masks

  -- (c - mask) mod q, for each coefficient c of the secret part as it stands
  unfoldable pub second_coeffs : List ℕ → List ℕ → List ℕ
  second_coeffs dk mask_coeffs = sub (coefficients p.k (secret_part p dk)) mask_coeffs

  unfoldable pub second_words : List ℕ → List ℕ → List ℕ
  second_words dk mask_words = tab 4 (λ i. xor (lane_of (z_part p dk) i) (get_or mask_words i 0))

  -- the public key and h, as they stand
  abbrev pub public_of : List ℕ → List ℕ
  public_of dk = public_part p dk ++ hash_part p dk

  unfoldable pub split : List ℕ → List ℕ → List ℕ → SplitKey
  split dk mask_coeffs mask_words =
      split_key mask_coeffs (second_coeffs dk mask_coeffs) mask_words (second_words dk mask_words) (public_of dk)
