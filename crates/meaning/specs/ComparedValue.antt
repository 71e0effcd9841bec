-- Stages 1 to 8: the equal bit shares "c is the ciphertext made again", and the words g share SHA3-512's output, as
-- ML-KEM.Decaps_internal has them for the joined key. An edition of masked decapsulation goes on from here.
use Rattle.std.specs.Prelude.{◌≡◌, cond, List, ◌++◌, ℕ, length, drop}
use Rattle.words.specs.Bounded.{Below}
use Rattle.fips202.specs.Sponge.{sha3_512}
use Rattle.worksheet.specs.Gives.{Gives, ret_g, gives_bind}
use Rattle.worksheet.specs.SharingLaws.{Sharing}
use Rattle.parameters.specs.declared.Parameters.{Parameters}
use Rattle.parameters.specs.Lengths.{ct_bytes}
use Rattle.kpke.specs.KPke.{encrypt, decrypt}
use Rattle.refusals.specs.Same.{same}
use Rattle.mlkem.specs.MlKem.{secret_part, public_part, hash_part}
use Rattle.split_key.specs.SplitKey.{SplitKey, ek_of, h_of}
use Rattle.parameters.specs.Fits.{Fits}
use Rattle.stages.specs.Worksheet.{Compared, masked_decrypt, compared}
use Rattle.meaning.specs.JoinedDk.{joined_dk}
use Rattle.meaning.specs.InOrder.{InOrder}
use Rattle.meaning.specs.JoinedDkLaws.{public_part_joined, hash_part_joined, decrypt_joined}
use Rattle.meaning.specs.StageSharing.{BytesSharing}
use Rattle.meaning.specs.PolynomialValue.{gives-stage1}
use Rattle.meaning.specs.MessageValue.{gives-stage2}
use Rattle.meaning.specs.HashValue.{gives-stage3, coins_sharing}
use Rattle.meaning.specs.EncryptionValue.{encrypt-ciphertext, gives-masked_encrypt}
use Rattle.meaning.specs.ComparisonValue.{gives-stage8}

-- ---- Algorithm 18, lines 5, 6 and 8, for the decapsulation key dk

module _ (p : Parameters) (dk c : List ℕ) where
  -- m'
  abbrev pub message : List ℕ
  message = decrypt p (secret_part p dk) c

  -- K', then the coins
  abbrev pub output : List ℕ
  output = sha3_512 (message ++ hash_part p dk)

  -- c'
  abbrev pub made_again : List ℕ
  made_again = encrypt p (public_part p dk) message (drop 32 output)

-- the equal bit shares "c is d", and the words share the bytes b
pub record ComparedSharing (c d b : List ℕ) (o : Compared) : Type 0 where
  pub equal : Sharing 1 (cond (same c d) 1 0) o.equal
  pub g : BytesSharing 8 b o.g

module _ (p : Parameters) (fits : Fits p) (key : SplitKey) (o : InOrder p key) (c : List ℕ) where
  gives_masked_decrypt : Gives (BytesSharing 4 (message p (joined_dk p key) c)) (masked_decrypt p key.s c)
  unfolding masked_decrypt
  gives_masked_decrypt =
      rw (decrypt_joined o c)
      (gives_bind (gives-stage1 p c key.s o.long.s0 o.long.s1) (λ w a. gives-stage2 a))

  pub gives_compared : length c ≡ ct_bytes p → Below 256 c
      → Gives (ComparedSharing c (made_again p (joined_dk p key) c) (output p (joined_dk p key) c)) (compared p key c)
  unfolding compared
  gives_compared long bytes =
      rw (public_part_joined o, hash_part_joined o)
      (gives_bind gives_masked_decrypt (λ m a.
      gives_bind (gives-stage3 (h_of p key) o.bytes a) (λ g b.
      gives_bind (gives-masked_encrypt p fits (ek_of p key) a (coins_sharing b)) (λ w d.
      gives_bind
      (gives-stage8 p (record { long = long; bytes = bytes }) (encrypt-ciphertext p (ek_of p key) _ _) fits d) (λ e s.
      ret_g (record { equal = s; g = b }))))))
