-- The parts of the joined key, as ML-KEM.Decaps_internal reads them, are the parts of the split key, joined.
use Rattle.std.specs.Prelude.{◌≡◌, refl, ℕ, ◌+◌, ◌*◌, ◌<◌, length, take, drop}
use Rattle.std.proofs.Common.{sym, ◌∙◌, arith, length-drop, drop-drop}
use Rattle.std.proofs.Math.Path.{ap}
use mathlib.Core.List.{List, map, ◌++◌}
use Rattle.std.proofs.Math.Seq.{take_at, drop_at, take-length}
use Rattle.std.proofs.lemmas.List.{take-append-le, drop-append-le}
use Rattle.words.specs.BoundedLaws.{below-take, below-drop}
use Rattle.words.specs.LittleEndian.{words_to_bytes}
use Rattle.words.specs.LittleEndianLaws.{length-words_to_bytes}
use Rattle.words.specs.TabLaws.{length-tab}
use Rattle.words.specs.Part.{length_part, part_fits}
use Rattle.codec.specs.Bytes.{byte_encode, byte_decode12}
use Rattle.codec.specs.BytesLaws.{length-byte_encode, byte_decode12-byte_encode}
use Rattle.codec.specs.Compress.{compress}
use Rattle.ring.specs.Polynomial.{sub}
use Rattle.ring.specs.Sum.{below-add, length-add}
use Rattle.transform.specs.Transform.{inverse_ntt}
use Rattle.worksheet.specs.SharedList.{joined_list}
use Rattle.parameters.specs.declared.Parameters.{Parameters}
use Rattle.parameters.specs.Lengths.{vector_bytes, ek_bytes}
use Rattle.vectors.specs.Vector.{parts, concat}
use Rattle.kpke.specs.KPke.{second_decoded, noisy_message, decrypt}
use Rattle.vectors.specs.VectorLaws
use Rattle.vectors.specs.VectorLaws.{length-concat, parts-concat, dot_cong}
use Rattle.mlkem.specs.MlKem.{secret_part, public_part, hash_part, z_part}
use Rattle.split_key.specs.SplitKey.{SplitKey, ek_of, h_of}
use Rattle.meaning.specs.JoinedDk.{joined_coeffs, joined_dk}
use Rattle.meaning.specs.InOrder.{InOrder}

module _ {p : Parameters} {key : SplitKey} (o : InOrder p key) where
  -- the encoded secret, and z
  abbrev secret : List ℕ
  secret = concat p.k (λ i. byte_encode 12 (parts 256 (joined_coeffs key.s) i))

  abbrev z : List ℕ
  z = words_to_bytes 8 (joined_list key.z)

  each_encoded : VectorLaws.Each 384 p.k (λ i. byte_encode 12 (parts 256 (joined_coeffs key.s) i))
  each_encoded = record { long = λ i h. length-byte_encode 12 (parts 256 (joined_coeffs key.s) i) }

  length-secret : length secret ≡ vector_bytes p
  length-secret = length-concat each_encoded

  length-h_of : length (h_of p key) ≡ 32
  length-h_of = length-drop (ek_bytes p) key.public ∙ omega (arith, o.long.public)

  length-z : length z ≡ 32
  unfolding joined_list
  length-z =
      length-words_to_bytes 8 (joined_list key.z)
      ∙ ap (λ (n : ℕ). 8 * n) (length-tab (length key.z.s0) _ ∙ o.long.z0)

  secret_part_joined : secret_part p (joined_dk p key) ≡ secret
  unfolding joined_dk
  secret_part_joined = take_at secret (key.public ++ z) (vector_bytes p) length-secret

  after_secret : drop (vector_bytes p) (joined_dk p key) ≡ key.public ++ z
  unfolding joined_dk
  after_secret = drop_at secret (key.public ++ z) (vector_bytes p) length-secret

  pub public_part_joined : public_part p (joined_dk p key) ≡ ek_of p key
  public_part_joined =
      ap (take (ek_bytes p)) after_secret ∙ take-append-le (ek_bytes p) key.public z (omega (arith, o.long.public))

  after_public : drop (vector_bytes p + ek_bytes p) (joined_dk p key) ≡ h_of p key ++ z
  after_public =
      sym (drop-drop (ek_bytes p) (vector_bytes p) (joined_dk p key))
      ∙ ap (drop (ek_bytes p)) after_secret
      ∙ drop-append-le (ek_bytes p) key.public z (omega (arith, o.long.public))

  pub hash_part_joined : hash_part p (joined_dk p key) ≡ h_of p key
  hash_part_joined = ap (take 32) after_public ∙ take_at (h_of p key) z 32 length-h_of

  pub z_part_joined : z_part p (joined_dk p key) ≡ z
  z_part_joined =
      ap (take 32)
      (sym (drop-drop 32 (vector_bytes p + ek_bytes p) (joined_dk p key))
      ∙ ap (drop 32) after_public
      ∙ drop_at (h_of p key) z 32 length-h_of)
      ∙ ap (λ (n : ℕ). take n z) (sym length-z)
      ∙ take-length z

  decoded : (i : ℕ) → i < p.k → byte_decode12 (parts 384 secret i) ≡ parts 256 (joined_coeffs key.s) i
  decoded i h =
      let f = joined_coeffs key.s in
      ap byte_decode12 (parts-concat each_encoded i h)
      ∙ byte_decode12-byte_encode (parts 256 f i)
      (length_part (256 * i) 256 f (omega (arith, part_fits 256 h, length-add key.s.s0 key.s.s1, o.long.s0)))
      (below-take 256 (below-drop (256 * i) (below-add key.s.s0 key.s.s1)))

  pub decrypt_joined : (c : List ℕ) → decrypt p (secret_part p (joined_dk p key)) c
      ≡ byte_encode 1 (map (compress 1) (noisy_message p (parts 256 (joined_coeffs key.s)) c))
  unfolding decrypt noisy_message
  decrypt_joined c =
      ap (λ (l : List ℕ). decrypt p l c) secret_part_joined
      ∙ ap (λ (l : List ℕ). byte_encode 1 (map (compress 1) (sub (second_decoded p c) (inverse_ntt l))))
      (dot_cong p.k decoded (λ i h. refl))
