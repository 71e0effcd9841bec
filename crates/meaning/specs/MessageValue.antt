-- Stages 2 and 4: the joined bytes of m' are FIPS 203's encoded message, and mu joins to its decompressed bits.
use Rattle.std.specs.Prelude.{◌≡◌, refl, ℕ, ◌*◌, ◌/◌, ◌%◌, ◌<◌, length, get_or, take, drop}
use Rattle.std.proofs.Math.Path.{sym, ap}
use Rattle.std.proofs.Common.{◌∙◌, div-one, arith, drop-cons, ext_get_or}
use mathlib.Core.List.{List, map, flatten}
use Rattle.std.proofs.Math.Nat.{mod-one}
use Rattle.std.proofs.lemmas.List.{length-map}
use Rattle.std.proofs.Math.ListN.{get_or-map}
use Rattle.words.specs.Tab.{tab}
use Rattle.words.specs.TabLaws.{get_or-tab, tab_of}
use Rattle.words.specs.Numeral.{value}
use Rattle.words.specs.Digit.{digit}
use Rattle.words.specs.DigitLaws.{digit_lt}
use Rattle.words.specs.LittleEndian.{words_to_bytes}
use Rattle.words.specs.LittleEndianLaws.{length-words_to_bytes, below-words_to_bytes}
use Rattle.words.specs.Residue.{q}
use Rattle.codec.specs.Bytes.{bits_of, byte_encode, byte_decode}
use Rattle.codec.specs.BytesLaws.{length-bits_of, below-bits_of, get_or-numbers_of, bits_of-numbers_of}
use Rattle.codec.specs.BytesLaws.{length-byte_encode, below-byte_encode, length-byte_decode}
use Rattle.codec.specs.Compress.{compress, decompress}
use Rattle.worksheet.specs.Gives.{Gives, ret_g, gives_bind, gives-times}
use Rattle.worksheet.specs.Sharing.{joined, none}
use Rattle.worksheet.specs.SharedList.{SharedList}
use Rattle.masked_sampler.specs.CoefficientLaws.{gives-bit_to_coeff, bit_1665}
use Rattle.stages.specs.Moves.{string_bit}
use Rattle.stages.specs.Worksheet.{planes_of, stage2, stage4}
use Rattle.meaning.specs.WordBits.{bits_of-words_to_bytes, get_or-bits_of, ext_bytes}
use Rattle.stages.specs.PlanesLaws.{length-planes_of}
use Rattle.meaning.specs.PlanesValue.{plane_of, digit-plane_of, gives-compress_poly}
use Rattle.meaning.specs.StageSharing.{PolySharing, BytesSharing}
use Rattle.meaning.specs.StageSharingLaws.{poly_sharing_length, poly_sharing_unzip, word_sharing_unzip}
use Rattle.meaning.specs.StageSharingLaws.{bytes_sharing_length, joined-string_bit}

-- ---- stage 2

-- of numbers of one bit the only planes, one for each group
bit_planes : (f : List ℕ) → planes_of 1 f ≡ tab 4 (λ g. plane_of f g 0)
unfolding planes_of tab flatten
bit_planes f = refl

module _ (f : List ℕ) (e : length f ≡ 256) where
  abbrev words : List ℕ
  words = planes_of 1 f

  bits_words : bits_of 64 words ≡ bits_of 1 f
  bits_words =
      let n : length (bits_of 64 words) ≡ 256 =
      length-bits_of 64 words ∙ ap (λ (k : ℕ). 64 * k) (length-planes_of 1 f) in
      let m : length (bits_of 1 f) ≡ 256 = length-bits_of 1 f ∙ ap (λ (k : ℕ). 1 * k) e in
      ext_get_or 0 (bits_of 64 words) (bits_of 1 f) (n ∙ sym m)
      (λ i h.
      get_or-bits_of 64 words i (omega arith)
      ∙ ap (λ (l : List ℕ). digit (i % 64) (get_or l (i / 64) 0)) (bit_planes f)
      ∙ ap (digit (i % 64)) (get_or-tab 4 (λ g. plane_of f g 0) (i / 64) 0 (omega arith))
      ∙ digit-plane_of f i 0
      ∙ sym (get_or-bits_of 1 f i (omega arith) ∙ rw (mod-one i, div-one i)))

  message_bytes : words_to_bytes 8 words ≡ byte_encode 1 f
  unfolding byte_encode
  message_bytes =
      ext_bytes (words_to_bytes 8 words) (byte_encode 1 f) (below-words_to_bytes 8 words) (below-byte_encode 1 f e)
      (length-words_to_bytes 8 words ∙ ap (λ (k : ℕ). 8 * k) (length-planes_of 1 f) ∙ sym (length-byte_encode 1 f))
      (bits_of-words_to_bytes 8 words
      ∙ bits_words
      ∙ sym (bits_of-numbers_of 8 32 (bits_of 1 f) (length-bits_of 1 f ∙ ap (λ (k : ℕ). 1 * k) e) (below-bits_of 1 f)))

pub gives-stage2 : {f : List ℕ} {s : SharedList} → PolySharing f s
    → Gives (BytesSharing 4 (byte_encode 1 (map (compress 1) f))) (stage2 s)
unfolding stage2
gives-stage2 {f} a =
    let bits = map (compress 1) f in
    gives_bind (gives-compress_poly 1 a) (λ m e.
    ret_g
    (record {
      words = planes_of 1 bits;
      sharing = word_sharing_unzip 4 none (length-planes_of 1 bits) e;
      bytes = message_bytes bits (length-map f (compress 1) ∙ poly_sharing_length a);
    }))

-- ---- stage 4

-- at depth 1 the numbers are the bits
get_or-byte_decode : (b : List ℕ) (i : ℕ) → length b ≡ 32 → i < 256
    → get_or (byte_decode 1 b) i 0 ≡ get_or (bits_of 8 b) i 0
unfolding byte_decode value
get_or-byte_decode b i e h =
    let l = bits_of 8 b in
    let w : 1 * i ≡ i = omega arith in
    get_or-numbers_of 1 256 l i h
    ∙ ap (λ (k : ℕ). value 2 (take 1 (drop k l))) w
    ∙ ap (λ (m : List ℕ). value 2 (take 1 m)) (drop-cons l i 0 (omega (arith, length-bits_of 8 b)))
    ∙ omega arith

pub gives-stage4 : {b : List ℕ} {s : SharedList} → BytesSharing 4 b s
    → Gives (PolySharing (map (decompress 1) (byte_decode 1 b))) (stage4 s)
unfolding stage4
gives-stage4 {b} {s} a =
    gives_bind
    (gives-times _ 256 (λ i h.
    gives-bit_to_coeff 1665 (string_bit s i) (digit_lt (i % 64) (get_or s.s0 (i / 64) 0)))) (λ f r.
    ret_g (rw decoded (poly_sharing_unzip (λ i h. r.at none i h))))
  where
    decoded : map (decompress 1) (byte_decode 1 b) ≡ tab 256 (λ i. joined (string_bit s i) * 1665 % q)
    decoded =
        tab_of (decompress 1 0) (map (decompress 1) (byte_decode 1 b)) 256
        (length-map (byte_decode 1 b) (decompress 1) ∙ length-byte_decode 1 b)
        (λ i h.
        get_or-map (decompress 1) (byte_decode 1 b) i 0
        ∙ ap (decompress 1) (get_or-byte_decode b i (bytes_sharing_length a) h)
        ∙ sym
        (ap (λ (y : ℕ). y * 1665 % q) (joined-string_bit a i (omega arith))
        ∙ bit_1665 (get_or (bits_of 8 b) i 0) ((below-bits_of 8 b).at i)))
