-- The words of a ciphertext's planes: two ciphertexts are equal where all these words are, and those of an encoded
-- ciphertext are the words of the numbers that it encodes.
use Rattle.std.specs.Prelude.{◌≡◌, ℕ, ◌*◌, ◌<◌, length, drop}
use Rattle.std.proofs.Math.Path.{refl, ap, ap₂}
use Rattle.std.proofs.Common.{sym, ◌∙◌, arith, length-drop, drop_at}
use mathlib.Core.List.{List, ◌++◌, flatten}
use Rattle.std.proofs.Math.ListN.{take-append-drop, length-append}
use Rattle.words.specs.Bounded.{Below}
use Rattle.words.specs.BoundedLaws.{below_append, below-take, below-drop}
use Rattle.words.specs.Part.{length_part, part_append, part_fits}
use Rattle.words.specs.Tab.{tab}
use Rattle.words.specs.TabLaws.{tab_cong}
use Rattle.codec.specs.Bytes.{byte_encode, byte_decode}
use Rattle.codec.specs.BytesLaws.{length-byte_encode, below-byte_encode, length-byte_decode, below-byte_decode}
use Rattle.codec.specs.BytesLaws.{byte_decode-byte_encode, byte_encode-byte_decode}
use Rattle.parameters.specs.declared.Parameters.{Parameters}
use Rattle.parameters.specs.Lengths.{ct_bytes}
use Rattle.vectors.specs.Vector.{parts, concat}
use Rattle.vectors.specs.VectorLaws.{Each, length-concat, below-concat}
use Rattle.vectors.specs.VectorLaws.{concat_cong, concat-parts, parts-concat}
use Rattle.stages.specs.Worksheet.{planes_of, ciphertext_planes, word_count}
use Rattle.stages.specs.FlattenLaws.{length-flatten, flatten_cancel}
use Rattle.stages.specs.FlattenLaws.{append_cancel_front, append_cancel_back}
use Rattle.stages.specs.PlanesLaws.{length-planes_of}
use Rattle.meaning.specs.PlanesValue.{Numbers, ext_planes_of}

-- a string of a ciphertext's length
pub record Ciphertext (p : Parameters) (c : List ℕ) : Type 0 where
  pub long : length c ≡ ct_bytes p
  pub bytes : Below 256 c

module _ (p : Parameters) where
  -- the numbers that it encodes: of u, and of v
  abbrev first_bytes : ℕ
  first_bytes = 32 * p.du * p.k

  abbrev u_numbers : List ℕ → ℕ → List ℕ
  u_numbers c i = byte_decode p.du (parts (32 * p.du) c i)

  abbrev v_numbers : List ℕ → List ℕ
  v_numbers c = byte_decode p.dv (drop first_bytes c)

  -- the words of the planes of the numbers u and v
  unfoldable pub words_of : (ℕ → List ℕ) → List ℕ → List ℕ
  words_of u v = flatten (tab p.k (λ i. planes_of p.du (u i))) ++ planes_of p.dv v

  ciphertext_planes_numbers : (c : List ℕ) → ciphertext_planes p c ≡ words_of (u_numbers c) (v_numbers c)
  unfolding ciphertext_planes words_of
  ciphertext_planes_numbers c = refl

  each_words : (u : ℕ → List ℕ) → Each (4 * p.du) p.k (λ i. planes_of p.du (u i))
  each_words u = record { long = λ i h. length-planes_of p.du (u i) }

  length_words_of : (u : ℕ → List ℕ) (v : List ℕ) → length (words_of u v) ≡ word_count p
  unfolding words_of
  length_words_of u v =
      length-append (flatten (tab p.k (λ i. planes_of p.du (u i)))) (planes_of p.dv v)
      ∙ omega (arith, length-flatten (each_words u), length-planes_of p.dv v)

  pub length_ciphertext_planes : (c : List ℕ) → length (ciphertext_planes p c) ≡ word_count p
  length_ciphertext_planes c = ap length (ciphertext_planes_numbers c) ∙ length_words_of (u_numbers c) (v_numbers c)

  -- ---- the ciphertext that encodes the numbers u and v

  unfoldable pub encoded : (ℕ → List ℕ) → List ℕ → List ℕ
  encoded u v = concat p.k (λ i. byte_encode p.du (u i)) ++ byte_encode p.dv v

  module _ {u : ℕ → List ℕ} {v : List ℕ}
      (nu : (i : ℕ) → i < p.k → Numbers p.du (u i)) (nv : Numbers p.dv v) where
    each_encoded : Each (32 * p.du) p.k (λ i. byte_encode p.du (u i))
    each_encoded = record { long = λ i h. length-byte_encode p.du (u i) }

    pub encoded_ciphertext : Ciphertext p (encoded u v)
    unfolding encoded
    encoded_ciphertext =
        let first = concat p.k (λ i. byte_encode p.du (u i)) in
        record {
          long = length-append first (byte_encode p.dv v)
              ∙ omega (arith, length-concat each_encoded, length-byte_encode p.dv v);
          bytes = below_append first
              (below-concat p.k (omega arith) (λ i h. below-byte_encode p.du (u i) (nu i h).long))
              (below-byte_encode p.dv v nv.long);
        }

    u_numbers_encoded : (i : ℕ) → i < p.k → u_numbers (encoded u v) i ≡ u i
    unfolding encoded
    u_numbers_encoded i h =
        ap (byte_decode p.du)
        (part_append (32 * p.du * i) (32 * p.du) _ _
        (omega (arith, part_fits (32 * p.du) h, length-concat each_encoded))
        ∙ parts-concat each_encoded i h)
        ∙ byte_decode-byte_encode p.du (u i) (nu i h).long (nu i h).below

    v_numbers_encoded : v_numbers (encoded u v) ≡ v
    unfolding encoded
    v_numbers_encoded =
        ap (byte_decode p.dv)
        (drop_at (concat p.k (λ i. byte_encode p.du (u i))) (byte_encode p.dv v) first_bytes
        (length-concat each_encoded))
        ∙ byte_decode-byte_encode p.dv v nv.long nv.below

    pub ciphertext_planes_encoded : ciphertext_planes p (encoded u v) ≡ words_of u v
    unfolding ciphertext_planes words_of
    ciphertext_planes_encoded =
        ap₂ (λ (l m : List ℕ). l ++ m)
        (ap flatten (tab_cong p.k (λ i h. ap (planes_of p.du) (u_numbers_encoded i h))))
        (ap (planes_of p.dv) v_numbers_encoded)

  -- ---- a ciphertext is the encoding of its numbers, and these are found again in its words

  module _ {c : List ℕ} (a : Ciphertext p c) where
    length_first : (i : ℕ) → i < p.k → length (parts (32 * p.du) c i) ≡ 32 * p.du
    length_first i h =
        length_part (32 * p.du * i) (32 * p.du) c (omega (arith, part_fits (32 * p.du) h, a.long))

    length_second : length (drop first_bytes c) ≡ 32 * p.dv
    length_second = length-drop first_bytes c ∙ omega (arith, a.long)

    u_numbers_lem : (i : ℕ) → i < p.k → Numbers p.du (u_numbers c i)
    u_numbers_lem i h =
        record { long = length-byte_decode p.du _; below = below-byte_decode p.du _ (length_first i h) }

    v_numbers_lem : Numbers p.dv (v_numbers c)
    v_numbers_lem = record { long = length-byte_decode p.dv _; below = below-byte_decode p.dv _ length_second }

    encoded_numbers : encoded (u_numbers c) (v_numbers c) ≡ c
    unfolding encoded
    encoded_numbers =
        ap₂ (λ (l m : List ℕ). l ++ m)
        (concat_cong p.k (λ i h.
        byte_encode-byte_decode p.du _ (length_first i h)
        (below-take (32 * p.du) (below-drop (32 * p.du * i) a.bytes)))
        ∙ concat-parts (32 * p.du) p.k c)
        (byte_encode-byte_decode p.dv _ length_second (below-drop first_bytes a.bytes))
        ∙ take-append-drop first_bytes c

  module _ {c d : List ℕ} (a : Ciphertext p c) (b : Ciphertext p d)
      (e : ciphertext_planes p c ≡ ciphertext_planes p d) where
    -- the words of u, and of v
    abbrev u_planes : List ℕ → List ℕ
    u_planes l = flatten (tab p.k (λ i. planes_of p.du (u_numbers l i)))

    abbrev v_planes : List ℕ → List ℕ
    v_planes l = planes_of p.dv (v_numbers l)

    length_u_planes : length (u_planes c) ≡ length (u_planes d)
    length_u_planes = length-flatten (each_words (u_numbers c)) ∙ sym (length-flatten (each_words (u_numbers d)))

    same_u : (i : ℕ) → i < p.k → u_numbers c i ≡ u_numbers d i
    unfolding ciphertext_planes
    same_u i h =
        ext_planes_of p.du (u_numbers_lem a i h) (u_numbers_lem b i h)
        (flatten_cancel (each_words (u_numbers c)) (each_words (u_numbers d))
        (append_cancel_front (u_planes c) (u_planes d) (v_planes c) (v_planes d) length_u_planes e) i h)

    same_v : v_numbers c ≡ v_numbers d
    unfolding ciphertext_planes
    same_v =
        ext_planes_of p.dv (v_numbers_lem a) (v_numbers_lem b)
        (append_cancel_back (u_planes c) (u_planes d) (v_planes c) (v_planes d) length_u_planes e)

    same_encoded : encoded (u_numbers c) (v_numbers c) ≡ encoded (u_numbers d) (v_numbers d)
    unfolding encoded
    same_encoded =
        ap₂ (λ (l m : List ℕ). l ++ m)
        (concat_cong p.k (λ i h. ap (byte_encode p.du) (same_u i h)))
        (ap (byte_encode p.dv) same_v)

    pub ext_ciphertext_planes : c ≡ d
    ext_ciphertext_planes = sym (encoded_numbers a) ∙ same_encoded ∙ encoded_numbers b
