-- Stage 1 from the ciphertext's transformed polynomials in one slice.
use mathlib.Core.Path.{◌≡◌, refl, ap, ◌∙◌}
use mathlib.Core.List.{List, map}
use Prim.Native.Nat.{ℕ, ◌-◌, ◌*◌}
use native.Mathlib.Omega.{arith}
use lib.ListN.{length, take, replicate, length-map}
use Rattle.words.specs.Part.{part_take, part_fits}
use Rattle.codec.specs.Bytes.{byte_decode}
use Rattle.codec.specs.BytesLaws.{length-byte_decode}
use Rattle.codec.specs.Compress.{decompress}
use Rattle.ring.specs.Polynomial.{sub}
use Rattle.ring.specs.Sum.{length-sub}
use Rattle.transform.specs.Transform.{ntt, inverse_ntt}
use Rattle.worksheet.specs.declared.Recorder.{Recorder}
use Rattle.worksheet.specs.Pass.{enter_both}
use Rattle.worksheet.specs.Ran.{Makes}
use Rattle.worksheet.specs.SharedList.{SharedList, shared_list}
use Rattle.parameters.specs.declared.Parameters.{Parameters}
use Rattle.vectors.specs.Vector.{parts, concat, dot}
use Rattle.kpke.specs.KPke.{first_decoded, second_decoded, noisy_message}
use Rattle.vectors.specs.VectorLaws.{Each, parts-concat, concat_cong, dot_cong}
use Rattle.vectors.specs.TransformedVector.{transformed_at}
use Rattle.stages.specs.Worksheet.{stage1}

length_decoded : (d : ℕ) (b : List ℕ) → length (map (decompress d) (byte_decode d b)) ≡ 256
length_decoded d b = length-map (byte_decode d b) (decompress d) ∙ length-byte_decode d b

module _ (p : Parameters) (c : List ℕ) where
  -- the first part is lent as the part from 0 to its end
  pub transformed_first : {v w : List ℕ}
      → v
      ≡ concat p.k (λ i.
      map (decompress p.du) (byte_decode p.du (parts (32 * p.du) (take (32 * p.du * p.k - 0) c) i)))
      → w ≡ concat p.k (λ i. ntt (parts 256 v i)) → w ≡ concat p.k (λ i. ntt (first_decoded p c i))
  unfolding first_decoded
  transformed_first e f =
      f
      ∙ concat_cong p.k
      (λ i h.
      ap ntt
      (ap (λ (l : List ℕ). parts 256 l i) e
      ∙ parts-concat (record { long = λ j g. length_decoded p.du _ }) i h
      ∙ ap (λ (l : List ℕ). map (decompress p.du) (byte_decode p.du l))
      (part_take (32 * p.du * i) (32 * p.du) (32 * p.du * p.k - 0) c (omega (arith, part_fits (32 * p.du) h)))))

  each_decoded : Each 256 p.k (first_decoded p c)
  unfolding first_decoded
  each_decoded = record { long = λ i h. length_decoded p.du _ }

  module _ {u : List ℕ} (e : u ≡ concat p.k (λ i. ntt (first_decoded p c i))) where
    product : (s : List ℕ)
        → dot p.k (parts 256 s) (parts 256 u) ≡ dot p.k (λ i. parts 256 s i) (λ i. ntt (first_decoded p c i))
    product s =
        dot_cong p.k (λ j h. refl) (transformed_at each_decoded e)

    pub stage1_of_lem : (s : SharedList) {w₀ w₁ : List ℕ} {r r' : Recorder}
        → w₀ ≡ sub (second_decoded p c) (inverse_ntt (dot p.k (parts 256 s.s0) (parts 256 u)))
        → w₁ ≡ sub (replicate 256 0) (inverse_ntt (dot p.k (parts 256 s.s1) (parts 256 u)))
        → Makes (enter_both (length w₀) w₀ w₁) r (shared_list w₀ w₁) r' → Makes (stage1 p s c) r (shared_list w₀ w₁) r'
    unfolding stage1 noisy_message second_decoded
    stage1_of_lem s {w₀} e₀ e₁ m ws cs =
        let l : length w₀ ≡ 256 = ap length e₀ ∙ length-sub _ _ ∙ length_decoded p.dv _ in
        rw (
          ← ap (λ (l : List ℕ). sub (second_decoded p c) (inverse_ntt l)) (product s.s0),
          ← ap (λ (l : List ℕ). sub (replicate 256 0) (inverse_ntt l)) (product s.s1),
          ← e₀,
          ← e₁,
          ← l,
        )
        (m ws cs)
