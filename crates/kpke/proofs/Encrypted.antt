-- K-PKE.Encrypt (FIPS 203, algorithm 14) from the matrix in one slice and the vectors in others: part i of each is the
-- definition's polynomial i.
use mathlib.Core.Path.{◌≡◌, ap, ap₂, ◌∙◌}
use mathlib.Core.List.{List, ◌++◌, map}
use Prim.Native.Nat.{ℕ, ◌+◌, ◌*◌, ◌<◌}
use lib.ListN.{take, drop}
use Rattle.codec.specs.Bytes.{byte_encode, byte_decode, byte_decode12}
use Rattle.codec.specs.Compress.{compress, decompress}
use Rattle.ring.specs.Polynomial.{add}
use Rattle.transform.specs.Transform.{ntt, inverse_ntt}
use Rattle.parameters.specs.declared.Parameters.{Parameters}
use Rattle.parameters.specs.Lengths.{vector_bytes}
use Rattle.vectors.specs.Vector.{parts, concat}
use Rattle.kpke.specs.KPke.{noise, first_part, second_part, ephemeral, public_vector, encrypt}
use Rattle.vectors.specs.VectorLaws.{concat_cong, dot_cong}
use Rattle.vectors.specs.TransformedVector.{transformed_at}
use Rattle.kpke.specs.Expanded.{places_of, Expanded}
use Rattle.kpke.proofs.Parts.{each-noise, decoded_at, first_at}

module _ (p : Parameters) (ek m r : List ℕ) {a t y u v ct : List ℕ}
    (x : Expanded p.k (drop (vector_bytes p) ek) a) where
  pub encrypt-parts : t ≡ concat p.k (λ i. byte_decode12 (parts 384 (take (vector_bytes p) ek) i))
      → y ≡ concat p.k (λ i. ntt (noise p.eta1 r i))
      → u ≡ concat p.k (first_part p.k p.eta2 (places_of p.k a) (parts 256 y) r)
      → v ≡ second_part p.k p.eta2 (parts 256 t) (parts 256 y) m r
      → ct
      ≡ concat p.k (λ i. byte_encode p.du (map (compress p.du) (parts 256 u i)))
      ++ byte_encode p.dv (map (compress p.dv) v)
      → ct ≡ encrypt p ek m r
  unfolding encrypt ephemeral public_vector first_part second_part
  encrypt-parts et ey eu ev ec =
      let y_at = transformed_at (each-noise p.eta1 p.k r) ey in
      let first : (i : ℕ) → i < p.k → _ = λ i h. dot_cong p.k (λ j g. x.at j i g h) y_at in
      ec
      ∙ ap₂ (λ (k l : List ℕ). k ++ l)
      (concat_cong p.k
      (λ i h.
      ap (λ (l : List ℕ). byte_encode p.du (map (compress p.du) l))
      (first_at p.k p.eta2 (places_of p.k a) (parts 256 y) r eu i h
      ∙ ap (λ (l : List ℕ). add (inverse_ntt l) (noise p.eta2 r (p.k + i))) (first i h))))
      (ap (λ (l : List ℕ). byte_encode p.dv (map (compress p.dv) l))
      (ev
      ∙ ap
      (λ (l : List ℕ). add (add (inverse_ntt l) (noise p.eta2 r (2 * p.k))) (map (decompress 1) (byte_decode 1 m)))
      (dot_cong p.k (decoded_at p.k ek et) y_at)))
