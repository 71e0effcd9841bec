-- Stages 1 and 6: the shares of the noisy message and of the ciphertext's polynomials join to FIPS 203's, by linearity.
use Rattle.std.specs.Prelude.{◌≡◌, refl, get_or, drop, replicate}
use Rattle.std.proofs.Math.Path.{sym, ap, ap₂}
use Rattle.std.proofs.Common.{◌∙◌, arith, lt-ltb, le-ltb, length-take}
use mathlib.Core.List.{List}
use Prim.Native.Nat.{ℕ, ◌+◌, ◌*◌, ◌<◌, ◌≤◌}
use Rattle.std.proofs.Math.Decide.{dec_lt}
use Rattle.std.proofs.Math.ListN.{length, length-map, length-replicate}
use Rattle.words.specs.Part.{length_part, part_fits}
use Rattle.codec.specs.Bytes.{byte_decode, byte_decode12}
use Rattle.codec.specs.BytesLaws.{length-byte_decode, length-byte_decode12}
use Rattle.codec.specs.Compress.{decompress}
use Rattle.ring.specs.Polynomial.{add, sub}
use Rattle.ring.specs.Sum.{length-add, length-sub, add_swap, part_add, sub_shares}
use Rattle.sampling.specs.Sample.{sample_ntt, accepted}
use Rattle.transform.specs.Transform.{ntt, inverse_ntt}
use Rattle.transform.specs.Linear.{ntt-linear, inverse_ntt-linear}
use Rattle.worksheet.specs.Pass.{enter_both}
use Rattle.worksheet.specs.PassLaws.{gives-enter_both}
use Rattle.worksheet.specs.Turns.{Each}
use Rattle.worksheet.specs.Gives.{Gives, gives_weaken, gives-times}
use Rattle.worksheet.specs.SharedList.{SharedList}
use Rattle.parameters.specs.declared.Parameters.{Parameters}
use Rattle.parameters.specs.Lengths.{vector_bytes}
use Rattle.hash_functions.specs.Functions.{XOF}
use Rattle.vectors.specs.Vector.{parts, dot}
use Rattle.kpke.specs.KPke.{matrix, first_decoded, second_decoded, noisy_message}
use Rattle.vectors.specs.VectorLaws.{dot_cong}
use Rattle.vectors.specs.DotLaws.{length-dot, dot-add_left, dot-add_right}
use Rattle.stages.specs.Moves.{nothing, shares0, shares1}
use Rattle.stages.specs.Worksheet.{stage1, u_share, v_share, uv_share, stage6}
use Rattle.meaning.specs.JoinedDk.{joined_coeffs}
use Rattle.meaning.specs.StageSharing.{PolySharing}

-- two lists of 256 coefficients whose sum is f, entered
gives_poly : (f a b : List ℕ) → length a ≡ 256 → length b ≡ 256 → add a b ≡ f
    → Gives (PolySharing f) (enter_both 256 a b)
gives_poly f a b e k s =
    gives_weaken (λ z w. rw w (record { long0 = e; long1 = k; sums = s })) (gives-enter_both 256 a b e k)

-- ---- stage 1

module _ (p : Parameters) (c : List ℕ) where
  length-second_decoded : length (second_decoded p c) ≡ 256
  unfolding second_decoded
  length-second_decoded =
      let b = byte_decode p.dv (drop (32 * p.du * p.k) c) in
      length-map b (decompress p.dv) ∙ length-byte_decode p.dv (drop (32 * p.du * p.k) c)

  length_inverse : (f g : ℕ → List ℕ) → length (inverse_ntt (dot p.k f g)) ≡ 256
  length_inverse f g = inverse_ntt-linear.long (dot p.k f g) (length-dot p.k f g)

  noisy_message-add : (s : SharedList) → length s.s0 ≡ 256 * p.k → length s.s1 ≡ 256 * p.k
      → add (noisy_message p (parts 256 s.s0) c)
      (sub (replicate 256 0) (inverse_ntt (dot p.k (parts 256 s.s1) (λ i. ntt (first_decoded p c i)))))
      ≡ noisy_message p (parts 256 (joined_coeffs s)) c
  unfolding noisy_message
  noisy_message-add s e0 e1 =
      let u : ℕ → List ℕ = λ i. ntt (first_decoded p c i) in
      let a = parts 256 s.s0 in
      let b = parts 256 s.s1 in
      let long : (i : ℕ) → i < p.k → length (a i) ≡ length (b i) = λ i h.
      length_part (256 * i) 256 s.s0 (omega (arith, part_fits 256 h))
      ∙ sym (length_part (256 * i) 256 s.s1 (omega (arith, part_fits 256 h))) in
      (rw length-second_decoded at
      (sub_shares (second_decoded p c) (inverse_ntt (dot p.k a u)) (inverse_ntt (dot p.k b u))
      (length-second_decoded ∙ sym (length_inverse a u)) (length_inverse a u ∙ sym (length_inverse b u))))
      ∙ ap (sub (second_decoded p c))
      (sym (inverse_ntt-linear.adds (dot p.k a u) (dot p.k b u) (length-dot p.k a u) (length-dot p.k b u))
      ∙ ap inverse_ntt
      (sym (dot-add_left p.k a b u long)
      ∙ dot_cong p.k
      (λ i h. sym (part_add (256 * i) 256 s.s0 s.s1 (omega (arith, part_fits 256 h)))) (λ i h. refl)))

  pub gives-stage1 : (s : SharedList) → length s.s0 ≡ 256 * p.k → length s.s1 ≡ 256 * p.k
      → Gives (PolySharing (noisy_message p (parts 256 (joined_coeffs s)) c)) (stage1 p s c)
  unfolding stage1 noisy_message
  gives-stage1 s e0 e1 =
      gives_poly _ _ _
      (length-sub _ _ ∙ length-second_decoded)
      (length-sub _ _ ∙ length-replicate {A = ℕ} 256 0)
      (noisy_message-add s e0 e1)

-- ---- stage 6

module _ (k : ℕ) (a : ℕ → List ℕ) (short : (j : ℕ) → j < k → length (a j) ≤ 256) where
  -- a row of products with the transformed vector y
  abbrev row : (ℕ → List ℕ) → List ℕ
  row y = inverse_ntt (dot k a (λ j. ntt (y j)))

  length-row : (y : ℕ → List ℕ) → length (row y) ≡ 256
  length-row y = inverse_ntt-linear.long _ (length-dot k a (λ j. ntt (y j)))

  row-add : (y : List SharedList) {f : ℕ → List ℕ} → ((j : ℕ) → j < k → PolySharing (f j) (get_or y j nothing))
      → add (row (shares0 y)) (row (shares1 y)) ≡ row f
  row-add y s =
      let f : ℕ → List ℕ = λ j. ntt (shares0 y j) in
      let g : ℕ → List ℕ = λ j. ntt (shares1 y j) in
      let e0 : (j : ℕ) → j < k → length (shares0 y j) ≡ 256 = λ j h. (s j h).long0 in
      let e1 : (j : ℕ) → j < k → length (shares1 y j) ≡ 256 = λ j h. (s j h).long1 in
      sym (inverse_ntt-linear.adds (dot k a f) (dot k a g) (length-dot k a f) (length-dot k a g))
      ∙ ap inverse_ntt
      (sym
      (dot-add_right k a f g short
      (λ j h. ntt-linear.long (shares0 y j) (e0 j h) ∙ sym (ntt-linear.long (shares1 y j) (e1 j h))))
      ∙ dot_cong k (λ j h. refl)
      (λ j h. sym (ntt-linear.adds (shares0 y j) (shares1 y j) (e0 j h) (e1 j h)) ∙ ap ntt (s j h).sums))

length-matrix : (rho : List ℕ) (i j : ℕ) → length (matrix rho i j) ≤ 256
unfolding sample_ntt
length-matrix rho i j = omega (arith, length-take 256 (accepted 280 (XOF rho i j)))

module _ (p : Parameters) (ek : List ℕ) where
  -- column i of the matrix, and the public vector
  abbrev column : ℕ → ℕ → List ℕ
  column i j = matrix (drop (vector_bytes p) ek) j i

  short_column : (i j : ℕ) → j < p.k → length (column i j) ≤ 256
  short_column i j h = length-matrix (drop (vector_bytes p) ek) j i

  abbrev vector : ℕ → List ℕ
  vector j = byte_decode12 (parts 384 ek j)

  short_vector : (j : ℕ) → j < p.k → length (vector j) ≤ 256
  short_vector j h = omega (arith, length-byte_decode12 (parts 384 ek j))

  length-u_share : (n : ℕ → List ℕ) (i : ℕ) → length (u_share p ek n i) ≡ 256
  unfolding u_share
  length-u_share n i = length-add _ _ ∙ length-row p.k (column i) (short_column i) n

  length-v_share : (n : ℕ → List ℕ) (m : List ℕ) → length (v_share p ek n m) ≡ 256
  unfolding v_share
  length-v_share n m = length-add _ _ ∙ length-add _ _ ∙ length-row p.k vector short_vector n

  pub length-uv_share : (n : ℕ → List ℕ) (m : List ℕ) (i : ℕ) → length (uv_share p ek n m i) ≡ 256
  length-uv_share n m i = go (dec_lt i p.k)
    where
      go : Dec (i < p.k) → length (uv_share p ek n m i) ≡ 256
      go (yes h) = rw (lt-ltb i p.k h) (length-u_share n i)
      go (no h) = rw (le-ltb i p.k (omega arith)) (length-v_share n m)

  -- of shares of the 2 k + 1 polynomials f and of m
  module _ {f : ℕ → List ℕ} {m : List ℕ} {n : List SharedList} {s : SharedList}
      (a : Each (λ j. PolySharing (f j)) (p.k + (p.k + 1)) n) (b : PolySharing m s) where
    y_shares : (j : ℕ) → j < p.k → PolySharing (f j) (get_or n j nothing)
    y_shares j h = a.at nothing j (omega arith)

    gives_u : (i : ℕ) → i < p.k
        → Gives (PolySharing (u_share p ek f i))
        (enter_both 256 (u_share p ek (shares0 n) i) (u_share p ek (shares1 n) i))
    unfolding u_share
    gives_u i h =
        let e = a.at nothing (p.k + i) (omega arith) in
        let long = length-row p.k (column i) (short_column i) in
        gives_poly _ _ _
        (length-add _ _ ∙ long (shares0 n))
        (length-add _ _ ∙ long (shares1 n))
        (add_swap _ _ _ _ (long (shares0 n) ∙ sym e.long0) (long (shares1 n) ∙ sym e.long1)
        ∙ ap₂ add (row-add p.k (column i) (short_column i) n y_shares) e.sums)

    gives_v : Gives (PolySharing (v_share p ek f m))
        (enter_both 256 (v_share p ek (shares0 n) s.s0) (v_share p ek (shares1 n) s.s1))
    unfolding v_share
    gives_v =
        let e = a.at nothing (2 * p.k) (omega arith) in
        let r0 = length-row p.k vector short_vector (shares0 n) in
        let r1 = length-row p.k vector short_vector (shares1 n) in
        gives_poly _ _ _
        (length-add _ _ ∙ length-add _ _ ∙ r0)
        (length-add _ _ ∙ length-add _ _ ∙ r1)
        (add_swap _ _ _ _ (length-add _ _ ∙ r0 ∙ sym b.long0) (length-add _ _ ∙ r1 ∙ sym b.long1)
        ∙ ap₂ add
        (add_swap _ _ _ _ (r0 ∙ sym e.long0) (r1 ∙ sym e.long1)
        ∙ ap₂ add (row-add p.k vector short_vector n y_shares) e.sums)
        b.sums)

    pub gives-stage6 : Gives (Each (λ i. PolySharing (uv_share p ek f m i)) (p.k + 1)) (stage6 p ek n s)
    unfolding stage6
    gives-stage6 = gives-times (λ i. PolySharing (uv_share p ek f m i)) (p.k + 1) (λ i h. go i (dec_lt i p.k))
      where
        go : (i : ℕ) → Dec (i < p.k)
            → Gives (PolySharing (uv_share p ek f m i))
            (enter_both 256 (uv_share p ek (shares0 n) s.s0 i) (uv_share p ek (shares1 n) s.s1 i))
        go i (yes h) = rw (lt-ltb i p.k h) (gives_u i h)
        go i (no h) = rw (le-ltb i p.k (omega arith)) gives_v
