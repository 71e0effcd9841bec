-- The split that import makes joins to the imported key with its secret coefficients reduced. FIPS 203's decapsulation
-- reads them modulo q, so that masked decapsulation of the split joins to that of the key as it was.
use Rattle.std.specs.Prelude.{◌≡◌, refl, ℕ, ◌+◌, ◌%◌, ◌<◌, length, get_or, drop}
use Rattle.std.proofs.Common.{sym, ◌∙◌, arith, length-drop, take-append-drop, ext_get_or, take_all, drop-drop}
use Rattle.std.proofs.Math.Path.{ap, ap₂}
use mathlib.Core.List.{List, map, ◌++◌, append_assoc}
use Rattle.std.proofs.Math.ListN.{get_or-map}
use Rattle.std.proofs.Math.Seq.{take_at, drop_at}
use Rattle.words.specs.WordLaws.{xor-bits}
use Rattle.words.specs.Bounded.{Below}
use Rattle.words.specs.BoundedLaws.{below_append, below-take, below-drop, below-tab}
use Rattle.words.specs.LittleEndian.{words_to_bytes}
use Rattle.words.specs.LittleEndianLaws.{words_to_bytes_words}
use Rattle.words.specs.TabLaws.{tab_cong}
use Rattle.words.specs.Residue.{q}
use Rattle.codec.specs.Bytes.{byte_encode}
use Rattle.codec.specs.BytesLaws.{length-byte_decode12}
use Rattle.codec.specs.Compress.{compress}
use Rattle.ring.specs.Polynomial.{add, sub}
use Rattle.ring.specs.Sum.{length-add, get_or_add_lt}
use Rattle.transform.specs.Transform.{inverse_ntt}
use Rattle.worksheet.specs.Prog.{word, coeff, bound}
use Rattle.worksheet.specs.Run.{run}
use Rattle.worksheet.specs.SharedList.{shared_list, joined_list}
use Rattle.masked_fips202.specs.XorBytes.{lane_of-bits}
use Rattle.parameters.specs.declared.Edition.{Edition}
use Rattle.parameters.specs.declared.Parameters.{Parameters}
use Rattle.parameters.specs.Lengths.{vector_bytes, ek_bytes, ct_bytes}
use Rattle.kpke.specs.KPke.{second_decoded, noisy_message, decrypt}
use Rattle.vectors.specs.Vector.{parts, concat, coefficients}
use Rattle.vectors.specs.VectorLaws
use Rattle.vectors.specs.VectorLaws.{length-concat, concat_cong, parts-concat, dot_cong, reduced_coefficients}
use Rattle.mlkem.specs.MlKem.{secret_part, public_part, hash_part, z_part}
use Rattle.mlkem.specs.Editions.{decaps}
use Rattle.split_key.specs.SplitKey.{ek_of, h_of, second_coeffs, second_words, public_of, split}
use Rattle.split_key.specs.Importable.{Importable}
use Rattle.split_key.specs.SplitLengths.{length-public_part, length-z_part, split_sized}
use Rattle.split_key.specs.SplitLaws.{join_coefficients, join_words}
use Rattle.parameters.specs.Fits.{Fits}
use Rattle.stages.specs.Worksheet.{worksheet}
use Rattle.meaning.specs.JoinedDk.{joined_dk}
use Rattle.meaning.specs.ReducedDk.{secret_at, reduced_dk}
use Rattle.meaning.specs.JoinedDkLaws.{public_part_joined, hash_part_joined, z_part_joined, decrypt_joined}
use Rattle.meaning.specs.InOrder.{InOrder}
use Rattle.meaning.proofs.WorksheetValue.{decaps_by, run-worksheet}

module _ {p : Parameters} {dk a w : List ℕ} (o : Importable p dk a w) where
  below-z_part : Below 256 (z_part p dk)
  below-z_part = below-take 32 (below-drop (vector_bytes p + ek_bytes p + 32) o.bytes)

  pub split_in_order : InOrder p (split p dk a w)
  unfolding split second_words
  split_in_order =
      record {
        long = split_sized o.accepted a w o.coeffs o.words;
        words0 = o.bits;
        words1 = below-tab 4 (omega arith) (λ i h.
            (xor-bits (lane_of-bits below-z_part i) (record { lt = o.bits.at i })).lt);
        bytes = below-drop (ek_bytes p)
            (below_append (public_part p dk)
            (below-take (ek_bytes p) (below-drop (vector_bytes p) o.bytes))
            (below-take 32 (below-drop (vector_bytes p + ek_bytes p) o.bytes)));
      }

  -- ---- the secret part

  each_decoded : VectorLaws.Each 256 p.k (secret_at p dk)
  each_decoded = record { long = λ i h. length-byte_decode12 (parts 384 (secret_part p dk) i) }

  joined_coeffs_lem : add a (second_coeffs p dk a) ≡ concat p.k (secret_at p dk)
  joined_coeffs_lem =
      let x = coefficients p.k (secret_part p dk) in
      ext_get_or 0 (add a (second_coeffs p dk a)) (concat p.k (secret_at p dk))
      (length-add a (second_coeffs p dk a) ∙ o.coeffs ∙ sym (length-concat each_decoded))
      (λ i h.
      get_or_add_lt a (second_coeffs p dk a) i (omega (arith, length-add a (second_coeffs p dk a)))
      ∙ join_coefficients p dk a i o.coeffs
      ∙ sym (get_or-map (λ (n : ℕ). n % q) x i 0)
      ∙ ap (λ (m : List ℕ). get_or m i 0) (reduced_coefficients p.k (secret_part p dk)))

  joined_at : (i : ℕ) → i < p.k → parts 256 (add a (second_coeffs p dk a)) i ≡ secret_at p dk i
  joined_at i h = ap (λ (l : List ℕ). parts 256 l i) joined_coeffs_lem ∙ parts-concat each_decoded i h

  -- ---- z

  joined_z : words_to_bytes 8 (joined_list (shared_list w (second_words p dk w))) ≡ z_part p dk
  unfolding joined_list
  joined_z =
      ap (words_to_bytes 8) (rw o.words (tab_cong 4 (join_words p dk w)))
      ∙ words_to_bytes_words 8 (z_part p dk) below-z_part 4 (length-z_part o.accepted)

  -- ---- the whole

  after_secret : public_of p dk ++ z_part p dk ≡ drop (vector_bytes p) dk
  after_secret =
      let v = vector_bytes p in
      let e = ek_bytes p in
      append_assoc (public_part p dk) (hash_part p dk) (z_part p dk)
      ∙ ap (λ (l : List ℕ). public_part p dk ++ l)
      (ap (λ (l : List ℕ). hash_part p dk ++ l)
      (take_all 32 (drop (v + e + 32) dk) (omega (arith, length-drop (v + e + 32) dk, o.accepted.long))
      ∙ sym (drop-drop 32 (v + e) dk))
      ∙ take-append-drop 32 (drop (v + e) dk)
      ∙ sym (drop-drop e v dk))
      ∙ take-append-drop e (drop v dk)

  -- the joined key is the imported one with its secret coefficients reduced
  pub joined_dk-split : joined_dk p (split p dk a w) ≡ reduced_dk p dk
  unfolding joined_dk split reduced_dk
  joined_dk-split =
      ap₂ (λ (s z : List ℕ). s ++ (public_of p dk ++ z))
      (concat_cong p.k (λ i h. ap (byte_encode 12) (joined_at i h))) joined_z
      ∙ ap (λ (l : List ℕ). concat p.k (λ i. byte_encode 12 (secret_at p dk i)) ++ l) after_secret

  -- ---- decapsulation, which reads the secret's coefficients modulo q

  ek_of-split : ek_of p (split p dk a w) ≡ public_part p dk
  unfolding split
  ek_of-split = take_at (public_part p dk) (hash_part p dk) (ek_bytes p) (length-public_part o.accepted)

  h_of-split : h_of p (split p dk a w) ≡ hash_part p dk
  unfolding split
  h_of-split = drop_at (public_part p dk) (hash_part p dk) (ek_bytes p) (length-public_part o.accepted)

  z_part-split : z_part p (joined_dk p (split p dk a w)) ≡ z_part p dk
  unfolding split
  z_part-split = z_part_joined split_in_order ∙ joined_z

  decrypt-split : (c : List ℕ)
      → decrypt p (secret_part p (joined_dk p (split p dk a w))) c ≡ decrypt p (secret_part p dk) c
  unfolding split decrypt noisy_message
  decrypt-split c =
      decrypt_joined split_in_order c
      ∙ ap (λ (l : List ℕ). byte_encode 1 (map (compress 1) (sub (second_decoded p c) (inverse_ntt l))))
      (dot_cong p.k joined_at (λ i h. refl))

  pub decaps-split : (e : Edition) (c : List ℕ) → decaps e p (joined_dk p (split p dk a w)) c ≡ decaps e p dk c
  decaps-split e c =
      rw (
        decaps_by e p (joined_dk p (split p dk a w)) c,
        decaps_by e p dk c,
        decrypt-split c,
        public_part_joined split_in_order ∙ ek_of-split,
        hash_part_joined split_in_order ∙ h_of-split,
        z_part-split,
      )

  -- on every strip of masks in range
  pub run-split : (e : Edition) → Fits p → (c : List ℕ) → length c ≡ ct_bytes p → Below 256 c
      → {ws cs : List ℕ} → Below (bound word) ws → Below (bound coeff) cs
      → words_to_bytes 8 (joined_list (run (worksheet e p (split p dk a w) c) ws cs).value) ≡ decaps e p dk c
  run-split e fits c n b h k = run-worksheet e p fits (split p dk a w) split_in_order c n b h k ∙ decaps-split e c
