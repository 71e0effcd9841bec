-- Demand 2 in a sequence: a decapsulation that is carried out anywhere behind import gives the edition's secret of the
-- imported key, since the joined key stays what it was.
use Rattle.std.specs.Prelude.{◌≡◌, Bool, true, false, cond, List, [], ◌∷◌, ℕ, ◌+◌, ◌^◌, eqb, length}
use Rattle.std.proofs.Common.{sym, ap, ◌∙◌, subst, arith}
use Rattle.words.specs.WordLaws.{xor-bits}
use Rattle.words.specs.Bounded.{Below}
use Rattle.words.specs.BoundedLaws.{below-tab, below_append, below-take, below-drop}
use Rattle.words.specs.LittleEndian.{words_to_bytes}
use Rattle.worksheet.specs.SharedList.{shared_list, joined_list}
use Rattle.refusals.specs.Refusals.{number}
use Rattle.parameters.specs.declared.Edition.{Edition}
use Rattle.parameters.specs.declared.Parameters.{Parameters}
use Rattle.parameters.specs.Fits.{Fits}
use Rattle.parameters.specs.Lengths.{vector_bytes, ek_bytes}
use Rattle.mlkem.specs.MlKem.{public_part}
use Rattle.mlkem.specs.Editions as kem
use Rattle.split_key.specs.SplitKey.{SplitKey, split}
use Rattle.split_key.specs.KeyState.{KeyState}
use Rattle.split_key.specs.Import.{Imported}
use Rattle.split_key.specs.ImportLaws.{imported_importable}
use Rattle.split_key.specs.Refresh.{xor_words, fresh_key}
use Rattle.meaning.specs.JoinedDk.{joined_dk}
use Rattle.meaning.proofs.SplitValue.{split_in_order, decaps-split}
use Rattle.decapsulation.specs.Calls.{Decapsulated}
use Rattle.decapsulation.specs.Calls.{Typed as InputTyped}
use Rattle.decapsulation.specs.Demand2.{decaps_joins}
use Rattle.sequences.specs.Sequence.{Call, decaps, trace, refresh, input_of}
use Rattle.sequences.specs.Sequence.{answer_of, carried_out, leaves, leaves_all}
use Rattle.sequences.specs.Claim.{Typed, AllTyped}
use Rattle.sequences.proofs.JoinedKey.{joined_kept}

-- what the types of a split key's buffers say
record KeyTyped (key : SplitKey) : Type 0 where
  z0 : Below (2 ^ 64) key.z.s0
  z1 : Below (2 ^ 64) key.z.s1
  public : Below 256 key.public

-- ---- no call changes it

below-xor_words : {z masks : List ℕ} → Below (2 ^ 64) z → Below (2 ^ 64) masks → Below (2 ^ 64) (xor_words z masks)
unfolding xor_words
below-xor_words {z} b m =
    below-tab (length z) (omega arith) (λ i h.
    (xor-bits {n = 64} (record { lt = b.at i }) (record { lt = m.at i })).lt)

typed-carried_out : (h : KeyState) (c : Call) → Typed c → KeyTyped h.key → KeyTyped (carried_out h c).key
unfolding carried_out fresh_key
typed-carried_out h (decaps rank e ct words coeffs k0 k1) t k = k
typed-carried_out h (trace rank e ct words coeffs step) t k = k
typed-carried_out h (refresh rank mask_coeffs mask_words) t k =
    record { z0 = below-xor_words k.z0 t; z1 = below-xor_words k.z1 t; public = k.public }

typed-leaves : (h : KeyState) (c : Call) → Typed c → KeyTyped h.key → KeyTyped (leaves h c).key
typed-leaves h c t k = go (eqb (number (answer_of h c)) 0)
  where
    go : (b : Bool) → KeyTyped (cond b (carried_out h c) h).key
    go true = typed-carried_out h c t k
    go false = k

typed_kept : (h : KeyState) (calls : List Call) → AllTyped calls → KeyTyped h.key
    → KeyTyped (leaves_all h calls).key
unfolding leaves_all
typed_kept h [] t k = k
typed_kept h (c ∷ calls) t k = typed_kept (leaves h c) calls t.1 (typed-leaves h c t.0 k)

-- ---- from import on

module _ {p : Parameters} {dk mask_coeffs mask_words : List ℕ} {limit : ℕ} {h₀ h : KeyState}
    (i : Imported p dk mask_coeffs mask_words limit h₀ 0 h) (bytes : Below 256 dk)
    (words : Below (2 ^ 64) mask_words) where
  split_typed : KeyTyped (split p dk mask_coeffs mask_words)
  unfolding split
  split_typed =
      let o = split_in_order (imported_importable i bytes words) in
      record {
        z0 = o.words0;
        z1 = o.words1;
        public =
            below_append (public_part p dk) (below-take (ek_bytes p) (below-drop (vector_bytes p) bytes))
            (below-take 32 (below-drop (vector_bytes p + ek_bytes p) bytes));
      }

  imported_typed : KeyTyped h.key
  imported_typed = subst (λ (s : KeyState). KeyTyped s.key) (sym i.state) split_typed

  pub sequence_decaps : {e : Edition} {ct ws cs k0₀ k1₀ k0 k1 : List ℕ} {count : ℕ} → Fits p
      → (calls : List Call) → AllTyped calls
      → (let s = leaves_all h calls in
      Decapsulated e p (input_of s ct ws cs) s.limit s.count k0₀ k1₀ 0 count k0 k1)
      → Below 256 ct → Below (2 ^ 64) ws
      → words_to_bytes 8 (joined_list (shared_list k0 k1)) ≡ kem.decaps e p dk ct
  sequence_decaps {e} {ct} {ws} {cs} fits calls typed d ct-bytes strip-words =
      let k = typed_kept h calls typed imported_typed in
      let types : InputTyped (input_of (leaves_all h calls) ct ws cs) =
      record { z0 = k.z0; z1 = k.z1; public = k.public; ct = ct-bytes; words = strip-words } in
      decaps_joins d fits types
      ∙ ap (λ (l : List ℕ). kem.decaps e p l ct)
      (joined_kept p h calls ∙ ap (λ (s : KeyState). joined_dk p s.key) i.state)
      ∙ decaps-split (imported_importable i bytes words) e ct
