-- The choices as masks that are drawn: the first shares, the split key of which they are a part, and the worksheet.
-- Counted over them, no value is given past the worksheet's end.
use Rattle.std.specs.Prelude.{ℕ, zero, suc, ◌+◌, ◌*◌, ◌^◌, ◌≤◌, ◌≡◌, refl, List, [], ◌∷◌, length, drop, replicate}
use Rattle.std.proofs.Common.{sym, ◌∙◌, arith, drop_at}
use Rattle.std.proofs.Math.Path.{ap}
use Rattle.words.specs.Bounded.{Below}
use Rattle.words.specs.BoundedLaws.{below-take, below-drop}
use Rattle.words.specs.Residue.{q}
use Rattle.worksheet.specs.Prog.{word, coeff, Prog, ◌>>=◌, mask, times}
use Rattle.worksheet.specs.Count.{hit}
use Rattle.worksheet.specs.CountLaws.{hits, tally_cong, strips-hit, hits_drawn}
use Rattle.worksheet.specs.Uses.{Uses, length-entries}
use Rattle.worksheet.specs.SharedList.{SharedList}
use Rattle.parameters.specs.declared.Edition.{Edition}
use Rattle.parameters.specs.declared.Parameters.{Parameters}
use Rattle.parameters.specs.Lengths.{vector_bytes, ek_bytes}
use Rattle.mlkem.specs.MlKem.{public_part, hash_part}
use Rattle.split_key.specs.SplitKey.{SplitKey, split_key, second_coeffs, second_words, public_of, split}
use Rattle.split_key.specs.SplitLengths.{length-public_part, length-hash_part}
use Rattle.stages.specs.Counts.{strip_words, strip_coeffs}
use Rattle.stages.specs.EntryCounts.{steps}
use Rattle.stages.specs.Worksheet.{worksheet}
use Rattle.stages.proofs.WorksheetUses.{uses-worksheet}
use Rattle.silence.specs.Claim.{over_choices, Key, Ciphertext, gives}

-- past the end of the worksheet no value is given
pub hit_past : (i v : ℕ) (l : List ℕ) → length l ≤ i → hit i v l ≡ 0
unfolding hit
hit_past i v [] h = refl
hit_past zero v (x ∷ l) h = absurd (omega arith)
hit_past (suc i) v (x ∷ l) h = hit_past i v l (omega arith)

-- ---- the public key and h, as import stores them

module _ {p : Parameters} {dk : List ℕ} (key : Key p dk) where
  public_hash : drop (ek_bytes p) (public_of p dk) ≡ hash_part p dk
  public_hash = drop_at (public_part p dk) (hash_part p dk) (ek_bytes p) (length-public_part key.accepts)

  pub length_hash : length (drop (ek_bytes p) (public_of p dk)) ≡ 32
  length_hash = ap length public_hash ∙ length-hash_part key.accepts

  pub below_hash : Below 256 (drop (ek_bytes p) (public_of p dk))
  below_hash = rw public_hash (below-take 32 (below-drop (vector_bytes p + ek_bytes p) key.bytes))

module _ (e : Edition) (p : Parameters) where
  -- ---- the first shares drawn, the key split with them, and the worksheet

  -- the split key that the worksheet runs on
  abbrev pub drawn_key : List ℕ → List ℕ → List ℕ → SplitKey
  drawn_key dk a w = split p dk a w

  abbrev pub drawn : List ℕ → List ℕ → Prog SharedList
  drawn dk c = do
    a ← times (256 * p.k) (λ j. mask coeff)
    w ← times 4 (λ j. mask word)
    worksheet e p (drawn_key dk a w) c

  -- the split with `public` for the public key and h
  abbrev pub split_with : List ℕ → List ℕ → List ℕ → List ℕ → SplitKey
  split_with dk a w public = split_key a (second_coeffs p dk a) w (second_words p dk w) public

  split-public : (dk a w : List ℕ) {public : List ℕ} → public_of p dk ≡ public
      → split p dk a w ≡ split_with dk a w public
  unfolding split
  split-public dk a w e = ap (split_with dk a w) e

  pub drawn-public : (dk a w : List ℕ) {public : List ℕ} → public_of p dk ≡ public
      → drawn_key dk a w ≡ split_with dk a w public
  drawn-public dk a w e = split-public dk a w e

  -- ---- the count

  abbrev pub counted : List ℕ → List ℕ → ℕ → ℕ → ℕ
  counted dk c t v = over_choices (256 * p.k) (strip_words e p) (strip_coeffs p) (gives e p dk c t v)

  module _ {dk c : List ℕ} (key : Key p dk) (ct : Ciphertext p c) where
    pub uses-split : (a w : List ℕ)
        → Uses (steps e p) (strip_words e p) (strip_coeffs p) (worksheet e p (drawn_key dk a w) c)
    unfolding split
    uses-split a w = uses-worksheet e p _ c (length_hash key) ct.long

    pub hits-drawn-counted : (t v : ℕ) → hits t v (drawn dk c) ≡ counted dk c t v
    hits-drawn-counted t v =
        hits_drawn t v coeff (256 * p.k) _
        ∙ tally_cong (replicate (256 * p.k) q) (λ a.
        hits_drawn t v word 4 _ ∙ tally_cong (replicate 4 (2 ^ 64)) (λ w. sym (strips-hit (uses-split a w) t v)))

    pub gives_past : (t v : ℕ) → steps e p ≤ t → (a w ws cs : List ℕ) → gives e p dk c t v a w ws cs ≡ 0
    gives_past t v h a w ws cs = hit_past t v _ (omega (arith, length-entries (uses-split a w) ws cs))
