-- Document 02, ask 5, on the silence of a sequence: import splits a key, calls are made on the split key, and then a
-- run. Counted are the choices of import's first shares and of the run's strip; the calls before it are any fixed ones.
use Rattle.std.specs.Prelude.{◌≡◌, List, [], ◌∷◌, ℕ, ◌^◌}
use Rattle.words.specs.Bounded.{Below}
use Rattle.worksheet.specs.Count.{hit}
use Rattle.refusals.specs.Refusals.{number, after}
use Rattle.parameters.specs.declared.Edition.{Edition}
use Rattle.parameters.specs.Ranks.{of_rank}
use Rattle.mlkem.specs.MlKem.{public_part}
use Rattle.split_key.specs.KeyState.{KeyState}
use Rattle.split_key.specs.Import.{imported_state}
use Rattle.decapsulation_run.specs.Input.{sheet}
use Rattle.silence.specs.Claim.{over_choices, Key, Ciphertext}
use Rattle.sequences.specs.Sequence.{Call, decaps, trace, refresh, input_of, answer_of, leaves_all}

-- what the types of the lent masks say: words are below 2^64
abbrev pub Typed : Call → Type 0
Typed (decaps rank e ct words coeffs k0 k1) = Unit {0}
Typed (trace rank e ct words coeffs step) = Unit {0}
Typed (refresh rank mask_coeffs mask_words) = Below (2 ^ 64) mask_words

abbrev pub AllTyped : List Call → Type 0
AllTyped [] = Unit {0}
AllTyped (c ∷ cs) = Typed c × AllTyped cs

-- the entries of the worksheet that a call runs; refreshing runs none
abbrev pub entries_of : KeyState → Call → List ℕ
entries_of h (decaps rank e ct words coeffs k0 k1) = (sheet e (of_rank rank) (input_of h ct words coeffs)).entries
entries_of h (trace rank e ct words coeffs step) = (sheet e (of_rank rank) (input_of h ct words coeffs)).entries
entries_of h (refresh rank mask_coeffs mask_words) = []

-- they are shown where the call is carried out
abbrev pub shown : KeyState → Call → List ℕ
shown h c = after (number (answer_of h c)) (entries_of h c) []

-- import and the run are told the rank, import the limit; `before` are the calls between them
module _ (rank limit : ℕ) (before : List Call) where
  -- the state in which the run finds the key dk that was split by the first shares a and w
  abbrev pub found : List ℕ → List ℕ → List ℕ → KeyState
  found dk a w = leaves_all (imported_state (of_rank rank) dk a w limit) before

  -- how many choices show v at step t of the run, which is told a strip
  unfoldable pub choices_in : ℕ → ℕ → ℕ → (List ℕ → List ℕ → Call) → List ℕ → ℕ → ℕ → ℕ
  choices_in firsts words coeffs run dk t v =
      over_choices firsts words coeffs (λ a w ws cs. hit t v (shown (found dk a w) (run ws cs)))

  -- under two accepted keys with one public part, for any ciphertext, step and value, they are equally many
  pub record SilentIn (e : Edition) (firsts words coeffs : ℕ) : Type 0 where
    pub decapsulation : {dk dk' c : List ℕ} → Key (of_rank rank) dk → Key (of_rank rank) dk'
        → Ciphertext (of_rank rank) c → public_part (of_rank rank) dk ≡ public_part (of_rank rank) dk'
        → (k0 k1 : List ℕ) (t v : ℕ)
        → (let run : List ℕ → List ℕ → Call = λ ws cs. decaps rank e c ws cs k0 k1 in
        choices_in firsts words coeffs run dk t v ≡ choices_in firsts words coeffs run dk' t v)
    pub traced : {dk dk' c : List ℕ} → Key (of_rank rank) dk → Key (of_rank rank) dk'
        → Ciphertext (of_rank rank) c → public_part (of_rank rank) dk ≡ public_part (of_rank rank) dk'
        → (step t v : ℕ)
        → (let run : List ℕ → List ℕ → Call = λ ws cs. trace rank e c ws cs step in
        choices_in firsts words coeffs run dk t v ≡ choices_in firsts words coeffs run dk' t v)
