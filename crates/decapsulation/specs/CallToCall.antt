-- From call to call, at any parameter set within the bounds: where import of a decapsulation key is carried out, the
-- split key that it leaves joins to that key with its secret coefficients reduced; where decapsulation on it is carried
-- out then, the two shares of K join to the edition's decapsulation of the key as it was. Lengths and ranges, and that
-- the key is accepted, follow from the answers. Bytes are below 256 and words below 2^64: at a call the types of the
-- slices say so, and of lists it is asked.
use Rattle.std.specs.Prelude.{◌≡◌, ℕ, ◌^◌}
use Rattle.std.proofs.Math.Path.{ap, ap₂}
use Rattle.std.proofs.Common.{◌∙◌}
use mathlib.Core.List.{List}
use Rattle.words.specs.Bounded.{Below}
use Rattle.words.specs.LittleEndian.{words_to_bytes}
use Rattle.worksheet.specs.Run.{run}
use Rattle.worksheet.specs.SharedList.{shared_list, joined_list}
use Rattle.parameters.specs.declared.Edition.{Edition}
use Rattle.parameters.specs.declared.Parameters.{Parameters}
use Rattle.parameters.specs.Fits.{Fits}
use Rattle.mlkem.specs.Editions as kem
use Rattle.split_key.specs.Import.{Imported}
use Rattle.split_key.specs.ImportLaws.{imported_importable}
use Rattle.refusals.specs.ReducedLaws.{reduced-below}
use Rattle.split_key.specs.SplitKey.{SplitKey}
use Rattle.split_key.specs.KeyState.{KeyState, key_state}
use Rattle.stages.specs.Worksheet.{worksheet}
use Rattle.meaning.specs.JoinedDk.{joined_dk}
use Rattle.meaning.specs.ReducedDk.{reduced_dk}
use Rattle.meaning.proofs.SplitValue.{joined_dk-split, run-split}
use Rattle.decapsulation_run.specs.Input.{Input}
use Rattle.decapsulation.specs.Calls.{decaps_shares, Decapsulated}
use Rattle.decapsulation.specs.Demand2.{decapsulated_tested}

pub imported_joins : {p : Parameters} {dk mask_coeffs mask_words : List ℕ} {limit : ℕ} {state₀ state : KeyState}
    → Imported p dk mask_coeffs mask_words limit state₀ 0 state
    → Below 256 dk → Below (2 ^ 64) mask_words
    → joined_dk p state.key ≡ reduced_dk p dk
imported_joins {p} i dk-bytes mask-words =
    ap (λ (state : KeyState). joined_dk p state.key) i.state
    ∙ joined_dk-split (imported_importable i dk-bytes mask-words)

-- import of dk, told the limit, leaves the split key in g, and decapsulation of g leaves k0 and k1
module _ {e : Edition} {p : Parameters} {dk mask_coeffs mask_words k0₀ k1₀ k0 k1 : List ℕ} {told : ℕ}
    {state₀ : KeyState} {g : Input} {limit count₀ count : ℕ} where
  pub imported-decaps : Fits p → Imported p dk mask_coeffs mask_words told state₀ 0 (key_state g.key limit count₀)
      → Decapsulated e p g limit count₀ k0₀ k1₀ 0 count k0 k1
      → Below 256 dk → Below (2 ^ 64) mask_words → Below 256 g.ct → Below (2 ^ 64) g.words
      → words_to_bytes 8 (joined_list (shared_list k0 k1)) ≡ kem.decaps e p dk g.ct
  unfolding decaps_shares
  imported-decaps fits i d dk-bytes mask-words ct-bytes strip-words =
      let t = decapsulated_tested d in
      ap₂ (λ (x y : List ℕ). words_to_bytes 8 (joined_list (shared_list x y))) d.share0 d.share1
      ∙ ap (λ (key : SplitKey).
      words_to_bytes 8 (joined_list (run (worksheet e p key g.ct) g.words g.coeffs).value))
      (ap (λ (state : KeyState). state.key) i.state)
      ∙ run-split (imported_importable i dk-bytes mask-words) e fits g.ct t.long.ct ct-bytes strip-words
      (reduced-below g.coeffs t.masks)
