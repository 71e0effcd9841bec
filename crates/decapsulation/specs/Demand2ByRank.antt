-- Demand 2 for the calls as they are told a rank: one that answers 0 was told an accepted rank, and did what it does
-- with that rank's set, which lies within the bounds.
use Rattle.std.specs.Prelude.{◌≡◌, List, ℕ, ◌^◌}
use Rattle.words.specs.Bounded.{Below}
use Rattle.words.specs.LittleEndian.{words_to_bytes}
use Rattle.worksheet.specs.SharedList.{shared_list, joined_list}
use Rattle.parameters.specs.declared.Edition.{Edition}
use Rattle.parameters.specs.Ranks.{of_rank}
use Rattle.parameters.specs.FitsLaws.{fits-of_rank}
use Rattle.parameters.specs.ByRankLaws.{by_rank_done}
use Rattle.mlkem.specs.Editions as kem
use Rattle.split_key.specs.Import.{ImportedBy}
use Rattle.split_key.specs.KeyState.{KeyState, key_state}
use Rattle.meaning.specs.JoinedDk.{joined_dk}
use Rattle.meaning.specs.ReducedDk.{reduced_dk}
use Rattle.decapsulation_run.specs.Input.{Input}
use Rattle.decapsulation.specs.Calls.{Typed, DecapsulatedBy}
use Rattle.decapsulation.specs.Demand2.{decaps_joins}
use Rattle.decapsulation.specs.CallToCall.{imported_joins, imported-decaps}

pub imported_joins_by : {rank : ℕ} {dk mask_coeffs mask_words : List ℕ} {limit : ℕ} {state₀ state : KeyState}
    → ImportedBy rank dk mask_coeffs mask_words limit state₀ 0 state
    → Below 256 dk → Below (2 ^ 64) mask_words
    → joined_dk (of_rank rank) state.key ≡ reduced_dk (of_rank rank) dk
imported_joins_by i = imported_joins (by_rank_done i)

module _ {e : Edition} {rank : ℕ} {g : Input} {limit count₀ count : ℕ} {k0₀ k1₀ k0 k1 : List ℕ}
    (d : DecapsulatedBy e rank g limit count₀ k0₀ k1₀ 0 count k0 k1) where
  pub decaps_joins_by : Typed g
      → words_to_bytes 8 (joined_list (shared_list k0 k1))
      ≡ kem.decaps e (of_rank rank) (joined_dk (of_rank rank) g.key) g.ct
  decaps_joins_by types = decaps_joins (by_rank_done d) (fits-of_rank rank) types

  -- import of dk, told the same rank, has left the split key in g
  pub imported_decaps_by : {dk mask_coeffs mask_words : List ℕ} {told : ℕ} {state₀ : KeyState}
      → ImportedBy rank dk mask_coeffs mask_words told state₀ 0 (key_state g.key limit count₀)
      → Below 256 dk → Below (2 ^ 64) mask_words → Below 256 g.ct → Below (2 ^ 64) g.words
      → words_to_bytes 8 (joined_list (shared_list k0 k1)) ≡ kem.decaps e (of_rank rank) dk g.ct
  imported_decaps_by i = imported-decaps (fits-of_rank rank) (by_rank_done i) (by_rank_done d)
