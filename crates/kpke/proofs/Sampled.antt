-- A loop that samples parts 0, 1, .., k - 1, part i where p i holds: it stops at the first i where p fails, or has
-- written all k parts.
use mathlib.Core.Path.{◌≡◌, sym, ap, ◌∙◌}
use mathlib.Core.Bool.{Bool, true}
use mathlib.Core.List.{List, ◌++◌}
use Prim.Native.Nat.{ℕ, ◌+◌, ◌-◌, ◌*◌, ◌<◌, ◌≤◌}
use lib.ListN.{length, take, drop}
use Rattle.std.specs.Prelude.{Err}
use Rattle.std.proofs.Common.{true≢false}
use Rattle.refusals.specs.declared.Refusal.{Refusal}
use Rattle.refusals.specs.Refusals.{Answer, Done}
use Rattle.words.specs.Table.{every}
use Rattle.sampling.specs.SampleAnswer.{answer_of}
use Rattle.sampling.specs.SampleLaws.{answered_done, answered_err}
use Rattle.sampling.specs.Results.{Sampling}
use Rattle.words.specs.Walk.{Walked, walked_start, walked_turn, walked-every, every-false}
use Rattle.vectors.specs.Vector.{concat}
use Rattle.slices.proofs.Concatenated.{Concatenated, concatenated_start, concatenated_turn, concatenated_end}

-- p holds at the first i of k places, and the first i parts are those of f
pub record Sampled (n k : ℕ) (p : ℕ → Bool) (f : ℕ → List ℕ) (l₀ : List ℕ) (i : ℕ) (l : List ℕ) : Type 0 where
  pub passed : Walked k (λ j. p j ≡ true) i
  pub written : Concatenated n k f l₀ i l

module _ {n k : ℕ} {p : ℕ → Bool} {f : ℕ → List ℕ} where
  pub sampled_start : {l : List ℕ} → length l ≡ n * k → Sampled n k p f l 0 l
  sampled_start h = record { passed = walked_start; written = concatenated_start h }

  module _ {l₀ : List ℕ} {i : ℕ} {l : List ℕ} (s : Sampled n k p f l₀ i l) where
    -- the stream of place i is enough, and r is its part
    pub sampled_turn : {a : Answer} {r : List ℕ} → i < k → length r ≡ length (take (n * i + n - n * i) (drop (n * i) l))
        → Sampling (p i) (f i) a r → a ≡ Done
        → Sampled n k p f l₀ (i + 1) (take (n * i) l ++ (r ++ drop (n * i + n - n * i) (drop (n * i) l)))
    sampled_turn h w e o =
        let t = answered_done (p i) (sym e.answer ∙ o) in
        record { passed = walked_turn s.passed h t; written = concatenated_turn s.written h w (e.holds t) }

    pub sampled_end : k ≤ i → Sampling (every k p) (concat k f) Done l
    sampled_end h =
        record { answer = ap answer_of (sym (walked-every s.passed h)); holds = λ e. concatenated_end s.written h }

-- the stream of place i is too short
pub sampled_stop : (k : ℕ) (p : ℕ → Bool) (f : ℕ → List ℕ) (i : ℕ) {r : Refusal} {l : List ℕ} → i < k
    → Err r ≡ answer_of (p i) → Sampling (every k p) (concat k f) (Err r) l
sampled_stop k p f i h e =
    let t = answered_err (p i) e in
    let n = every-false k p i h t in
    record { answer = e ∙ ap answer_of (t ∙ sym n); holds = λ w. absurd (true≢false (sym w ∙ n)) }
