-- The laws by which a loop of recorded code follows `loop`, `times` and `chain`: the first i turns have run, and one
-- more runs.
use Rattle.std.specs.Prelude.{ℕ, ◌+◌, ◌≡◌, List, [], ◌∷◌, ◌++◌, get_or}
use Rattle.std.proofs.Common.{add-one}
use Rattle.worksheet.specs.declared.Recorder.{Recorder}
use Rattle.worksheet.specs.Prog.{Prog, loop, times, chain}
use Rattle.worksheet.specs.Ran.{Ran, bind, over}

module _ {S : Type 0} (f : ℕ → S → Prog S) (s₀ : S) where
  pub loop_start : {r : Recorder} {ws cs : List ℕ} → Ran (loop 0 f s₀) r ws cs s₀ r ws cs
  unfolding loop
  loop_start = over

  pub loop_turn : (i : ℕ) {s t : S} {r₀ r r' : Recorder} {ws₀ ws ws' cs₀ cs cs' : List ℕ}
      → Ran (loop i f s₀) r₀ ws₀ cs₀ s r ws cs → Ran (f i s) r ws cs t r' ws' cs'
      → Ran (loop (i + 1) f s₀) r₀ ws₀ cs₀ t r' ws' cs'
  unfolding loop
  loop_turn i h g = rw (add-one i) (bind (f i) h g)

module _ {A : Type 0} (f : ℕ → Prog A) where
  pub times_start : {r : Recorder} {ws cs : List ℕ} → Ran (times 0 f) r ws cs [] r ws cs
  unfolding times
  times_start = loop_start _ _

  pub times_turn : (i : ℕ) {ys : List A} {y : A} {r₀ r r' : Recorder} {ws₀ ws ws' cs₀ cs cs' : List ℕ}
      → Ran (times i f) r₀ ws₀ cs₀ ys r ws cs → Ran (f i) r ws cs y r' ws' cs'
      → Ran (times (i + 1) f) r₀ ws₀ cs₀ (ys ++ y ∷ []) r' ws' cs'
  unfolding times
  times_turn i h g = loop_turn _ _ i h (bind _ g over)

module _ {S : Type 0} (f : ℕ → S → Prog S) (s₀ : S) where
  pub chain_start : {r : Recorder} {ws cs : List ℕ} → Ran (chain 0 f s₀) r ws cs (s₀ ∷ []) r ws cs
  unfolding chain
  chain_start = loop_start _ _

  pub chain_turn : (i : ℕ) {ts : List S} {s t : S} {r₀ r r' : Recorder} {ws₀ ws ws' cs₀ cs cs' : List ℕ}
      → Ran (chain i f s₀) r₀ ws₀ cs₀ ts r ws cs → get_or ts i s₀ ≡ s → Ran (f i s) r ws cs t r' ws' cs'
      → Ran (chain (i + 1) f s₀) r₀ ws₀ cs₀ (ts ++ t ∷ []) r' ws' cs'
  unfolding chain
  chain_turn i h e g = loop_turn _ _ i h (bind _ (rw e g) over)
