-- Demand 3 for an edition and a parameter set, in document 01's words ("Demand 3 is one claim about this worksheet from
-- its first step to its last").
use Rattle.std.specs.Prelude.{◌≡◌, List, ℕ, ◌^◌, eqb, length, replicate}
use Rattle.words.specs.Bounded.{Below}
use Rattle.words.specs.Residue.{q}
use Rattle.worksheet.specs.Run.{run}
use Rattle.worksheet.specs.Sum.{when}
use Rattle.worksheet.specs.Count.{tally, strips, hit}
use Rattle.parameters.specs.declared.Edition.{Edition}
use Rattle.parameters.specs.declared.Parameters.{Parameters}
use Rattle.parameters.specs.Lengths.{ct_bytes}
use Rattle.mlkem.specs.MlKem.{public_part}
use Rattle.kpke.specs.KPke.{matrix_full}
use Rattle.mlkem.specs.Calls.{rho_of}
use Rattle.split_key.specs.Import.{Accepted}
use Rattle.split_key.specs.SplitKey.{split}
use Rattle.stages.specs.Worksheet.{worksheet}
use Rattle.refusals.specs.Refusals.{number}
use Rattle.decapsulation_run.specs.Input.{Input}
use Rattle.decapsulation.specs.Calls.{imported, trace_answer, trace_value}

-- The sum of f over all choices. A choice is so many first coefficients below q, four first words, and a strip of so
-- many words and so many coefficients below q.
abbrev pub over_choices : ℕ → ℕ → ℕ → (List ℕ → List ℕ → List ℕ → List ℕ → ℕ) → ℕ
over_choices firsts words coeffs f =
    tally (replicate firsts q) (λ a. tally (replicate 4 (2 ^ 64)) (λ w. strips words coeffs (f a w)))

module _ (p : Parameters) where
  -- a key that import doesn't refuse
  pub record Key (dk : List ℕ) : Type 0 where
    pub bytes : Below 256 dk
    pub accepts : Accepted p dk

  -- any bytes of a ciphertext's length
  pub record Ciphertext (c : List ℕ) : Type 0 where
    pub bytes : Below 256 c
    pub long : length c ≡ ct_bytes p

module _ (e : Edition) (p : Parameters) where
  -- 1 where the worksheet for this split, ciphertext and strip has v as entry t, else 0
  abbrev pub gives : List ℕ → List ℕ → ℕ → ℕ → List ℕ → List ℕ → List ℕ → List ℕ → ℕ
  gives dk c t v a w ws cs = hit t v (run (worksheet e p (split p dk a w) c) ws cs).entries

  -- How many choices give v at step t under the key dk and the ciphertext c; where a matrix stream runs dry there is
  -- none.
  unfoldable pub choices : ℕ → ℕ → ℕ → List ℕ → List ℕ → ℕ → ℕ → ℕ
  choices firsts words coeffs dk c t v =
      when (matrix_full p.k (rho_of p (public_part p dk))) (over_choices firsts words coeffs (gives dk c t v))

  -- 1 where the trace of step t is carried out and hands back v, else 0
  abbrev pub hands_back : Input → ℕ → ℕ → ℕ
  hands_back g t v = when (eqb (number (trace_answer e p g t)) 0) (when (eqb (trace_value e p g t) v) 1)

  -- how many choices make the trace of step t hand back v, under the key dk split by import and the ciphertext c
  unfoldable pub trace_choices : ℕ → ℕ → ℕ → List ℕ → List ℕ → ℕ → ℕ → ℕ
  trace_choices firsts words coeffs dk c t v =
      over_choices firsts words coeffs (λ a w ws cs. hands_back (imported p dk a w c ws cs) t v)

  -- Demand 3: the worksheet has n steps, and under two keys with one public part, for any ciphertext, `count` is the
  -- same at each step and for each value.
  pub record Silent (n : ℕ) (count : List ℕ → List ℕ → ℕ → ℕ → ℕ) : Type 0 where
    pub steps : {dk c : List ℕ} → Key p dk → Ciphertext p c → (a w ws cs : List ℕ)
        → length (run (worksheet e p (split p dk a w) c) ws cs).entries ≡ n
    pub equal : {dk dk' c : List ℕ} → Key p dk → Key p dk' → Ciphertext p c → public_part p dk ≡ public_part p dk'
        → (t v : ℕ) → count dk c t v ≡ count dk' c t v
