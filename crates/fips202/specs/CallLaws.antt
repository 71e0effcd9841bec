-- What a hash call leaves in its output, by the output's length.
use Rattle.std.specs.Prelude.{◌≡◌, List, [], ◌∷◌, ℕ, length}
use Rattle.std.proofs.Common.{ap, ◌∙◌}
use Rattle.refusals.specs.declared.Refusal.TheVariants.{WrongLength}
use Rattle.refusals.specs.Refusals.{Answer, Done, number, after, lent}
use Rattle.refusals.specs.RefusalLaws.{passed, no_row, number-done, exact-sized, after_done}
use Rattle.fips202.specs.Calls.{sized_answer, Hashed}

sized_done : (n : ℕ) (out : List ℕ) → length out ≡ n → sized_answer n out ≡ Done
unfolding sized_answer
sized_done n out e = passed WrongLength [] (exact-sized (lent out n ∷ []) (e, tt)) no_row

-- by its answer
pub hashed-after : {r : Answer} {hash old new : List ℕ} {n : ℕ} → Hashed r hash old n new
    → new ≡ after (number r) hash old
hashed-after {hash = hash} {old = old} h = h.out ∙ ap (λ (m : ℕ). after m hash old) h.answer

-- an output of the right length holds the digest
pub hashed_digest : {d : ℕ} {hash old new : List ℕ} {n : ℕ} → Hashed (sized_answer d old) hash old n new
    → length old ≡ d → new ≡ hash
hashed_digest {d} {hash} {old} {n = n} h e = h.out ∙ after_done n hash old (h.answer ∙ ap number (sized_done d old e))

-- an output of the right length is not refused
pub hashed_done : {d : ℕ} {hash old new : List ℕ} {r : Answer} → Hashed (sized_answer d old) hash old (number r) new
    → length old ≡ d → r ≡ Done
hashed_done {d} {old = old} {r = r} h e = number-done r (h.answer ∙ ap number (sized_done d old e))
