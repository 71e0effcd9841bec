-- The count is the number of carried-out decapsulations since import or the last carried-out refreshing: a
-- decapsulation raises it by one, a refreshing sets it to 0, and nothing else changes it.
use Rattle.std.specs.Prelude.{◌≡◌, refl, Bool, true, false, cond, List, [], ◌∷◌, ℕ, ◌+◌, ◌≤◌, eqb}
use Rattle.std.proofs.Common.{ap, ◌∙◌, arith, eqb-true}
use Rattle.refusals.specs.Refusals.{Answer, number}
use Rattle.refusals.specs.RefusalLaws.{number-done}
use Rattle.parameters.specs.declared.Parameters.{Parameters}
use Rattle.parameters.specs.Ranks.{of_rank}
use Rattle.split_key.specs.KeyState.{KeyState}
use Rattle.decapsulation.specs.Calls.{decaps_answer}
use Rattle.decapsulation.specs.AnswerLaws.{decaps_tested}
use Rattle.sequences.specs.Sequence.{Call, decaps, trace, refresh, input_of}
use Rattle.sequences.specs.Sequence.{answer_of, carried_out, leaves, leaves_all}
use Rattle.sequences.proofs.SequenceLaws.{by_rank_answered, limit-leaves}
use Rattle.sequences.specs.CarriedOut.{carried, has_refresh, since_refresh, all_uses}

-- where no call is a refreshing, all are behind the last one
since_refresh_none : (l : List Call) → has_refresh l ≡ false → since_refresh l ≡ l
unfolding since_refresh
since_refresh_none [] e = refl
since_refresh_none (c ∷ l) e = ap (λ (b : Bool). cond b (since_refresh l) (c ∷ l)) e

-- the count behind the carried-out calls l, from n on
abbrev counts : ℕ → List Call → ℕ
counts n l = cond (has_refresh l) 0 n + all_uses (since_refresh l)

-- one more call before them
counts_cons : (h : KeyState) (c : Call) (l : List Call) → counts (carried_out h c).count l ≡ counts h.count (c ∷ l)
unfolding carried_out has_refresh since_refresh all_uses
counts_cons h (decaps rank e ct words coeffs k0 k1) l = go (has_refresh l) refl
  where
    c : Call
    c = decaps rank e ct words coeffs k0 k1

    go : (b : Bool) → has_refresh l ≡ b
        → cond b 0 (h.count + 1) + all_uses (since_refresh l)
        ≡ cond b 0 h.count + all_uses (cond b (since_refresh l) (c ∷ l))
    go true e = refl
    go false e = omega (arith, ap all_uses (since_refresh_none l e))
counts_cons h (trace rank e ct words coeffs step) l = go (has_refresh l) refl
  where
    c : Call
    c = trace rank e ct words coeffs step

    go : (b : Bool) → has_refresh l ≡ b
        → cond b 0 h.count + all_uses (since_refresh l)
        ≡ cond b 0 h.count + all_uses (cond b (since_refresh l) (c ∷ l))
    go true e = refl
    go false e = omega (arith, ap all_uses (since_refresh_none l e))
counts_cons h (refresh rank mask_coeffs mask_words) l = go (has_refresh l)
  where
    go : (b : Bool) → cond b 0 0 + all_uses (since_refresh l) ≡ 0 + all_uses (since_refresh l)
    go true = refl
    go false = refl

count_from : (h : KeyState) (cs : List Call) → (leaves_all h cs).count ≡ counts h.count (carried h cs)
unfolding leaves_all carried has_refresh since_refresh all_uses
count_from h [] = omega arith
count_from h (c ∷ cs) = go (eqb (number (answer_of h c)) 0) (count_from h cs) (count_from (carried_out h c) cs)
  where
    go : (b : Bool) → (leaves_all h cs).count ≡ counts h.count (carried h cs)
        → (leaves_all (carried_out h c) cs).count ≡ counts (carried_out h c).count (carried (carried_out h c) cs)
        → (let next = cond b (carried_out h c) h in
        (leaves_all next cs).count ≡ counts h.count (cond b (c ∷ carried next cs) (carried next cs)))
    go true kept done = done ∙ counts_cons h c (carried (carried_out h c) cs)
    go false kept done = kept

-- from import, or from a refreshing, on
pub count_kept : (h : KeyState) (cs : List Call) → h.count ≡ 0
    → (leaves_all h cs).count ≡ all_uses (since_refresh (carried h cs))
count_kept h cs e = count_from h cs ∙ go (has_refresh (carried h cs))
  where
    l : List Call
    l = carried h cs

    go : (b : Bool) → cond b 0 h.count + all_uses (since_refresh l) ≡ all_uses (since_refresh l)
    go true = omega arith
    go false = omega (arith, e)

-- ---- between two refreshings no more than the limit are carried out

count-carried_out : (h : KeyState) (c : Call) → number (answer_of h c) ≡ 0 → h.count ≤ h.limit
    → (carried_out h c).count ≤ h.limit
unfolding carried_out answer_of
count-carried_out h (decaps rank e ct words coeffs k0 k1) n l =
    let g = input_of h ct words coeffs in
    let told : Parameters → Answer = λ p. decaps_answer e p g h.limit h.count k0 k1 in
    let done = by_rank_answered rank told (number-done _ n) in
    omega (arith, (decaps_tested e (of_rank rank) g h.limit h.count k0 k1 done).usable)
count-carried_out h (trace rank e ct words coeffs step) n l = l
count-carried_out h (refresh rank mask_coeffs mask_words) n l = omega arith

count-leaves : (h : KeyState) (c : Call) → h.count ≤ h.limit → (leaves h c).count ≤ h.limit
count-leaves h c l = go (eqb (number (answer_of h c)) 0) refl
  where
    go : (b : Bool) → eqb (number (answer_of h c)) 0 ≡ b → (cond b (carried_out h c) h).count ≤ h.limit
    go true e = count-carried_out h c (eqb-true _ 0 e) l
    go false e = l

pub count_within : (h : KeyState) (cs : List Call) → h.count ≤ h.limit → (leaves_all h cs).count ≤ h.limit
unfolding leaves_all
count_within h [] l = l
count_within h (c ∷ cs) l =
    let e = limit-leaves h c in
    let x = count-leaves h c l in
    let y = count_within (leaves h c) cs (omega (arith, e, x)) in
    omega (arith, e, y)
