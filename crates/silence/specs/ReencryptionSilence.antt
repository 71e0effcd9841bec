-- Stages 6 and 7 of the worksheet: the polynomials made again, each by passes on one share of the noise and the
-- message, and the words of their planes, each with a choice of its own.
use Prim.Native.Nat.{ℕ, ◌+◌, ◌*◌, ◌<◌}
use Rattle.std.specs.Prelude.{◌≡◌, Bool}
use Rattle.std.proofs.Math.Path.{refl, ap, ap₂}
use Rattle.std.proofs.Math.Bool.{true, false, cond}
use mathlib.Core.List.{List, ◌++◌, flatten}
use Rattle.std.proofs.Common.{arith}
use borrow.Author.Tests.{ltb-true}
use Rattle.std.proofs.Math.Dec.{ltb}
use Rattle.std.proofs.Math.ListN.{get_or}
use Rattle.ring.specs.Polynomial.{add}
use Rattle.transform.specs.Transform.{ntt, inverse_ntt}
use Rattle.worksheet.specs.Shares.{Shares}
use Rattle.worksheet.specs.CoupleLoops.{coupled-times}
use Rattle.worksheet.specs.Flatten.{turns_append, turns-flatten}
use Rattle.worksheet.specs.Stage.{Stage, comap, times-stage}
use Rattle.worksheet.specs.SharedList.{SharedList}
use Rattle.worksheet.specs.Turns.{Turns}
use Rattle.worksheet.specs.Choice.{KeptList, SameShare}
use Rattle.worksheet.specs.PassLaws.{pass_stage, coupled_pass}
use Rattle.parameters.specs.declared.Parameters.{Parameters}
use Rattle.vectors.specs.VectorLaws.{dot_cong}
use Rattle.stages.specs.EntryCounts.{stage6_entries, stage7_entries}
use Rattle.stages.specs.Moves.{nothing, shares0, shares1}
use Rattle.stages.specs.Worksheet.{u_share, v_share, uv_share, stage6, stage7, word_count}
use Rattle.silence.specs.Pair.{pair_stage}
use Rattle.silence.specs.DecryptionSilence.{compress_poly-stage, coupled-compress_poly}
use Rattle.silence.specs.NoiseSilence.{SamePolys}

-- what stage 6 works on: noise and mu
abbrev Operands : Type 0
Operands = List SharedList × SharedList

module _ (p : Parameters) where
  -- shares c of all of it are equal
  pub record SameOperands (c : Bool) (a a' : Operands) : Type 0 where
    pub noise : SamePolys (p.k + (p.k + 1)) c a.0 a'.0
    pub message : SameShare c a.1 a'.1

  -- ---- stage 6

  module _ (ek : List ℕ) where
    -- equal noise and an equal mu make equal polynomials
    uv_share_cong : {n n' : ℕ → List ℕ} {m m' : List ℕ} → ((j : ℕ) → j < p.k + (p.k + 1) → n j ≡ n' j) → m ≡ m'
        → (i : ℕ)
        → uv_share p ek n m i ≡ uv_share p ek n' m' i
    unfolding u_share v_share
    uv_share_cong {n} {n'} {m} {m'} e f i = go (ltb i p.k) refl
      where
        go : (b : Bool) → ltb i p.k ≡ b
            → cond b (u_share p ek n i) (v_share p ek n m) ≡ cond b (u_share p ek n' i) (v_share p ek n' m')
        go true h =
            ap₂ add (ap inverse_ntt (dot_cong p.k (λ j l. refl) (λ j l. ap ntt (e j (omega arith)))))
            (e (p.k + i) (omega (arith, ltb-true i p.k h)))
        go false h =
            ap₂ add
            (ap₂ add (ap inverse_ntt (dot_cong p.k (λ j l. refl) (λ j l. ap ntt (e j (omega arith)))))
            (e (2 * p.k) (omega arith)))
            f

    abbrev made0 : ℕ → Operands → List ℕ
    made0 i a = uv_share p ek (shares0 a.0) a.1.s0 i

    abbrev made1 : ℕ → Operands → List ℕ
    made1 i a = uv_share p ek (shares1 a.0) a.1.s1 i

    same_made0 : (i : ℕ) (a a' : Operands) → SameOperands false a a' → made0 i a ≡ made0 i a'
    same_made0 i a a' r = uv_share_cong (λ j l. (r.noise.at nothing nothing j l).same) r.message.same i

    same_made1 : (i : ℕ) (a a' : Operands) → SameOperands true a a' → made1 i a ≡ made1 i a'
    same_made1 i a a' r = uv_share_cong (λ j l. (r.noise.at nothing nothing j l).same) r.message.same i

    pub stage6_stage : Stage SameOperands (SamePolys (p.k + 1)) (stage6_entries p) (λ a. stage6 p ek a.0 a.1)
        (λ a. stage6 p ek a.0 a.1)
    unfolding stage6 stage6_entries
    stage6_stage =
        times-stage (λ c i. SameShare c) (p.k + 1)
        (λ i h. pass_stage SameOperands 256 (made0 i) (made1 i) (made0 i) (made1 i) (same_made0 i) (same_made1 i))
        (λ c. (
          c,
          λ a b r i h. coupled_pass SameOperands 256 (made0 i) (made1 i) (made0 i) (made1 i) (same_made0 i)
              (same_made1 i) c a b r,
        ))

  -- ---- stage 7

  abbrev u_words : ℕ
  u_words = p.k * (4 * p.du)

  abbrev KeptU : (ℕ → Bool) → List (List Shares) → List (List Shares) → Type 0
  KeptU c = Turns (λ i. KeptList (4 * p.du) (λ b. c (i * (4 * p.du) + b))) p.k

  abbrev KeptV : (ℕ → Bool) → List Shares → List Shares → Type 0
  KeptV c = KeptList (4 * p.dv) (λ b. c (u_words + b))

  pub stage7-stage : Stage (SamePolys (p.k + 1)) (KeptList (word_count p)) (stage7_entries p) (stage7 p) (stage7 p)
  unfolding stage7 stage7_entries
  stage7-stage =
      pair_stage (λ u v. flatten u ++ v) (λ u v. flatten u ++ v) {S₁ = KeptU} {Q₁ = KeptV}
      (times-stage (λ (c : ℕ → Bool) i. KeptList (4 * p.du) (λ b. c (i * (4 * p.du) + b))) p.k
      (λ i h. comap (SamePolys (p.k + 1)) (λ r. get_or r i nothing) (λ r. get_or r i nothing) (λ c. c)
      (λ c a b r. r.at nothing nothing i (omega arith)) (compress_poly-stage p.du))
      (λ c. (true, λ a b r i h. coupled-compress_poly p.du _ _ _)))
      (comap (SamePolys (p.k + 1)) (λ r. get_or r p.k nothing) (λ r. get_or r p.k nothing) (λ c. c)
      (λ c a b r. r.at nothing nothing p.k (omega arith)) (compress_poly-stage p.dv))
      (λ c u u' v v' r s. turns_append (turns-flatten p.k (4 * p.du) r) s)
      (λ c. (
        true,
        λ a b r. (coupled-times p.k (λ i h. coupled-compress_poly p.du _ _ _), coupled-compress_poly p.dv _ _ _),
      ))
