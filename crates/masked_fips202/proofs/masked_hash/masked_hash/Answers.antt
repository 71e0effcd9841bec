-- The three tests are the three lengths of row 1, and where all are passed the sponge fills the outputs.
use mathlib.Core.Path.{◌≡◌, refl, sym, ap, ◌∙◌}
use mathlib.Core.Bool.{Bool}
use Prim.Native.Nat.{ℕ}
use borrow.Author.Tests.{eq-eqb, ne_eqb, eqb-true}
use lib.Dec.{eqb}
use lib.ListN.{length}
use mathlib.Core.List.{[]}
use native.Mathlib.Nat.{le_of_eq}
use Rattle.refusals.specs.Refusals.{answer, sized}
use Rattle.worksheet.specs.SharedList.{SharedList}
use Rattle.masked_sponge.specs.MaskedSponge.{hash_mask_words}
use Rattle.masked_fips202.specs.MaskedCalls.{hash_answer}
use Rattle.masked_fips202.proofs.MaskedHash.{hash_value}
use Rattle.masked_fips202.proofs.masked_hash.masked_hash.Goals as goal

-- ---- facts
-- the third test is that of the masks' length
counted : (m k n : ℕ) {r : Bool} → r ≡ eqb m (hash_mask_words k) → k ≡ n → eqb m (hash_mask_words n) ≡ r
counted m k n e h = sym (e ∙ ap (λ (n : ℕ). eqb m (hash_mask_words n)) h)

pub returns-then-n-in1 : goal.returns-then-n-in1
unfolding hash_answer answer sized
returns-then-n-in1 c = record { answer = rw (ne_eqb _ _ c.if-n-in1.true); out0 = refl; out1 = refl }

pub returns-then-d-out1 : goal.returns-then-d-out1
unfolding hash_answer answer sized
returns-then-d-out1 c =
    record { answer = rw (eq-eqb _ _ c.if-n-in1.false, ne_eqb _ _ c.if-d-out1.true); out0 = refl; out1 = refl }

pub returns-then-not-enough : goal.returns-then-not-enough
unfolding hash_answer answer sized
returns-then-not-enough c =
    let e = counted _ _ _ c.enough.ensures c.permutations.ensures ∙ c.if-not-enough.true in
    record {
      answer = rw (eq-eqb _ _ c.if-n-in1.false, eq-eqb _ _ c.if-d-out1.false, e);
      out0 = refl;
      out1 = refl;
    }

pub masked_sponge-requires : goal.masked_sponge-requires
masked_sponge-requires c =
    record {
      sponge = c.requires;
      inputs = c.if-n-in1.false;
      outputs = c.if-d-out1.false;
      masks = le_of_eq (sym
          (eqb-true _ _ (counted _ _ _ c.enough.ensures c.permutations.ensures ∙ c.if-not-enough.false)));
    }

pub returns : goal.returns
unfolding hash_answer answer sized
returns c =
    let e = counted _ _ _ c.enough.ensures c.permutations.ensures ∙ c.if-not-enough.false in
    let a = c.args in
    let h =
    hash_value a.rate a.suffix a.in0.now a.in1.now (length a.out0.now) (c.masked_sponge.ensures []) in
    record {
      answer = rw (eq-eqb _ _ c.if-n-in1.false, eq-eqb _ _ c.if-d-out1.false, e);
      out0 = ap (λ (z : SharedList). z.s0) h;
      out1 = ap (λ (z : SharedList). z.s1) h;
    }
