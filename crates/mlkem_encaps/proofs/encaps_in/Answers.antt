-- The tests go by the rows that are left: a public key out of range is row 2 and a stream that is too short row 7;
-- else a holds A-hat, with which the ciphertext is made.
use mathlib.Core.Path.{◌≡◌, sym, ap, ◌∙◌}
use mathlib.Core.Bool.{Bool}
use mathlib.Core.List.{List}
use Prim.Native.Nat.{ℕ, ◌-◌}
use native.Mathlib.Omega.{arith}
use lib.ListN.{length, take, drop}
use Rattle.words.specs.Part.{part_rest}
use Rattle.parameters.specs.declared.Parameters.{Parameters}
use Rattle.parameters.specs.Lengths.{vector_bytes}
use Rattle.vectors.specs.Vector.{concat, coefficients}
use Rattle.kpke.specs.KPke.{matrix, matrix_full}
use Rattle.kpke.specs.Expanded.{expanded-concat}
use Rattle.std.specs.Prelude.{Err}
use Rattle.refusals.specs.declared.Refusal.TheVariants.{PublicKeyRange, ShortStream}
use Rattle.refusals.specs.Refusals.{Done, number}
use Rattle.refusals.specs.RefusalLaws.{refused, passed, no_row, handed_on}
use Rattle.sampling.specs.SampleAnswer.{answer_of}
use Rattle.sampling.specs.SampleLaws.{answered_done, answered_err}
use Rattle.refusals.specs.Reduced.{reduced}
use Rattle.mlkem.specs.Calls.{rho_of}
use Rattle.mlkem.specs.CallLaws.{encaps_answer_lem, encaps_refused}
use Rattle.mlkem_encaps.proofs.encaps_in.Goals as goal

-- for n, as `vector_bytes` answers
module _ (p : Parameters) (ek : List ℕ) {n : ℕ} (f : n ≡ vector_bytes p) where
  -- row 2's test, as `vector_reduced` makes it
  reduced_by : {t : Bool} → t ≡ reduced (coefficients p.k (take (n - 0) (drop 0 ek)))
      → reduced (coefficients p.k (take (vector_bytes p) ek)) ≡ t
  reduced_by h = let e : n - 0 ≡ vector_bytes p = omega arith in sym (rw e at h)

  -- what is lent as rho
  rho_by : take (length ek - n) (drop n ek) ≡ rho_of p ek
  rho_by = part_rest n ek ∙ ap (λ (m : ℕ). drop m ek) f

  -- row 7's test, as `expand` makes it
  full_by : {t : Bool} → matrix_full p.k (take (length ek - n) (drop n ek)) ≡ t → matrix_full p.k (rho_of p ek) ≡ t
  full_by h = sym (ap (matrix_full p.k) rho_by) ∙ h

pub returns-then-not-vector_reduced : goal.returns-then-not-vector_reduced
returns-then-not-vector_reduced c =
    let s = c.args in
    let d = reduced_by s.p s.ek.now c.vector_bytes-n.ensures c.vector_reduced.ensures in
    let row2 = refused PublicKeyRange _ (d ∙ c.if-not-vector_reduced.true) in
    encaps_refused s.e s.p PublicKeyRange _ _ _ _
    (encaps_answer_lem s.p (Err PublicKeyRange) c.requires.sized row2)

pub returns-in_err-expand : goal.returns-in_err-expand
returns-in_err-expand c =
    let s = c.args in
    let n = c.vector_bytes-n.ensures in
    let d = reduced_by s.p s.ek.now n c.vector_reduced.ensures in
    let e = sym c.in_err-expand.was ∙ c.expand.ensures.answer in
    let t = answered_err _ e in
    let row7 = refused ShortStream _ (full_by s.p s.ek.now n t) in
    let row2 = passed PublicKeyRange _ (d ∙ c.if-not-vector_reduced.false) row7 in
    rw (handed_on c.from_residual.result c.from_residual.ensures.1 ∙ e ∙ ap answer_of t)
    (encaps_refused s.e s.p ShortStream _ _ _ _ (encaps_answer_lem s.p (Err ShortStream) c.requires.sized row2))

pub write_secret-requires : goal.write_secret-requires
write_secret-requires c =
    let s = c.args in
    let n = c.vector_bytes-n.ensures in
    let k = s.p.k in
    let t = answered_done _ (sym c.expand.ensures.answer ∙ c.in_ok-expand.was) in
    let by_rho = ap (λ (l : List ℕ). concat k (λ i. concat k (matrix l i))) (rho_by s.p s.ek.now n) in
    let e = c.expand.ensures.holds t ∙ by_rho in
    record {
      fits = c.requires.fits;
      matrix = rw e (expanded-concat k (rho_of s.p s.ek.now) (full_by s.p s.ek.now n t));
      sized = c.requires.sized;
    }

pub returns : goal.returns
returns c =
    let s = c.args in
    let n = c.vector_bytes-n.ensures in
    let d = reduced_by s.p s.ek.now n c.vector_reduced.ensures in
    let t = answered_done _ (sym c.expand.ensures.answer ∙ c.in_ok-expand.was) in
    let row7 = passed ShortStream _ (full_by s.p s.ek.now n t) no_row in
    let rows = passed PublicKeyRange _ (d ∙ c.if-not-vector_reduced.false) row7 in
    record {
      answer = ap number (sym (encaps_answer_lem s.p Done c.requires.sized rows));
      ct = c.write_secret.ensures.ct;
      k = c.write_secret.ensures.k;
    }
