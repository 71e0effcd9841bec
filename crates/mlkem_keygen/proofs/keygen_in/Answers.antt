-- The seeds decide row 7, the only row left: a stream that is too short is refused, and else a holds A-hat, from
-- which the keys are made.
use mathlib.Core.Path.{◌≡◌, sym, ap, ap₂, ◌∙◌}
use mathlib.Core.Bool.{Bool}
use mathlib.Core.List.{List}
use Prim.Native.Nat.{ℕ}
use native.Mathlib.Omega.{arith}
use lib.ListN.{take, drop}
use Rattle.parameters.specs.declared.Edition.{Edition}
use Rattle.parameters.specs.declared.Parameters.{Parameters}
use Rattle.kpke.specs.KPke.{matrix_full, ek_from, dk_from}
use Rattle.kpke.specs.Expanded.{expanded-concat}
use Rattle.std.specs.Prelude.{Err}
use Rattle.refusals.specs.declared.Refusal.TheVariants.{ShortStream}
use Rattle.refusals.specs.Refusals.{Done, number}
use Rattle.refusals.specs.RefusalLaws.{refused, passed, no_row, handed_on}
use Rattle.sampling.specs.SampleAnswer.{answer_of}
use Rattle.sampling.specs.SampleLaws.{answered_done, answered_err}
use Rattle.mlkem.specs.MlKem.{whole_dk}
use Rattle.mlkem.specs.Editions.{seeds}
use Rattle.mlkem.specs.EditionLaws.{key_gen_ek-seeds, key_gen_dk-seeds}
use Rattle.mlkem.specs.CallLaws.{keygen_answer, keygen_refused}
use Rattle.mlkem_keygen.proofs.keygen_in.Goals as goal

-- row 7's test, as `expand` makes it
full_by : (e : Edition) (p : Parameters) (d : List ℕ) {g : List ℕ} {t : Bool} → g ≡ seeds e p d
    → matrix_full p.k (take 32 g) ≡ t → matrix_full p.k (take 32 (seeds e p d)) ≡ t
full_by e p d f h = sym (ap (λ (l : List ℕ). matrix_full p.k (take 32 l)) f) ∙ h

pub returns-in_err-expand : goal.returns-in_err-expand
returns-in_err-expand c =
    let s = c.args in
    let e = sym c.in_err-expand.was ∙ c.expand.ensures.answer in
    let t = answered_err _ e in
    let row7 = refused ShortStream _ (full_by s.e s.p s.d.now c.seeds.ensures t) in
    rw (handed_on c.from_residual.result c.from_residual.ensures.1 ∙ e ∙ ap answer_of t)
    (keygen_refused s.e s.p ShortStream _ _ _ _ (keygen_answer s.e s.p (Err ShortStream) c.requires.sized row7))

pub write_keys-requires : goal.write_keys-requires
write_keys-requires c =
    let i = c.requires.sized in
    let t = answered_done _ (sym c.expand.ensures.answer ∙ c.in_ok-expand.was) in
    record {
      fits = c.requires.fits;
      matrix = rw (c.expand.ensures.holds t) (expanded-concat c.args.p.k _ t);
      seeds = omega arith;
      z = i.z;
      ek = i.ek;
      dk = i.dk;
    }

pub returns : goal.returns
returns c =
    let e = c.args.e in
    let p = c.args.p in
    let d = c.args.d.now in
    let z = c.args.z.now in
    let g = c.seeds.ensures in
    let ek = ap (λ (l : List ℕ). ek_from p (take 32 l) (drop 32 l)) g in
    let dk = ap (λ (l : List ℕ). dk_from p (drop 32 l)) g in
    let w = c.write_keys.ensures in
    let t = answered_done _ (sym c.expand.ensures.answer ∙ c.in_ok-expand.was) in
    let rows = passed ShortStream _ (full_by e p d g t) no_row in
    record {
      answer = ap number (sym (keygen_answer e p Done c.requires.sized rows));
      ek = w.ek ∙ ek ∙ sym (key_gen_ek-seeds p d e);
      dk = w.dk ∙ ap₂ (λ (dk ek : List ℕ). whole_dk dk ek z) dk ek ∙ sym (key_gen_dk-seeds p d e z);
    }
