-- A wrong length is row 1, which comes first; else all lengths are exact, as import_sized asks.
use mathlib.Core.Path.{◌≡◌, ap, ap₂}
use mathlib.Core.Bool.{Bool, not}
use mathlib.Core.List.{List, [], ◌∷◌}
use Prim.Native.Nat.{ℕ, ◌+◌, ◌*◌}
use native.Mathlib.Omega.{arith}
use Rattle.refusals.specs.declared.Refusal.TheVariants.{WrongLength}
use Rattle.refusals.specs.RefusalLaws.{LengthsTested, lengths_tested, has, row1_refused, row1_exact}
use Rattle.refusals.specs.Same.{same}
use Rattle.parameters.specs.declared.Parameters.{Parameters}
use Rattle.parameters.specs.Lengths.{ek_bytes, dk_bytes}
use Rattle.split_key.specs.SplitKey.{SplitKey}
use Rattle.split_key.specs.LentToWrite.{key_lent}
use Rattle.split_key.specs.Import.{import_lengths, import_answer}
use Rattle.split_key.specs.ImportAnswerLaws.{import_refused}
use Rattle.split_key_import.proofs.import_at.Goals as goal

-- row 1, by the lengths d and e that are counted
row1 : (p : Parameters) (dk mask_coeffs mask_words : List ℕ) (key : SplitKey) {d e : ℕ} {t : Bool}
    → d ≡ dk_bytes p → e ≡ ek_bytes p
    → (let n = 256 * p.k in
    t ≡ same (has (import_lengths p dk mask_coeffs mask_words key)) (d ∷ n ∷ 4 ∷ n ∷ n ∷ 4 ∷ 4 ∷ (e + 32) ∷ []))
    → LengthsTested (import_lengths p dk mask_coeffs mask_words key) t
row1 p dk mask_coeffs mask_words key f g h =
    let n = 256 * p.k in
    lengths_tested _ h (ap₂ (λ (d e : ℕ). d ∷ n ∷ 4 ∷ n ∷ n ∷ 4 ∷ 4 ∷ (e + 32) ∷ []) f g)

pub returns-then-not-exact-clause-imported : goal.returns-then-not-exact-clause-imported
unfolding import_answer
returns-then-not-exact-clause-imported c =
    let s = c.args in
    let key = key_lent s.state.now in
    let sizes = row1 s.p s.dk.now s.masks.now.coeffs.now s.masks.now.words.now key in
    let tested = sizes c.dk_bytes.ensures c.ek_bytes-m.ensures c.exact.ensures in
    import_refused s.p WrongLength _ _ _ _ _ (row1_refused tested _ (ap not c.if-not-exact.true))

pub import_sized-requires : goal.import_sized-requires
import_sized-requires c =
    let s = c.args in
    let key = key_lent s.state.now in
    let sizes = row1 s.p s.dk.now s.masks.now.coeffs.now s.masks.now.words.now key in
    let tested = sizes c.dk_bytes.ensures c.ek_bytes-m.ensures c.exact.ensures in
    let e = row1_exact tested (ap not c.if-not-exact.false) in
    let k = e.1.1.1 in (
      c.requires,
      record {
        dk = e.0;
        mask_coeffs = e.1.0;
        mask_words = e.1.1.0;
        key = record { s0 = k.0; s1 = k.1.0; z0 = k.1.1.0; z1 = k.1.1.1.0; public = k.1.1.1.1.0 };
      },
    )

pub returns-clause-imported : goal.returns-clause-imported
returns-clause-imported c = c.import_sized.ensures.imported

pub overflow_mul-n : goal.overflow_mul-n
overflow_mul-n c = record { fits = omega (arith, c.requires.rank.most) }
