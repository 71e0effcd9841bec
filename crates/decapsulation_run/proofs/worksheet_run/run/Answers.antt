-- Stages 1 to 8 draw their words and all coefficients, and the ending the other words.
use mathlib.Core.Path.{◌≡◌, refl, ◌∙◌}
use Prim.Native.Nat.{ℕ, ◌+◌}
use native.Mathlib.Omega.{arith}
use lib.ListN.{drop}
use Rattle.worksheet.specs.Ran.{bind}
use Rattle.parameters.specs.declared.Edition.{Edition}
use Rattle.parameters.specs.declared.Parameters.{Parameters}
use Rattle.stages.specs.Counts.{encrypt_coeffs, compared_words, ending_words, strip_words, strip_coeffs}
use Rattle.stages.specs.Worksheet.{worksheet}
use Rattle.stages.proofs.StoredRun.{length_rest}
use Rattle.stages.proofs.Strips.{part_from}
use Rattle.decapsulation_run.proofs.worksheet_run.run.Goals as goal

-- ---- facts
-- the words of the two parts, one behind the other
words_of : (e : Edition) (p : Parameters) → strip_words e p ≡ compared_words p + ending_words e p
unfolding strip_words
words_of e p = refl

masks : (e : Edition) (p : Parameters) {n : ℕ} → n ≡ strip_words e p → n ≡ compared_words p + ending_words e p
masks e p h = h ∙ words_of e p

pub compared-b-requires : goal.compared-b-requires
unfolding strip_coeffs
compared-b-requires c =
    let p = c.requires in
    let k = p.input.key in
    record {
      fits = p.fits;
      secret = record { long0 = k.s0; long1 = k.s1 };
      public = k.public;
      matrix = p.matrix;
      ct = p.input.ct;
      words = omega (arith, masks c.args.e c.args.p c.requires.input.words);
      coeffs = record { enough = omega (arith, p.input.coeffs); below = p.range };
      out = record { long0 = omega arith; long1 = omega arith };
    }

pub ending-requires : goal.ending-requires
ending-requires c =
    let k = c.requires.input.key in
    record {
      fits = c.requires.fits;
      bit = record { bit0 = c.compared-b.ensures.bit0; bit1 = c.compared-b.ensures.bit1 };
      hashed = record { long0 = omega (arith, c.compared-b.auto.g0); long1 = omega (arith, c.compared-b.auto.g1) };
      z = record { long0 = k.z0; long1 = k.z1 };
      ct = c.requires.input.ct;
      words =
          length_rest _ _ c.args.input.now.words.now
          (omega (arith, masks c.args.e c.args.p c.requires.input.words, c.compared_words-w.ensures.value));
      out = c.requires.out;
    }

pub returns : goal.returns
unfolding worksheet strip_coeffs
returns c =
    let rest = drop (encrypt_coeffs c.args.p) c.args.input.now.coeffs.now in
    rw (words_of c.args.e c.args.p)
    (bind _ (c.compared-b.ensures.ran _)
    (part_from c.args.input.now.words.now c.compared_words-w.ensures.value (ending_words c.args.e c.args.p)
    (c.ending.ensures rest)))

pub slice_bounds-ending-end : goal.slice_bounds-ending-end
slice_bounds-ending-end c = omega (arith, c.compared-b.auto.g0)

pub slice_bounds-ending-end-2 : goal.slice_bounds-ending-end-2
slice_bounds-ending-end-2 c = omega (arith, c.compared-b.auto.g1)

pub slice_bounds-ending-count : goal.slice_bounds-ending-count
slice_bounds-ending-count c =
    omega (arith, masks c.args.e c.args.p c.requires.input.words, c.compared_words-w.ensures.value)

pub slice_bounds-ending-start : goal.slice_bounds-ending-start
slice_bounds-ending-start c =
    omega (arith, masks c.args.e c.args.p c.requires.input.words, c.compared_words-w.ensures.value)
