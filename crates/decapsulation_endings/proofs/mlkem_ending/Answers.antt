-- Stage 9 draws the first words, and stage 10, which selects, the last four.
use mathlib.Core.Path.{◌≡◌, refl, ap}
use Prim.Native.Nat.{ℕ, ◌+◌, ◌≤◌}
use native.Mathlib.Omega.{arith}
use Rattle.parameters.specs.declared.Parameters.{Parameters}
use Rattle.parameters.specs.Lengths.{ct_bytes}
use Rattle.parameters.specs.declared.Edition.TheVariants.{MlKem}
use Rattle.parameters.specs.Largest.{ct_bytes_most}
use Rattle.worksheet.specs.Ran.{bind}
use Rattle.masked_fips202.specs.MaskedWords.{shake256_mask_words}
use Rattle.stages.specs.Counts.{stage9_words, ending_words}
use Rattle.stages.specs.Worksheet.{ending}
use Rattle.stages.proofs.StoredRun.{length_rest}
use Rattle.stages.proofs.Strips.{part_from}
use Rattle.decapsulation_endings.proofs.mlkem_ending.Goals as goal

-- ---- facts
words_of : (p : Parameters) → ending_words MlKem p ≡ stage9_words p + 4
unfolding ending_words
words_of p = refl

masks : (p : Parameters) {n : ℕ} → ending_words MlKem p ≤ n → stage9_words p + 4 ≤ n
masks p h = rw (words_of p) at h

-- z and the whole ciphertext are hashed
hashed-words : (p : Parameters) {n : ℕ} → n ≡ ct_bytes p → shake256_mask_words (32 + n) 4 ≡ stage9_words p
hashed-words p e = ap (λ (n : ℕ). shake256_mask_words (32 + n) 4) e

pub masked_j-rec-requires : goal.masked_j-rec-requires
masked_j-rec-requires c =
    record {
      hash = record {
        input = c.requires.z;
        public = refl;
        words = omega (arith, masks c.args.p c.requires.words, hashed-words c.args.p c.requires.ct);
        out = record { long0 = omega arith; long1 = omega arith };
      };
      most = omega (arith, c.requires.ct, ct_bytes_most c.requires.fits);
    }

pub stage10-requires : goal.stage10-requires
stage10-requires c =
    let g = c.requires.hashed in
    record {
      bit = c.requires.bit;
      x0 = omega (arith, g.long0);
      x1 = omega (arith, g.long1);
      y0 = omega (arith, c.masked_j-rec.auto.out0);
      y1 = omega (arith, c.masked_j-rec.auto.out1);
      masks =
          length_rest _ 4 c.args.ws.now
          (omega (arith, masks c.args.p c.requires.words, c.stage9_words-w.ensures.value));
      out0 = c.requires.out.long0;
      out1 = c.requires.out.long1;
    }

pub returns : goal.returns
unfolding ending
returns c cs =
    rw (words_of c.args.p)
    (bind _ (rw (hashed-words c.args.p c.requires.ct) at (c.masked_j-rec.ensures cs))
    (part_from c.args.ws.now c.stage9_words-w.ensures.value 4 (c.stage10.ensures cs)))

pub slice_bounds-stage10-count : goal.slice_bounds-stage10-count
slice_bounds-stage10-count c = omega (arith, masks c.args.p c.requires.words, c.stage9_words-w.ensures.value)

pub slice_bounds-stage10-start : goal.slice_bounds-stage10-start
slice_bounds-stage10-start c = omega (arith, masks c.args.p c.requires.words, c.stage9_words-w.ensures.value)
