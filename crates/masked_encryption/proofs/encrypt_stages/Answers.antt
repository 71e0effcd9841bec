-- The stages run one after the other: stage 4 draws the first 256 coefficients, stage 5 the others and its words, and
-- stages 6 and 7 the words behind these.
use mathlib.Core.Path.{◌∙◌}
use native.Mathlib.Omega.{arith}
use native.Mathlib.Nat.{le_refl}
use Prim.Native.Nat.{ℕ, ◌+◌, ◌≤◌}
use lib.ListN.{length, drop}
use mathlib.Core.List.{List}
use Rattle.parameters.specs.declared.Parameters.{Parameters}
use Rattle.worksheet.specs.Ran.{bind, part_coeffs}
use Rattle.stages.specs.Worksheet.{masked_encrypt}
use Rattle.stages.specs.Counts.{stage5_words, stage5_coeffs, stage7_words, encrypt_words, encrypt_coeffs}
use Rattle.stages.specs.Lent.{Masks}
use Rattle.stages.specs.LentLaws.{masks_rest}
use Rattle.stages.proofs.StoredRun.{length_rest}
use Rattle.masked_encryption.specs.Encryption.{encrypt_with}
use Rattle.stages.proofs.Strips.{part_from}
use Rattle.masked_encryption.proofs.encrypt_stages.Goals as goal

-- ---- facts: stage 5's part of the strips
words : (p : Parameters) (ws : List ℕ) → encrypt_words p ≤ length ws → stage5_words p + stage7_words p ≤ length ws
unfolding encrypt_words
words p ws h = h

coeffs : (p : Parameters) {cs : List ℕ} → Masks (encrypt_coeffs p) cs → Masks (256 + stage5_coeffs p) cs
unfolding encrypt_coeffs
coeffs p h = h

pub stage4-rec-requires : goal.stage4-rec-requires
stage4-rec-requires c =
    let m = coeffs c.args.p c.requires.0.coeffs in
    record {
      input = c.requires.0.message;
      coeffs = record { enough = omega arith; below = m.below };
      out = c.requires.1.message;
    }

pub stage5-rec-requires : goal.stage5-rec-requires
stage5-rec-requires c =
    record {
      fits = c.requires.0.fits;
      coins = c.requires.0.coins;
      words = omega (arith, words c.args.p c.args.ws.now c.requires.0.words);
      coeffs = masks_rest 256 (stage5_coeffs c.args.p) (le_refl _) (coeffs c.args.p c.requires.0.coeffs);
      out = c.requires.1.noise;
    }

pub encrypt_with-requires : goal.encrypt_with-requires
encrypt_with-requires c =
    record {
      input =
          record {
            fits = c.requires.0.fits;
            key = c.requires.0.key;
            noise =
                record {
                  long0 = c.stage5-rec.auto.n0 ∙ c.requires.1.noise.long0;
                  long1 = c.stage5-rec.auto.n1 ∙ c.requires.1.noise.long1;
                };
            message =
                record {
                  long0 = c.stage4-rec.auto.mu0 ∙ c.requires.1.message.long0;
                  long1 = c.stage4-rec.auto.mu1 ∙ c.requires.1.message.long1;
                };
          };
      words =
          length_rest c.stage5_words-w.result (stage7_words c.args.p) c.args.ws.now
          (omega (arith, words c.args.p c.args.ws.now c.requires.0.words, c.stage5_words-w.ensures.value));
      out = c.requires.0.out;
    }

pub returns : goal.returns
unfolding masked_encrypt encrypt_with encrypt_words encrypt_coeffs
returns c =
    let a = c.args in
    bind _ (c.stage4-rec.ensures a.ws.now)
    (bind _ (part_coeffs a.cs.now 256 (stage5_coeffs a.p) c.stage5-rec.ensures)
    (part_from a.ws.now c.stage5_words-w.ensures.value (stage7_words a.p)
    (c.encrypt_with.ensures (drop (256 + stage5_coeffs a.p) a.cs.now))))

pub slice_bounds-stage5-count : goal.slice_bounds-stage5-count
slice_bounds-stage5-count c = omega (arith, (coeffs c.args.p c.requires.0.coeffs).enough)

pub slice_bounds-stage5-start : goal.slice_bounds-stage5-start
slice_bounds-stage5-start c = omega (arith, (coeffs c.args.p c.requires.0.coeffs).enough)

pub slice_bounds-encrypt_with-count : goal.slice_bounds-encrypt_with-count
slice_bounds-encrypt_with-count c =
    omega (arith, words c.args.p c.args.ws.now c.requires.0.words, c.stage5_words-w.ensures.value)

pub slice_bounds-encrypt_with-start : goal.slice_bounds-encrypt_with-start
slice_bounds-encrypt_with-start c =
    omega (arith, words c.args.p c.args.ws.now c.requires.0.words, c.stage5_words-w.ensures.value)
