-- The three parts draw one behind the other: decryption, stage 3, and stages 4 to 8 with all coefficients.
use mathlib.Core.Path.{◌≡◌, ◌∙◌}
use Prim.Native.Nat.{ℕ, ◌+◌, ◌≤◌}
use native.Mathlib.Omega.{arith}
use Rattle.worksheet.specs.Ran.{bind, part_words}
use Rattle.parameters.specs.declared.Parameters.{Parameters}
use Rattle.stages.specs.Worksheet.{compared}
use Rattle.stages.specs.Counts.{stage3_words, decrypt_words, encrypt_words, stage8_words, compared_words}
use Rattle.stages.specs.CountsTable.{fixed_counts}
use Rattle.stages.proofs.StoredRun.{length_rest}
use Rattle.decapsulation_compared.specs.ReencryptionCheck.{reencryption_check}
use Rattle.decapsulation_compared.proofs.LentParts.{front_counted, length_front, rest_counted, length_counted}
use Rattle.decapsulation_compared.proofs.LentParts.{expanded_front}
use Rattle.decapsulation_compared.proofs.compared.Goals as goal

-- ---- facts
-- stages 2 and 3 draw 164 and 625 words
decrypt-words : decrypt_words ≡ 164
unfolding decrypt_words
decrypt-words = fixed_counts.stage2_words

words_of : (p : Parameters) → compared_words p ≡ 789 + (encrypt_words p + stage8_words p)
unfolding compared_words
words_of p = omega (arith, decrypt-words, fixed_counts.stage3_words)

-- all words are there
words-there : (p : Parameters) {n : ℕ} → compared_words p ≤ n → 789 + (encrypt_words p + stage8_words p) ≤ n
words-there p h = rw (words_of p) at h

pub masked_decrypt-rec-requires : goal.masked_decrypt-rec-requires
masked_decrypt-rec-requires c =
    record {
      fits = c.requires.fits;
      secret = c.requires.secret;
      ct = c.requires.ct;
      words = omega (arith, words-there c.args.p c.requires.words, decrypt-words);
      out = record { long0 = omega arith; long1 = omega arith };
    }

pub stage3-rec-requires : goal.stage3-rec-requires
stage3-rec-requires c =
    record {
      input =
          record {
            long0 = omega (arith, c.masked_decrypt-rec.auto.m0);
            long1 = omega (arith, c.masked_decrypt-rec.auto.m1);
          };
      public = length_counted c.args.public.now c.ek_bytes-h.ensures 32 c.requires.public;
      words =
          length_rest 164 stage3_words c.args.ws.now
          (omega (arith, words-there c.args.p c.requires.words, fixed_counts.stage3_words));
      out = c.requires.out;
    }

pub reencryption_check-requires : goal.reencryption_check-requires
reencryption_check-requires c =
    record {
      fits = c.requires.fits;
      key =
          record {
            long = length_front c.args.public.now c.ek_bytes-h.ensures (omega (arith, c.requires.public));
            expanded = expanded_front c.args.p c.args.public.now c.ek_bytes-h.ensures c.requires.matrix;
          };
      ct = c.requires.ct;
      message =
          record {
            long0 = omega (arith, c.masked_decrypt-rec.auto.m0);
            long1 = omega (arith, c.masked_decrypt-rec.auto.m1);
          };
      hashed =
          record {
            long0 = c.stage3-rec.auto.g0 ∙ c.requires.out.long0;
            long1 = c.stage3-rec.auto.g1 ∙ c.requires.out.long1;
          };
      words = length_rest 789 _ c.args.ws.now (words-there c.args.p c.requires.words);
      coeffs = c.requires.coeffs;
    }

pub returns : goal.returns
unfolding compared reencryption_check
returns c =
    let a = c.args in
    let ws = a.ws.now in
    let public = a.public.now in
    let b = c.reencryption_check.ensures in
    record {
      ran = λ z.
          rw (words_of a.p)
          (bind _ (rw decrypt-words at (c.masked_decrypt-rec.ensures a.cs.now))
          (bind _
          (rw fixed_counts.stage3_words at
          (rw (rest_counted public c.ek_bytes-h.ensures) at
          (part_words ws 164 stage3_words (c.stage3-rec.ensures a.cs.now))))
          (rw (front_counted public c.ek_bytes-h.ensures) at
          (part_words ws 789 (encrypt_words a.p + stage8_words a.p) b.ran))));
      bit0 = b.bit0;
      bit1 = b.bit1;
    }

pub slice_bounds-stage3-count : goal.slice_bounds-stage3-count
slice_bounds-stage3-count c = omega (arith, c.requires.public, c.ek_bytes-h.ensures)

pub slice_bounds-stage3-start : goal.slice_bounds-stage3-start
slice_bounds-stage3-start c = omega (arith, c.requires.public, c.ek_bytes-h.ensures)

pub slice_bounds-stage3-count-2 : goal.slice_bounds-stage3-count-2
slice_bounds-stage3-count-2 c = omega (arith, words-there c.args.p c.requires.words)

pub slice_bounds-stage3-start-2 : goal.slice_bounds-stage3-start-2
slice_bounds-stage3-start-2 c = omega (arith, words-there c.args.p c.requires.words)

pub slice_bounds-reencryption_check-end : goal.slice_bounds-reencryption_check-end
slice_bounds-reencryption_check-end c = omega (arith, c.requires.public, c.ek_bytes-h.ensures)

pub slice_bounds-reencryption_check-count-2 : goal.slice_bounds-reencryption_check-count-2
slice_bounds-reencryption_check-count-2 c = omega (arith, words-there c.args.p c.requires.words)

pub slice_bounds-reencryption_check-start-2 : goal.slice_bounds-reencryption_check-start-2
slice_bounds-reencryption_check-start-2 c = omega (arith, words-there c.args.p c.requires.words)

pub shape_of-g0 : goal.shape_of-g0
shape_of-g0 c = c.stage3-rec.auto.g0

pub shape_of-g1 : goal.shape_of-g1
shape_of-g1 c = c.stage3-rec.auto.g1
