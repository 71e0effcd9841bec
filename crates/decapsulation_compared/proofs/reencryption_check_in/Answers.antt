-- Encryption draws the first words and all coefficients, and stage 8 the words behind them.
use mathlib.Core.Path.{◌∙◌}
use native.Mathlib.Omega.{arith}
use lib.ListN.{drop}
use Rattle.worksheet.specs.Ran.{bind, over}
use Rattle.worksheet.specs.SharedList.{shared_list}
use Rattle.stages.specs.Worksheet.{word_count}
use Rattle.stages.specs.Counts.{encrypt_coeffs, stage8_words}
use Rattle.stages.specs.Lent.{Long}
use Rattle.stages.proofs.StoredRun.{length_rest}
use Rattle.stages.proofs.Strips.{part_from}
use Rattle.decapsulation_compared.specs.ReencryptionCheck.{reencryption_check}
use Rattle.decapsulation_compared.proofs.LentParts.{coins_part, coins_long}
use Rattle.decapsulation_compared.proofs.reencryption_check_in.Goals as goal

pub masked_encrypt-rec-requires : goal.masked_encrypt-rec-requires
masked_encrypt-rec-requires c =
    let i = c.requires.0 in
    record {
      fits = i.fits;
      key = i.key;
      message = i.message;
      coins = coins_long c.args.g0.now c.args.g1.now i.hashed;
      words = omega (arith, i.words);
      coeffs = i.coeffs;
      out = c.requires.1;
    }

-- the planes that encryption leaves
planes-long : (c : goal.After-stage8-arg-2-1)
    → Long (word_count c.args.p)
    (shared_list c.masked_encrypt-rec.new.planes0 c.masked_encrypt-rec.new.planes1)
planes-long c =
    let o = c.requires.1 in
    record { long0 = c.masked_encrypt-rec.auto.planes0 ∙ o.long0; long1 = c.masked_encrypt-rec.auto.planes1 ∙ o.long1 }

pub stage8-requires : goal.stage8-requires
stage8-requires c =
    let i = c.requires.0 in
    record {
      fits = i.fits;
      ct = i.ct;
      planes = planes-long c;
      words =
          length_rest _ (stage8_words c.args.p) c.args.ws.now
          (omega (arith, i.words, c.encrypt_words-w.ensures.value));
    }

pub returns : goal.returns
unfolding reencryption_check
returns c =
    let a = c.args in
    record {
      ran =
          bind _
          (rw (coins_part a.g0.now a.g1.now c.requires.0.hashed) at
          c.masked_encrypt-rec.ensures)
          (bind _
          (part_from a.ws.now c.encrypt_words-w.ensures.value (stage8_words a.p)
          (c.stage8.ensures.ran (drop (encrypt_coeffs a.p) a.cs.now)))
          over);
      bit0 = c.stage8.ensures.bit0;
      bit1 = c.stage8.ensures.bit1;
    }

pub slice_bounds-masked_encrypt-end : goal.slice_bounds-masked_encrypt-end
slice_bounds-masked_encrypt-end c = omega (arith, c.requires.0.hashed.long0)

pub slice_bounds-masked_encrypt-end-2 : goal.slice_bounds-masked_encrypt-end-2
slice_bounds-masked_encrypt-end-2 c = omega (arith, c.requires.0.hashed.long1)

pub offset_bounds-ws-w : goal.offset_bounds-ws-w
offset_bounds-ws-w c = record { fits = omega (arith, c.encrypt_words-w.ensures.upper_bound) }

pub slice_bounds-stage8-count : goal.slice_bounds-stage8-count
slice_bounds-stage8-count c = omega (arith, c.requires.0.words, c.encrypt_words-w.ensures.value)

pub slice_bounds-stage8-start : goal.slice_bounds-stage8-start
slice_bounds-stage8-start c = omega (arith, c.requires.0.words, c.encrypt_words-w.ensures.value)
