-- Selection draws the first four words, and the last hash all others.
use mathlib.Core.Path.{◌≡◌, refl}
use Prim.Native.Nat.{ℕ, ◌+◌, ◌≤◌}
use native.Mathlib.Omega.{arith}
use Rattle.parameters.specs.declared.Parameters.{Parameters}
use Rattle.parameters.specs.declared.Edition.TheVariants.{Kyber}
use Rattle.worksheet.specs.Ran.{bind}
use Rattle.stages.specs.Counts.{last_hash_words, ending_words}
use Rattle.stages.specs.Worksheet.{ending}
use Rattle.stages.proofs.StoredRun.{length_rest}
use Rattle.stages.proofs.Strips.{part_from}
use Rattle.decapsulation_endings.proofs.kyber_ending.Goals as goal

-- ---- facts
words_of : (p : Parameters) → ending_words Kyber p ≡ 4 + last_hash_words
unfolding ending_words
words_of p = refl

masks : (p : Parameters) {n : ℕ} → ending_words Kyber p ≤ n → 4 + last_hash_words ≤ n
masks p h = rw (words_of p) at h

pub stage10-rec-requires : goal.stage10-rec-requires
stage10-rec-requires c =
    let g = c.requires.hashed in
    let z = c.requires.z in
    record {
      bit = c.requires.bit;
      x0 = omega (arith, g.long0);
      x1 = omega (arith, g.long1);
      y0 = omega (arith, z.long0);
      y1 = omega (arith, z.long1);
      masks = omega (arith, masks c.args.p c.requires.words);
      out0 = omega arith;
      out1 = omega arith;
    }

pub last_hash-requires : goal.last_hash-requires
last_hash-requires c =
    record {
      input = record { long0 = omega (arith, c.stage10-rec.auto.out0); long1 = omega (arith, c.stage10-rec.auto.out1) };
      public = refl;
      words = length_rest 4 last_hash_words c.args.ws.now (omega (arith, masks c.args.p c.requires.words));
      out = c.requires.out;
    }

pub returns : goal.returns
unfolding ending
returns c cs =
    rw (words_of c.args.p)
    (bind _ (c.stage10-rec.ensures cs)
    (part_from c.args.ws.now refl last_hash_words (c.last_hash.ensures cs)))

pub slice_bounds-last_hash-count : goal.slice_bounds-last_hash-count
slice_bounds-last_hash-count c = omega (arith, masks c.args.p c.requires.words)

pub slice_bounds-last_hash-start : goal.slice_bounds-last_hash-start
slice_bounds-last_hash-start c = omega (arith, masks c.args.p c.requires.words)
