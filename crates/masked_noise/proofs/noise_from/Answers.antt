-- The bits are hashed from the coins and n, and then sampled: noisePoly's two halves, each with the masks of its own
-- strip.
use mathlib.Core.Path.{◌≡◌, refl, sym, ◌∙◌}
use Prim.Native.Nat.{ℕ, ◌≤◌}
use lib.ListN.{length, drop}
use Rattle.worksheet.specs.Ran.{bind, over}
use Rattle.worksheet.specs.Sharing.{none}
use Rattle.worksheet.specs.SharedList.{SharedList, shared_list}
use Rattle.worksheet.specs.SharedListLaws.{unzip-zip}
use Rattle.stages.specs.Counts.{noise_words}
use Rattle.stages.specs.Lent.{Long}
use Rattle.stages.specs.Worksheet.{noise_poly}
use native.Mathlib.Omega.{arith}
use Rattle.masked_noise.proofs.noise_from.Goals as goal

-- what a call leaves is as long as what it was lent
kept : {n : ℕ} {x l : SharedList} → length x.s0 ≡ length l.s0 → length x.s1 ≡ length l.s1 → Long n l → Long n x
kept a b l = record { long0 = a ∙ l.long0; long1 = b ∙ l.long1 }

pub noise_bits-rec-requires : goal.noise_bits-rec-requires
unfolding noise_words
noise_bits-rec-requires c =
    let g = c.requires in
    let enough : noise_words c.args.eta ≤ length c.args.ws.now = omega (arith, g.noise.words) in
    record {
      input = g.noise.coins;
      public = refl;
      words = rw g.bits.long0 enough;
      out = record { long0 = refl; long1 = g.bits.long1 ∙ sym g.bits.long0 };
    }

pub sample_all-requires : goal.sample_all-requires
sample_all-requires c =
    let g = c.requires.noise in
    record {
      width = g.width;
      convert =
          record {
            input = kept c.noise_bits-rec.auto.o0 c.noise_bits-rec.auto.o1 c.requires.bits;
            coeffs = record { enough = omega (arith, g.coeffs.enough); below = g.coeffs.below };
            out = g.out;
          };
    }

pub returns : goal.returns
unfolding noise_poly noise_words
returns c =
    let o = c.sample_all in
    let l : Long 256 (shared_list o.new.f0 o.new.f1) = kept o.auto.f0 o.auto.f1 c.requires.noise.out in
    bind _ (rw c.requires.bits.long0 at (c.noise_bits-rec.ensures c.args.cs.now))
    (bind _ (c.sample_all.ensures (drop (noise_words c.args.eta) c.args.ws.now))
    (rw (unzip-zip 256 (shared_list o.new.f0 o.new.f1) none l.long0 l.long1) over))
