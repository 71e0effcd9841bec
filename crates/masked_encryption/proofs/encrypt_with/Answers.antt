-- Stage 6's residues are what stage 7 compresses; the two runs follow each other.
use mathlib.Core.Path.{◌≡◌}
use Prim.Native.Nat.{◌+◌, ◌-◌, ◌*◌}
use Rattle.worksheet.specs.Ran.{bind}
use Rattle.masked_encryption.specs.Encryption.{encrypt_with}
use native.Mathlib.Omega.{arith}
use Rattle.masked_encryption.proofs.encrypt_with.Goals as goal

pub stage7-requires : goal.stage7-requires
stage7-requires c =
    let from_zero : 256 * (c.args.p.k + 1) - 0 ≡ 256 * (c.args.p.k + 1) = omega arith in
    record {
      fits = c.requires.input.fits;
      input = rw from_zero c.stage6-rec.ensures.range;
      words = c.requires.words;
      out = c.requires.out;
    }

pub returns : goal.returns
unfolding encrypt_with
returns c cs =
    let from_zero : 256 * (c.args.p.k + 1) - 0 ≡ 256 * (c.args.p.k + 1) = omega arith in
    bind _ (c.stage6-rec.ensures.ran _ cs) (rw from_zero at (c.stage7.ensures cs))
