-- The arrays are as long as the largest set asks for, and the stages are lent what p asks for.
use native.Mathlib.Omega.{arith}
use borrow.Author.Rules.{rules}
use Rattle.masked_encryption.proofs.masked_encrypt.Goals as goal

pub encrypt_stages-requires : goal.encrypt_stages-requires
encrypt_stages-requires c = (
  c.requires,
  record {
    message = search rules;
    noise =
        record {
          long0 = omega (arith, c.requires.fits.rank.most);
          long1 = omega (arith, c.requires.fits.rank.most);
        };
  },
)

pub returns : goal.returns
returns c = c.encrypt_stages.ensures
