-- noise_all leaves the k polynomials one after the other, and ntt_all transforms each part of 256 coefficients.
use borrow.Author.Rules.{rules}
use Rattle.kpke.proofs.Parts.{transformed_noise}
use Rattle.kpke.proofs.noise.transformed_noise.Goals as goal

pub returns : goal.returns
returns c = let s = c.args in search (rules, transformed_noise s.eta s.k s.seed.now)
