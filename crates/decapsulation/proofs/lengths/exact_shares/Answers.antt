-- Lists of n0 and n1 words have four each exactly where the two numbers are 4.
use mathlib.Core.Path.{refl, sym}
use Rattle.refusals.specs.RefusalLaws.{lengths_tested}
use Rattle.decapsulation.proofs.Outcome.{shares}
use Rattle.decapsulation.proofs.lengths.exact_shares.Goals as goal

pub returns : goal.returns
returns c k0 k1 e0 e1 = sym (lengths_tested (shares k0 k1) (rw (e0, e1) c.exact.ensures) refl).is
