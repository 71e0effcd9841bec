-- The definition is the same sum of the same counts.
use borrow.Author.Rules.{rules}
use Rattle.stages.specs.Counts.{strip_coeffs, encrypt_coeffs}
use Rattle.stages.proofs.mask_counts.strip_coeffs.Goals as goal

pub returns : goal.returns
unfolding strip_coeffs encrypt_coeffs
returns c = record { value = search rules; upper_bound = search rules }
