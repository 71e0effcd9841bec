-- The planes' arrays are cut to as many words as are compared.
use native.Mathlib.Omega.{arith}
use Rattle.decapsulation_compared.proofs.LentParts.{length_front}
use Rattle.decapsulation_compared.proofs.reencryption_check.Goals as goal

pub reencryption_check_in-requires : goal.reencryption_check_in-requires
reencryption_check_in-requires c =
    let e = c.word_count-n.ensures in (
      c.requires,
      record {
        long0 = length_front _ e.value (omega (arith, e.value, e.upper_bound));
        long1 = length_front _ e.value (omega (arith, e.value, e.upper_bound));
      },
    )
