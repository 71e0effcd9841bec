-- Four words are selected; the hash that is behind or before draws what stage 9 does, or 625 for 64 bytes.
use native.Mathlib.Omega.{arith}
use Rattle.masked_fips202.specs.MaskedWords.{shake256_mask_words}
use Rattle.stages.specs.Counts.{ending_words}
use Rattle.stages.proofs.mask_counts.ending_words.Goals as goal

pub returns-in-MlKem : goal.returns-in-MlKem
unfolding ending_words
returns-in-MlKem c =
    let w = c.stage9_words.ensures in
    rw c.in-MlKem.is (record { value = omega (arith, w.value); upper_bound = omega (arith, w.upper_bound) })

pub returns-in-Kyber : goal.returns-in-Kyber
unfolding ending_words shake256_mask_words
returns-in-Kyber c = rw c.in-Kyber.is (record { value = omega arith; upper_bound = omega arith })
