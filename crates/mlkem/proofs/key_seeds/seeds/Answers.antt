-- Each arm knows the edition, and calls the hash of d that it has: with the rank, or alone.
use Rattle.mlkem.specs.Editions.{seeds}
use Rattle.mlkem.proofs.key_seeds.seeds.Goals as goal

pub returns-in-MlKem : goal.returns-in-MlKem
unfolding seeds
returns-in-MlKem c = rw c.in-MlKem.is c.hash_g_seed.ensures

pub returns-in-Kyber : goal.returns-in-Kyber
unfolding seeds
returns-in-Kyber c = rw c.in-Kyber.is c.hash_g_alone.ensures
