-- Each arm knows the edition, and calls what that has.
use Rattle.mlkem_encaps.proofs.write_secret.Goals as goal

pub returns-in-MlKem : goal.returns-in-MlKem
returns-in-MlKem c = rw c.in-MlKem.is c.write_mlkem.ensures

pub returns-in-Kyber : goal.returns-in-Kyber
returns-in-Kyber c = rw c.in-Kyber.is c.write_kyber.ensures
