-- The first 256 k coefficients of each array are the room that encrypt_in asks for.
use native.Mathlib.Omega.{arith}
use Rattle.kpke.proofs.encrypt.encrypt.Goals as goal

pub encrypt_in-requires : goal.encrypt_in-requires
encrypt_in-requires c = (c.requires, record { t = omega arith; y = omega arith; u = omega arith })
