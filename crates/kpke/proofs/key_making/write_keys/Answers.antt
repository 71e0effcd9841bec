-- The first 256 k coefficients of each array are the room that write_keys_in asks for.
use native.Mathlib.Omega.{arith}
use Rattle.kpke.proofs.key_making.write_keys.Goals as goal

pub write_keys_in-requires : goal.write_keys_in-requires
write_keys_in-requires c = (c.requires, record { s = omega arith; t = omega arith })
