-- Stages 4 to 8, the end of `compared`, as a program of their own.
use Rattle.std.specs.Prelude.{List, ℕ}
use Rattle.worksheet.specs.Prog.{Prog, ret, ◌>>=◌}
use Rattle.worksheet.specs.SharedList.{SharedList}
use Rattle.parameters.specs.declared.Parameters.{Parameters}
use Rattle.stages.specs.Moves.{coins_of}
use Rattle.stages.specs.Worksheet.{Compared, masked_encrypt, stage8}

-- stages 4 to 8, for the message m and stage 3's words g: m is encrypted again, and the ciphertext compared with c
unfoldable pub reencryption_check : Parameters → List ℕ → SharedList → SharedList → List ℕ → Prog Compared
reencryption_check p ek m g c = do
  w ← masked_encrypt p ek m (coins_of g)
  b ← stage8 p c w
  ret (record { equal = b; g = g })
