-- The sponge on two shares, its output as it is squeezed: in bytes or in words.
use Rattle.std.specs.Prelude.{List, ℕ}
use Rattle.worksheet.specs.Prog.{Prog, ◌>>=◌}
use Rattle.worksheet.specs.SharedList.{SharedList}
use Rattle.masked_sponge.specs.MaskedSponge.{masked_absorb}

-- the message is taken in, and its output squeezed from the state
abbrev pub sponge_output : {A : Type 0} → ℕ → ℕ → List ℕ → List ℕ → (SharedList → Prog A) → Prog A
sponge_output rate suffix in0 in1 squeezed = masked_absorb rate suffix in0 in1 >>= squeezed
