-- A hash on two shares: absorbing, then squeezing.
use mathlib.Core.Path.{◌≡◌, sym, subst}
use mathlib.Core.List.{List, []}
use Prim.Native.Nat.{ℕ, ◌*◌, ◌/◌, ◌≤◌}
use native.Mathlib.Nat.{mul-le-mul_left, div-mul-le_self}
use native.Mathlib.Omega.{arith}
use Rattle.worksheet.specs.declared.Recorder.{Recorder}
use Rattle.worksheet.specs.Prog.{Prog, ◌>>=◌}
use Rattle.worksheet.specs.ProgLaws.{bind_assoc}
use Rattle.worksheet.specs.Ran.{Ran}
use Rattle.worksheet.specs.Run.{run}
use Rattle.worksheet.specs.SharedList.{SharedList}
use Rattle.masked_sponge.specs.MaskedSponge.{masked_absorb, masked_sponge}
use Rattle.masked_sponge.specs.MaskedBytes.{masked_hash}
use Rattle.masked_sponge.specs.MaskedSteps.{squeeze_bytes}

-- the blocks of n bytes are few, so that the masks for them can be counted
pub blocks_le : (rate n : ℕ) → 8 ≤ rate → n / rate * 8 ≤ n
blocks_le rate n h = omega (arith, mul-le-mul_left (n / rate) h, div-mul-le_self n rate)

hash_is : (rate suffix : ℕ) (in0 in1 : List ℕ) (d : ℕ)
    → masked_hash rate suffix in0 in1 d ≡ masked_absorb rate suffix in0 in1 >>= squeeze_bytes (rate / 8) d
unfolding masked_hash masked_sponge squeeze_bytes
hash_is rate suffix in0 in1 d = bind_assoc _ _ _

pub hash_value : (rate suffix : ℕ) (in0 in1 : List ℕ) (d : ℕ) {t : SharedList} {r r' : Recorder} {ws ws' cs' : List ℕ}
    → Ran (masked_absorb rate suffix in0 in1 >>= squeeze_bytes (rate / 8) d) r ws [] t r' ws' cs'
    → t ≡ (run (masked_hash rate suffix in0 in1 d) ws []).value
hash_value rate suffix in0 in1 d {t = t} {ws = ws} a =
    subst (λ (p : Prog SharedList). t ≡ (run p ws []).value) (sym (hash_is rate suffix in0 in1 d)) (sym a.value)
