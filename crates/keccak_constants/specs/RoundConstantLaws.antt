-- The round constants: the entries of a list that tabulates them, and that they have 64 bits.
use Rattle.std.specs.Prelude.{◌≡◌, List, ℕ, ◌+◌, ◌-◌, ◌^◌, ◌<◌, leb, get_or}
use Rattle.std.proofs.Common.{mod-lt, arith, leb→le, shl_lt}
use Rattle.words.specs.Bits.{Bits}
use Rattle.words.specs.WordLaws.{xor-bits, zero_bits, bits_mono}
use Rattle.words.specs.IterateLaws.{iterate_keeps}
use Rattle.words.specs.TableLaws.{every_at}
use Rattle.words.specs.Tab.{tab}
use Rattle.words.specs.TabLaws.{tabulated_at}
use Rattle.keccak_constants.specs.RoundConstants.{rc, with_bit, constant}

pub entry_constant : {constants : List ℕ} → constants ≡ tab 24 constant → (i : ℕ) → i < 24
    → get_or constants i 0 ≡ constant i
entry_constant e i h = tabulated_at 24 constant e i 0 h

pub constant-bits : (i : ℕ) → Bits 64 (constant i)
unfolding constant rc
constant-bits i =
    iterate_keeps (λ j k. Bits 64 k) 7 (with_bit i)
    (λ j h k b.
    let g = leb→le _ _ (every_at 7 (λ j. leb (1 + (2 ^ j - 1)) 64) tt j h) in
    xor-bits b (bits_mono g (record { lt = shl_lt 1 (2 ^ j - 1) (mod-lt _ (omega arith)) })))
    zero_bits
