-- The blocks of a message in two shares: those that it fills, and its rest, padded in share 0, zero-filled in share 1.
use mathlib.Core.Path.{◌≡◌, sym, ap, subst, fun_ext}
use mathlib.Core.List.{List, ◌++◌}
use Prim.Native.Nat.{ℕ, suc, ◌+◌, ◌-◌, ◌*◌, ◌/◌, ◌<◌, ◌≤◌}
use native.Mathlib.Nat.{suc-mul, mul-le-mul_right, div-mul-le_self, lt-div-mul-add}
use native.Mathlib.Omega.{arith}
use lib.ListN.{length, take, drop, replicate}
use Rattle.worksheet.specs.declared.Recorder.{Recorder}
use Rattle.worksheet.specs.Shares.{Shares}
use Rattle.worksheet.specs.Prog.{Prog, loop}
use Rattle.worksheet.specs.ProgLaws.{loop_cong}
use Rattle.worksheet.specs.Ran.{Ran, bind}
use Rattle.worksheet.specs.RanLoops.{loop_turn}
use Rattle.worksheet.specs.Sharing.{shares}
use Rattle.worksheet.specs.SharedList.{SharedList}
use Rattle.fips202.specs.Sponge.{padding, padded, lane_of}
use Rattle.fips202.specs.Lanes.{lane_of_zeros}
use Rattle.masked_sponge.specs.MaskedSponge.{start, shared_block, masked_blocks, masked_absorb}
use Rattle.masked_sponge.specs.MaskedSteps.{shared_lane, take_in}
use Rattle.fips202.specs.Blocks.{block_padded, last_padded}

-- a whole block lies within n bytes
pub block_within : (rate n i : ℕ) → i < n / rate → i * rate + rate ≤ n
block_within rate n i h =
    omega (arith, suc-mul i rate, mul-le-mul_right {m = suc i} {n = n / rate} rate h, div-mul-le_self n rate)

-- after m whole blocks of n bytes, the last of which is left, there is at most one more
pub rest_within : (rate n m : ℕ) → 0 < rate → m ≡ (n - 1) / rate → (m * rate ≤ n) × (n ≤ m * rate + rate)
rest_within rate n m h e =
    rw e (omega (arith, div-mul-le_self (n - 1) rate), omega (arith, lt-div-mul-add {a = n - 1} {b = rate} h))

-- a message in two shares, the blocks of its first share padded
module _ (rate suffix : ℕ) (in0 in1 : List ℕ) (h : 0 < rate) where
  -- how many blocks the message fills
  abbrev q : ℕ
  q = length in0 / rate

  abbrev rest0 : List ℕ
  rest0 = drop (q * rate) in0

  abbrev rest1 : List ℕ
  rest1 = drop (q * rate) in1

  abbrev p0 : List ℕ
  p0 = padded rate suffix in0

  whole_below : q * rate ≤ length in0
  whole_below = div-mul-le_self (length in0) rate

  rest_above : length in0 < q * rate + rate
  rest_above = lt-div-mul-add {a = length in0} {b = rate} h

  whole_blocks : (s : SharedList)
      → loop q (λ i. take_in (rate / 8) (shared_block rate in0 in1 i)) s
      ≡ loop q (λ i. take_in (rate / 8) (shared_block rate p0 in1 i)) s
  whole_blocks s =
      loop_cong q s
      (λ i g u. ap (λ (p : List ℕ). take_in (rate / 8) (shared_lane p (take rate (drop (i * rate) in1))) u)
      (sym (block_padded rate suffix in0 q whole_below rest_above i g)))

  last_block : (b0 b1 : List ℕ) → take rate b0 ≡ rest0 ++ padding suffix (rate - 1 - length rest0)
      → b1 ≡ rest1 ++ replicate (200 - length rest1) 0
      → shared_lane (take rate b0) (take rate b1) ≡ shared_block rate p0 in1 q
  last_block b0 b1 e0 e1 =
      fun_ext (λ j.
      rw (e0, last_padded rate suffix in0 q whole_below rest_above, e1)
      (ap (shares (lane_of (rest0 ++ padding suffix (rate - 1 - length rest0)) j))
      (lane_of_zeros rate rest1 (200 - length rest1) j)))

  -- the start masks, the whole blocks, and the last block from b0 and b1
  pub absorb_ran : (b0 b1 : List ℕ) {s₀ s t : SharedList} {r r' r'' : Recorder} {ws ws₁ ws₂ ws₃ cs : List ℕ}
      → take rate b0 ≡ rest0 ++ padding suffix (rate - 1 - length rest0)
      → b1 ≡ rest1 ++ replicate (200 - length rest1) 0
      → Ran start r ws cs s₀ r ws₁ cs
      → Ran (loop q (λ i. take_in (rate / 8) (shared_block rate in0 in1 i)) s₀) r ws₁ cs s r' ws₂ cs
      → Ran (take_in (rate / 8) (shared_lane (take rate b0) (take rate b1)) s) r' ws₂ cs t r'' ws₃ cs
      → Ran (masked_absorb rate suffix in0 in1) r ws cs t r'' ws₃ cs
  unfolding masked_absorb masked_blocks
  absorb_ran b0 b1 {s₀} {s} {t} {r} {r'} {r''} {ws} {ws₁} {ws₂} {ws₃} {cs} e0 e1 a l z =
      bind _ a
      (loop_turn _ _ q (subst (λ (p : Prog SharedList). Ran p r ws₁ cs s r' ws₂ cs) (whole_blocks s₀) l)
      (subst (λ (b : ℕ → Shares). Ran (take_in (rate / 8) b s) r' ws₂ cs t r'' ws₃ cs) (last_block b0 b1 e0 e1) z))
