-- What turn i of a loop over k parts counts with, and that it brings the end nearer.
use Rattle.std.specs.Prelude.{ℕ, suc, ◌+◌, ◌-◌, ◌*◌, ◌^◌, ◌<◌, ◌≤◌}
use Rattle.std.proofs.Common.{mul-le-mul_left, mul-le-mul_right, arith, Fits}
use Rattle.std.specs.Int.{Width, w64}
use Rattle.words.specs.Part.{part_fits}

-- part i of n elements of b bytes each: where it starts, where it ends, and its start in bytes are numbers of a word
pub record Placed (b n i : ℕ) : Type 0 where
  pub start : Fits w64 (n * i)
  pub end : Fits w64 (n * i + n)
  pub bytes : Fits w64 (n * i * b)

-- one of k parts that take fewer than 2 ^ 63 bytes
pub placed : {b n k i : ℕ} → n * k * suc b < 2 ^ 63 → i < k → Placed (suc b) n i
placed {b} {n} {k} {i} r h =
    let e : n * i + n ≤ n * k = part_fits n h in
    let s : n * i * suc b ≤ n * k * suc b = mul-le-mul_right (suc b) (omega arith) in
    let t : n * k * 1 ≤ n * k * suc b = mul-le-mul_left (n * k) (omega arith) in
    record {
      start = record { fits = omega arith };
      end = record { fits = omega arith };
      bytes = record { fits = omega arith };
    }

-- a turn brings the end nearer
pub turn_less : {k i : ℕ} → i < k → k - (i + 1) < k - i
turn_less h = omega arith

pub next_fits : {w : Width} {i k : ℕ} → i < k → Fits w k → Fits w (i + 1)
next_fits h f = record { fits = omega (arith, f.fits) }
