-- A ciphertext within the bounds has 1,568 bytes at most, which are taken in blocks of 136.
use Prim.Native.Nat.{◌≤◌}
use native.Mathlib.Omega.{arith}
use Rattle.parameters.specs.Largest.{ct_bytes_most}
use Rattle.masked_fips202.specs.EntryCounts.{shake256_entries}
use Rattle.stages.proofs.entry_counts.stage9_entries.Goals as goal

bytes : (c : goal.After-ct_bytes) → c.ct_bytes.result ≤ 1568
bytes c = omega (arith, c.ct_bytes.ensures, ct_bytes_most c.requires)

pub returns : goal.returns
unfolding shake256_entries
returns c = record { value = omega (arith, c.ct_bytes.ensures); upper_bound = omega (arith, bytes c) }

pub overflow_add-result : goal.overflow_add-result
overflow_add-result c = record { fits = omega (arith, bytes c) }

pub overflow_add-result-2 : goal.overflow_add-result-2
overflow_add-result-2 c = record { fits = omega (arith, bytes c) }

pub overflow_mul-result : goal.overflow_mul-result
overflow_mul-result c = record { fits = omega (arith, bytes c) }
