-- Laws of a split key as a string of bytes: its length, and that it is read from the start of a longer string.
use Rattle.std.specs.Prelude.{◌≡◌, List, ◌++◌, ℕ, ◌-◌, length, take, drop}
use Rattle.std.proofs.Common.{subst, arith, length-append}
use Rattle.words.specs.LittleEndian.{words_to_bytes}
use Rattle.buffers.specs.LittleEndian.{length_bytes_two}
use Rattle.split_key.specs.SplitKey.{SplitKey}
use Rattle.cli_support.specs.Split.{Sized, split_length, split_bytes, Unpacked}

pub length-split_bytes : {k : ℕ} {key : SplitKey} → Sized k key → length (split_bytes key) ≡ split_length k
unfolding split_bytes
length-split_bytes {k} {key} h =
    let s = words_to_bytes 2 key.s.s0 ++ words_to_bytes 2 key.s.s1 in
    let z = words_to_bytes 8 key.z.s0 ++ words_to_bytes 8 key.z.s1 in
    omega (
      arith,
      length-append s (z ++ key.public),
      length-append z key.public,
      length_bytes_two 2 key.s.s0 key.s.s1,
      length_bytes_two 8 key.z.s0 key.z.s1,
      h.s0_long,
      h.s1_long,
      h.z0_long,
      h.z1_long,
      h.public_long,
    )

-- lent as the part from 0 to m
pub unpacked_front : (b : List ℕ) {k m : ℕ} {key : SplitKey} → m ≡ split_length k
    → Unpacked k (take (m - 0) (drop 0 b)) key → Unpacked k (take (split_length k) b) key
unpacked_front b {k} {m} {key} e =
    let d : m - 0 ≡ split_length k = omega arith in
    subst (λ (n : ℕ). Unpacked k (take n b) key) d
