-- Numbers of n bytes each, which are lent as the part from n * i to n * i + n.
use Rattle.std.proofs.Common.{◌≡◌, ℕ, ◌+◌, ◌-◌, ◌*◌, List, take, drop, ap, ◌∙◌}
use Rattle.words.specs.Numeral.{value}
use Rattle.words.specs.Part.{part_span}
use Rattle.buffers.specs.LittleEndian.{number_at}

pub read_at : (n : ℕ) (b : List ℕ) (i : ℕ) {v : ℕ} → v ≡ value 256 (take (n * i + n - n * i) (drop (n * i) b))
    → v ≡ number_at n b i
read_at n b i e = e ∙ ap (value 256) (part_span (n * i) n b)
