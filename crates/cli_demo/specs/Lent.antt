-- What the demonstration draws.
use Rattle.std.specs.Prelude.{ℕ, ◌+◌, ◌*◌}
use Rattle.cli_support.specs.declared.sets.Sizes.{Sizes}

-- how many bytes are drawn: three seeds, import's masks, a strip and refreshing's masks
abbrev pub drawn : Sizes → ℕ
drawn s = 512 * s.k + 128 + (8 * s.words + 2 * s.coeffs) + (512 * s.k + 32)
