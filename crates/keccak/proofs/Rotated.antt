-- The library's rotate_left is the definitions' rotl.
use mathlib.Core.Path.{◌≡◌}
use Prim.Native.Nat.{ℕ, ◌<◌, ◌%◌}
use native.Mathlib.Nat.{mod-eq_of_lt}
use mir.Syntax.{w64}
use mir.Val.{Fits}
use Rattle.std.specs.Int.{rotate_left}
use Rattle.words.specs.Word.{rotl}
use Rattle.words.specs.Rotation.{rotl_or}

pub rotated : {x k : ℕ} → Fits w64 x → k < 64 → rotate_left w64 x k ≡ rotl 64 x k
rotated {x} {k} f h = let e : k % 64 ≡ k = mod-eq_of_lt h in rw e (rotl_or 64 x k (record { lt = f.fits }) h)
