-- Eight bytes, the lowest first, are the number that from_le_bytes makes of them, and the slice has no others.
use Prim.Native.Nat.{ℕ}
use mathlib.Core.Path.{◌≡◌, refl, sym, ap}
use mathlib.Core.List.{List}
use native.Mathlib.Omega.{arith}
use lib.ListN.{get_or, length}
use Rattle.words.specs.Tab.{tab}
use Rattle.words.specs.TabLaws.{tab_of}
use Rattle.words.specs.Numeral.{value}
use Rattle.fips202.proofs.bytes.load.Goals as goal

value-of-eight : (p : List ℕ) → length p ≡ 8 → value 256 (tab 8 (λ k. get_or p k 0)) ≡ value 256 p
value-of-eight p h = ap (value 256) (sym (tab_of 0 p 8 h (λ i _. refl)))

pub returns : goal.returns
unfolding tab value
returns c = omega (arith, c.from_le_bytes.ensures, value-of-eight c.args.p.now c.requires)
