-- The language's !x is 2^64 - 1 - x, which on a word of 64 bits is its complement; the five lanes are then chi_row's.
use mathlib.Core.Path.{◌≡◌}
use Prim.Native.Nat.{ℕ, ◌-◌, ◌^◌}
use borrow.Author.Rules.{rules}
use mir.Syntax.{w64}
use mir.Val.{Fits}
use Rattle.words.specs.Word.{xor, and, complement}
use Rattle.words.specs.WordLaws.{complement_sub}
use Rattle.keccak.proofs.row.Row.chi.Goals as goal

inverted : {x : ℕ} → Fits w64 x → complement 64 x ≡ 2 ^ 64 - 1 - x
inverted f = complement_sub (record { lt = f.fits })

pub returns : goal.returns
unfolding xor and
returns c =
    let r = c.args.self in
    rw (
      inverted {x = r.a} (search rules),
      inverted {x = r.b} (search rules),
      inverted {x = r.c} (search rules),
      inverted {x = r.d} (search rules),
      inverted {x = r.e} (search rules),
    )
