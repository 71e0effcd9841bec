-- The slice copied stands before what is left of 200 zeros.
use Prim.Native.Nat.{ℕ}
use mathlib.Core.Path.{ap₂}
use mathlib.Core.List.{List, ◌++◌}
use lib.ListN.{length}
use Rattle.std.proofs.lemmas.List.{drop-replicate}
use Rattle.fips202.proofs.absorb.zero_filled.Goals as goal

pub returns : goal.returns
returns c =
    ap₂ (λ (k l : List ℕ). k ++ l) c.copy_from_slice.ensures.after (drop-replicate {X = ℕ} (length c.args.p.now) 200 0)
