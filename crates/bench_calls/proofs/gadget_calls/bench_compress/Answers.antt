-- The tests before the call are what masked compression asks for: lengths, and coefficients below q.
use mathlib.Core.Path.{sym, ◌∙◌}
use native.Mathlib.Omega.{arith}
use Rattle.refusals.specs.ReducedLaws.{reduced-below}
use Rattle.bench_calls.proofs.gadget_calls.bench_compress.Goals as goal

pub masked_compress-o-requires : goal.masked_compress-o-requires
masked_compress-o-requires c =
    record {
      depth = omega arith;
      share0 =
          record {
            long = omega arith;
            below = reduced-below _ (sym c.reduced.ensures ∙ c.if-not-reduced.false);
          };
      share1 =
          record {
            long = omega arith;
            below = reduced-below _ (sym c.reduced-2.ensures ∙ c.if-not-reduced-2.false);
          };
      masks = omega arith;
    }
