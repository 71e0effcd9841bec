-- Row 1 applies exactly where the length isn't n; else the sponge of rate 200 - 2 n fills the output.
use mathlib.Core.Path.{refl, ap, ◌∙◌}
use borrow.Author.Tests.{eq-eqb, ne_eqb}
use Rattle.refusals.specs.Refusals.{answer, sized}
use Rattle.fips202.specs.Calls.{sized_answer}
use Rattle.fips202.specs.Sponge.{sponge}
use Rattle.fips202.proofs.sha3.Goals as goal

pub returns-then-out-n : goal.returns-then-out-n
unfolding sized_answer answer sized
returns-then-out-n c = record { answer = rw (ne_eqb _ _ c.if-out-n.true); out = refl }

pub returns : goal.returns
unfolding sized_answer answer sized
returns c =
    let e = c.if-out-n.false in
    record { answer = rw (eq-eqb _ _ e); out = c.sponge.ensures ∙ ap (sponge _ 0x06 _) e }
