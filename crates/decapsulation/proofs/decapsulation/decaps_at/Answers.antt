-- Rows 1 and 11 are tested first; behind them the one function, told no step, answers as the other rows. There the
-- count is below the limit, so that one more is a number of 32 bits, and it is raised where none of them refuses.
use mathlib.Core.Path.{refl}
use native.Mathlib.Omega.{arith}
use Rattle.std.specs.Prelude.{◌+◌}
use Rattle.refusals.specs.RefusalLaws.{handed_on}
use Rattle.decapsulation_run.specs.Lent.{input_of}
use Rattle.decapsulation.proofs.Outcome.{wrong_length, limit_reached, decaps_sized, told-decapsulated, refused_kept}
use Rattle.decapsulation.proofs.decapsulation.decaps_at.Goals as goal

pub returns-then-not-exact-exact_shares : goal.returns-then-not-exact-exact_shares
returns-then-not-exact-exact_shares c =
    let a = c.args in
    wrong_length a.e a.p (input_of a.input.now) a.limit a.count.now a.k0.now a.k1.now c.exact_input-exact.ensures
    (c.exact_shares.ensures a.k0.now a.k1.now refl refl) c.if-not-exact-exact_shares.true

pub returns-then-used-limit : goal.returns-then-used-limit
returns-then-used-limit c =
    let a = c.args in
    limit_reached a.e a.p (input_of a.input.now) a.limit a.count.now a.k0.now a.k1.now c.exact_input-exact.ensures
    (c.exact_shares.ensures a.k0.now a.k1.now refl refl) c.if-not-exact-exact_shares.false c.if-used-limit.true

pub decapsulate-requires : goal.decapsulate-requires
decapsulate-requires c =
    let a = c.args in
    decaps_sized a.e a.p (input_of a.input.now) a.limit a.count.now a.k0.now a.k1.now c.exact_input-exact.ensures
    (c.exact_shares.ensures a.k0.now a.k1.now refl refl) c.if-not-exact-exact_shares.false c.requires

-- ---- the count
pub returns-in_err-decapsulate : goal.returns-in_err-decapsulate
returns-in_err-decapsulate c =
    let a = c.args in
    rw (handed_on c.from_residual.result c.from_residual.ensures.1)
    (rw c.in_err-decapsulate.was at
    (told-decapsulated a.e a.p (input_of a.input.now) a.limit a.count.now a.k0.now a.k1.now
    c.exact_input-exact.ensures (c.exact_shares.ensures a.k0.now a.k1.now refl refl)
    c.if-not-exact-exact_shares.false {count' = a.count.now} c.if-used-limit.false c.decapsulate.ensures
    (refused_kept c.in_err-decapsulate.was a.count.now)))

pub returns : goal.returns
returns c =
    let a = c.args in
    rw c.in_ok-decapsulate.was at
    (told-decapsulated a.e a.p (input_of a.input.now) a.limit a.count.now a.k0.now a.k1.now
    c.exact_input-exact.ensures (c.exact_shares.ensures a.k0.now a.k1.now refl refl)
    c.if-not-exact-exact_shares.false {count' = a.count.now + 1} c.if-used-limit.false c.decapsulate.ensures
    (rw c.in_ok-decapsulate.was refl))

pub overflow_add-count : goal.overflow_add-count
overflow_add-count c =
    record { fits = omega (arith, c.if-used-limit.false, c.ranges.limit.fits) }
