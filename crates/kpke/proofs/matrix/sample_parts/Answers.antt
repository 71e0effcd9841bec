-- Turn i samples part i where the first i parts end if there is enough for it, and says no where there isn't: so yes
-- means that all k parts are in place.
use Rattle.std.proofs.Common.{◌≡◌, ◌-◌, ◌<◌, ◌+◌, ◌*◌, sym, ◌∙◌, arith, length, take, drop}
use Rattle.words.specs.Part.{length_span, part_fits}
use Rattle.refusals.specs.RefusalLaws.{handed_on}
use Rattle.kpke.proofs.Sampled.{sampled_start, sampled_turn, sampled_stop, sampled_end}
use Rattle.kpke.proofs.matrix.sample_parts.Goals as goal

pub loop-i-init : goal.loop-i-init
loop-i-init g c = (c.requires.long, λ enough v gives. sampled_start c.requires.long)

pub loop-i-preserved : goal.loop-i-preserved
loop-i-preserved g c = (
  omega arith,
  λ enough v gives.
      let i = c.loop-i.i in
      let n = c.args.n in
      let h : i < c.args.k = omega arith in
      let whole : length (take (n * i + n - n * i) (drop (n * i) c.loop-i.a)) ≡ n =
      length_span (n * i) n c.loop-i.a (omega (arith, part_fits n h)) in
      sampled_turn (c.loop-i.invariant.1 enough v gives) h c.f.auto.arg3 (gives i _ _ _ h whole c.f.ensures)
      c.in_ok-f.was,
)

pub returns-in_err-f : goal.returns-in_err-f
returns-in_err-f g c enough v gives =
    let i = c.loop-i.i in
    let n = c.args.n in
    let h : i < c.args.k = omega arith in
    let whole : length (take (n * i + n - n * i) (drop (n * i) c.loop-i.a)) ≡ n =
    length_span (n * i) n c.loop-i.a (omega (arith, part_fits n h)) in
    let e = sym c.in_err-f.was ∙ (gives i _ _ _ h whole c.f.ensures).answer in
    rw (handed_on c.from_residual.result c.from_residual.ensures.1) (sampled_stop c.args.k enough v i h e)

pub returns : goal.returns
returns g c enough v gives = sampled_end (c.loop-i.invariant.1 enough v gives) (omega arith)
