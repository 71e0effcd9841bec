-- Place i takes digit i, and there are as many places as digits.
use Rattle.std.proofs.Common.{rules, ℕ, ap, ◌∙◌}
use Rattle.words.specs.Tab.{tab}
use Rattle.text.specs.Hex.{hex, digit_at}
use Rattle.text.proofs.hex.spell.Goals as goal

pub returns : goal.returns
unfolding hex
returns c =
    let digit = digit_at c.args.b.now in
    c.tabulate.ensures digit (λ i y h given. search rules) ∙ ap (λ (n : ℕ). tab n digit) c.requires
