-- Place i takes digit i of the number.
use Rattle.std.proofs.Common.{rules, ℕ, ◌/◌, ◌%◌, ◌^◌, ap, sym, ◌∙◌}
use Rattle.words.specs.Tab.{tab}
use Rattle.words.specs.NumeralLaws.{digits-tab}
use Rattle.buffers.proofs.little_endian.put_number.Goals as goal

pub returns : goal.returns
returns c =
    let digit = λ (i : ℕ). c.args.x / 256 ^ i % 256 in
    c.tabulate.ensures digit (λ i y h given. search rules)
    ∙ ap (λ (n : ℕ). tab n digit) c.requires
    ∙ sym (digits-tab 256 4 _)
