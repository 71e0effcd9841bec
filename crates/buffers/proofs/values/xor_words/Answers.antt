-- Place i takes the xor of the words there.
use Rattle.std.proofs.Common.{rules, ℕ, get_or}
use Rattle.words.specs.Word.{xor}
use Rattle.buffers.proofs.values.xor_words.Goals as goal

pub returns : goal.returns
unfolding xor
returns c =
    c.tabulate.ensures (λ (i : ℕ). xor (get_or c.args.a.now i 0) (get_or c.args.b.now i 0))
    (λ i y h given. search rules)
