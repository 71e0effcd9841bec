-- Place i takes byte i % 2 of element i / 2, which is byte i of them all.
use Rattle.std.proofs.Common.{rules, ℕ, ap, sym, ◌∙◌}
use Rattle.words.specs.Tab.{tab}
use Rattle.words.specs.LittleEndianLaws.{words_to_bytes-tab}
use Rattle.buffers.specs.LittleEndian.{byte_at}
use Rattle.buffers.proofs.little_endian.put_coefficients.Goals as goal

pub returns : goal.returns
returns c =
    let bytes = byte_at 2 c.args.f.now in
    c.tabulate.ensures bytes (λ i y h given. search rules)
    ∙ ap (λ (n : ℕ). tab n bytes) c.requires
    ∙ sym (words_to_bytes-tab 2 _)
