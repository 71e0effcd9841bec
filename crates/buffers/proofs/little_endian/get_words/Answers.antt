-- Place i takes the number that the next 8 bytes hold, which is what a number of the string is.
use Rattle.std.proofs.Common.{rules}
use Rattle.buffers.specs.LittleEndian.{numbers, number_at}
use Rattle.buffers.proofs.Reading.{read_at}
use Rattle.buffers.proofs.little_endian.get_words.Goals as goal

pub returns : goal.returns
unfolding numbers
returns c = c.tabulate.ensures (number_at 8 c.args.b.now) (λ i y h given. search (rules, read_at))
