-- What sampling from a stream answers, by whether the stream yields enough: refusal 7 where it doesn't.
use Rattle.std.specs.Prelude.{Bool, true, false, Err}
use Rattle.refusals.specs.declared.Refusal.TheVariants.{ShortStream}
use Rattle.refusals.specs.Refusals.{Answer, Done}

abbrev pub answer_of : Bool → Answer
answer_of true = Done
answer_of false = Err ShortStream
