-- What is lent to be read: by the lists behind its slices.
use Rattle.split_key.specs.Lent.{split_key_of}
use Rattle.decapsulation_run.specs.declared.input.Input as code
use Rattle.decapsulation_run.specs.Input.{Input}

abbrev pub input_of : code.Input → Input
input_of g =
    record { key = split_key_of g.key; ct = g.ct.now; words = g.words.now; coeffs = g.coeffs.now }
