-- Selection as in stage 10, of K' or of what stands beside it, by the equal bit: what its stage is asked for.
use Rattle.worksheet.specs.Prog.{Prog}
use Rattle.worksheet.specs.SharedList.{SharedList, shared_at}
use Rattle.masked_comparison.specs.SelectionSilence.{Operands}
use Rattle.stages.specs.Worksheet.{Compared, stage10}

-- what follows stage 8, beside z or ML-KEM's rejected words
abbrev pub selected : Compared × SharedList → Prog SharedList
selected a = stage10 a.0.equal a.0.g a.1

-- its operands, place by place
abbrev pub operands : Compared × SharedList → Operands
operands a = record { bit = a.0.equal; left = shared_at a.0.g; right = shared_at a.1 }
