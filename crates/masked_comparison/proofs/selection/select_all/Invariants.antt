-- Turn j stores the selected word j of both shares, with mask word j.
use Rattle.worksheet.specs.Prog.{word, times}
use Rattle.worksheet.specs.Ran.{Draws}
use Rattle.worksheet.specs.SharedList.{shared_list, shared_at}
use Rattle.worksheet.specs.StoredSharings.{StoredSharings}
use Rattle.masked_comparison.specs.Comparison.{select}
use Rattle.masked_comparison.proofs.selection.select_all.Given as goal

-- j words selected
abbrev pub invariant-loop-j : goal.invariant-loop-j
invariant-loop-j l = StoredSharings
    (λ m ys r.
    Draws word m
    (times m (λ i. select l.b (shared_at (shared_list l.x0 l.x1) i) (shared_at (shared_list l.y0 l.y1) i)))
    l.initial.rec l.ws ys r)
    l.n l.n l.out0 l.out1 l.rec l.j
