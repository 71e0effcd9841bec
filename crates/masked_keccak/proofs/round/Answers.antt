-- The calls are the definition's parts in its order: the two passes, chi on what they give, and the constant's entry.
use borrow.Author.Rules.{rules}
use Rattle.keccak_constants.specs.RoundConstantLaws.{entry_constant}
use Rattle.worksheet.specs.Ran.{bind}
use Rattle.masked_keccak.specs.MaskedKeccak.{masked_round}
use Rattle.masked_keccak.proofs.Iota.{iota-ran}
use Rattle.masked_keccak.proofs.EnteredLanes.{pass-makes}
use Rattle.masked_keccak.proofs.round.Goals as goal

-- the lengths of the two states stand in the range of what chi gives
pub returns : goal.returns
unfolding masked_round
returns c cs =
    let args = c.args in
    let pre = c.requires in
    let k = entry_constant pre.table args.i pre.inside in
    let z = c.chi-o.result.value in
    bind _ (pass-makes args.s.s0.lanes c.pass-p0.ensures c.enter_lanes-rec0.ensures _ _)
    (bind _ (pass-makes args.s.s1.lanes c.pass-p1.ensures c.enter_lanes-rec1.ensures _ _)
    (bind _ (c.chi-o.ensures cs)
    (iota-ran args.i z.s0.lanes z.s1.lanes (search rules) (search rules) k c.enter_xor-e.ensures)))
