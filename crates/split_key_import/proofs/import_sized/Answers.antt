-- The tests go by rows 3, 10 and 5, so that the first that fails gives the answer; where none fails, write_split leaves
-- the split with its limit and the count 0.
use mathlib.Core.Path.{sym, ap, ◌∙◌}
use Rattle.std.specs.Prelude.{Err}
use Rattle.refusals.specs.declared.Refusal.TheVariants.{WrongHash, LimitRange, MaskRange}
use Rattle.refusals.specs.Refusals.{Done, number}
use Rattle.refusals.specs.RefusalLaws.{refused, passed, no_row}
use Rattle.split_key.specs.ImportAnswerLaws.{import_answer_lem, import_refused}
use Rattle.split_key_import.proofs.import_sized.Goals as goal

pub returns-then-not-hash_matches-clause-imported : goal.returns-then-not-hash_matches-clause-imported
returns-then-not-hash_matches-clause-imported c =
    let row3 = refused WrongHash _ (sym c.hash_matches.ensures ∙ c.if-not-hash_matches.true) in
    import_refused c.args.p WrongHash _ _ _ _ _
    (import_answer_lem c.args.p (Err WrongHash) c.args.limit c.requires.1 row3)

pub returns-then-not-is_limit-clause-imported : goal.returns-then-not-is_limit-clause-imported
returns-then-not-is_limit-clause-imported c =
    let row10 = refused LimitRange _ (sym c.is_limit.ensures ∙ c.if-not-is_limit.true) in
    import_refused c.args.p LimitRange _ _ _ _ _
    (import_answer_lem c.args.p (Err LimitRange) c.args.limit c.requires.1
    (passed WrongHash _ (sym c.hash_matches.ensures ∙ c.if-not-hash_matches.false) row10))

pub returns-then-not-reduced-clause-imported : goal.returns-then-not-reduced-clause-imported
returns-then-not-reduced-clause-imported c =
    let row5 = refused MaskRange _ (sym c.reduced.ensures ∙ c.if-not-reduced.true) in
    let row10 = passed LimitRange _ (sym c.is_limit.ensures ∙ c.if-not-is_limit.false) row5 in
    import_refused c.args.p MaskRange _ _ _ _ _
    (import_answer_lem c.args.p (Err MaskRange) c.args.limit c.requires.1
    (passed WrongHash _ (sym c.hash_matches.ensures ∙ c.if-not-hash_matches.false) row10))

pub write_split-requires : goal.write_split-requires
write_split-requires c = c.requires

pub returns-clause-imported : goal.returns-clause-imported
returns-clause-imported c =
    let row5 = passed MaskRange _ (sym c.reduced.ensures ∙ c.if-not-reduced.false) no_row in
    let row10 = passed LimitRange _ (sym c.is_limit.ensures ∙ c.if-not-is_limit.false) row5 in
    let rows = passed WrongHash _ (sym c.hash_matches.ensures ∙ c.if-not-hash_matches.false) row10 in
    record {
      answer = ap number (sym (import_answer_lem c.args.p Done c.args.limit c.requires.1 rows));
      state = c.write_split.ensures.imported;
    }
