use Rattle.std.proofs.Common.{◌≡◌, ◌++◌, ◌∙◌, List, ap, sym, subst, arith}
use Rattle.std.specs.List.{flat_map}
use Rattle.cedr_base.specs.declared.row.Row.{Row}
use Rattle.cedr_base.specs.Rows.{SameRows}
use Rattle.cedr_table.specs.Counted.{spread}
use Rattle.pat_state.specs.Tied.{left_rows, right_rows}
use Rattle.pat_unless.specs.Steps.{freed, decided}
use Rattle.pat_unless.proofs.ScanLemmas.{decided_beside}
use Rattle.pat_unless.proofs.terms.Terms.decided.Goals as goal

pub push_all_freed-requires-clause-within : goal.push_all_freed-requires-clause-within
push_all_freed-requires-clause-within c = let early = c.requires.begin in (c.saturating_sub-from.result, c.args.blocker.now.begin, omega arith, c.beside_right-tagged.ensures.within.0)

pub push_all_freed-requires-2-clause-within : goal.push_all_freed-requires-2-clause-within
push_all_freed-requires-2-clause-within c = let early = c.requires.begin in (c.saturating_sub-from.result, c.args.blocker.now.begin, omega arith, c.beside_right-tagged.ensures.within.1)

pub returns : goal.returns
returns c =
    let self = c.args.self.now in
    let find = flat_map (freed self.scope self.hold self.tests (right_rows c.args.tied.now) c.args.blocker.now) in
    let found : c.push_all_freed-2.new.rows.items ≡ find (spread c.beside_right-tagged.result.0) ++ find (spread c.beside_right-tagged.result.1) =
    c.in_ok-push_all_freed-2.ensures
    ∙ ap (λ rows. rows ++ find (spread c.beside_right-tagged.result.1)) (c.in_ok-push_all_freed.ensures ∙ ap (λ rows. rows ++ find (spread c.beside_right-tagged.result.0)) c.new-rows.ensures.items) in
    subst (λ (rows : List Row). SameRows rows (decided self.scope self.hold self.tests (right_rows c.args.tied.now) c.args.blocker.now (left_rows c.args.tied.now))) (sym found)
    (decided_beside self.scope self.hold self.tests (right_rows c.args.tied.now) c.args.blocker.now (left_rows c.args.tied.now) c.saturating_sub-from.result c.beside_right-tagged.result.0 c.beside_right-tagged.result.1 c.requires.begin c.saturating_sub-from.ensures c.beside_right-tagged.ensures.rows)
