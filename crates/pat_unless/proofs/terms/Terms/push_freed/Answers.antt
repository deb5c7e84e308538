use Rattle.std.proofs.Common.{◌++◌, ◌∙◌, ap, sym, not}
use Rattle.std.proofs.lemmas.Result.{on_ok_weaker}
use Rattle.std.proofs.lemmas.Bool.{and_left, and_right}
use Rattle.std.proofs.lemmas.List.{append-nil}
use Rattle.cedr_expr.specs.Tests.{passes}
use Rattle.pat_state.specs.Tied.{right_rows}
use Rattle.pat_unless.specs.Blocking.{is_blocked_by}
use Rattle.pat_unless.proofs.ScanLemmas.{freed_copies, unfreed_copies}
use Rattle.pat_unless.proofs.terms.Terms.push_freed.Goals as goal
use Rattle.pat_unless.proofs.terms.Terms.push_freed.Goals.{else-holds-via-then-holds+else-not-is_blocked, else-holds-via-else-holds}

pub returns-then-not-is_blocked : goal.returns-then-not-is_blocked
returns-then-not-is_blocked c = on_ok_weaker c.push_waited.result
    (λ is. is ∙ ap (λ rows. c.args.rows.now.items ++ rows) (sym (freed_copies c.args.self.now.scope c.args.self.now.hold c.args.self.now.tests (right_rows c.args.tied.now) c.args.blocker.now c.args.row.now c.args.count (sym c.holds.ensures ∙ c.if-holds.true) (sym c.is_blocked.ensures ∙ c.if-not-is_blocked.true))))
    c.push_waited.ensures

pub returns-else-holds : goal.returns-else-holds
returns-else-holds c =
    elim c.else-holds.branch [
      | else-holds-via-then-holds+else-not-is_blocked w ↦ sym (ap (λ rows. c.args.rows.now.items ++ rows) (unfreed_copies c.args.self.now.scope c.args.self.now.hold c.args.self.now.tests (right_rows c.args.tied.now) c.args.blocker.now c.args.row.now c.args.count (and_right (passes c.args.self.now.tests c.args.row.now.payload c.args.blocker.now.payload) (not (is_blocked_by c.args.self.now.scope c.args.self.now.tests (right_rows c.args.tied.now) c.args.row.now)) (ap not (sym w.is_blocked.ensures ∙ w.if-not-is_blocked.false)))) ∙ append-nil c.args.rows.now.items)
      | else-holds-via-else-holds w ↦ sym (ap (λ rows. c.args.rows.now.items ++ rows) (unfreed_copies c.args.self.now.scope c.args.self.now.hold c.args.self.now.tests (right_rows c.args.tied.now) c.args.blocker.now c.args.row.now c.args.count (and_left (passes c.args.self.now.tests c.args.row.now.payload c.args.blocker.now.payload) (not (is_blocked_by c.args.self.now.scope c.args.self.now.tests (right_rows c.args.tied.now) c.args.row.now)) (sym c.holds.ensures ∙ w.if-holds.false))) ∙ append-nil c.args.rows.now.items)
    ]
