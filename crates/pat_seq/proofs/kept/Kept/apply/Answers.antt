use Rattle.std.proofs.Common.{ap}
use Rattle.std.proofs.lemmas.Result.{on_ok_weaker}
use Rattle.pat_state.specs.Tied.{left_rows, right_rows}
use Rattle.pat_seq.specs.Keeping.{rows_in}
use Rattle.pat_seq.proofs.KeptLemmas.{left_steps, right_steps}
use Rattle.pat_seq.proofs.kept.Kept.apply.Goals as goal

pub returns-then-port-eq0-clause-ok : goal.returns-then-port-eq0-clause-ok
returns-then-port-eq0-clause-ok c = on_ok_weaker c.apply_left.result
    (λ step. left_steps (rows_in c.args.self.now) (left_rows c.in-Two.tied) (right_rows c.in-Two.tied) (left_rows c.apply_left.new.self) (right_rows c.apply_left.new.self) c.args.port c.args.change.now (ap rows_in c.in-Two.is) c.if-port-eq0.true c.apply_left.ensures.right step)
    c.apply_left.ensures.left

pub returns-else-port-eq0-clause-ok : goal.returns-else-port-eq0-clause-ok
returns-else-port-eq0-clause-ok c = on_ok_weaker c.apply_right.result
    (λ step. right_steps (rows_in c.args.self.now) (left_rows c.in-Two.tied) (right_rows c.in-Two.tied) (left_rows c.apply_right.new.self) (right_rows c.apply_right.new.self) c.args.port c.args.change.now (ap rows_in c.in-Two.is) c.requires.port c.if-port-eq0.false c.apply_right.ensures.left step)
    c.apply_right.ensures.right
