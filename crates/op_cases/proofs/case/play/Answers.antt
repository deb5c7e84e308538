use Rattle.std.proofs.Common.{List, ℕ, [], replicate, sym, subst}
use Rattle.cedr_table.specs.Operators.{Tables, AreTimes}
use Rattle.test_feeding.proofs.MarkLemmas.{zeros_are_times}
use Rattle.op_cases.proofs.case.play.Goals as goal

pub loop-line-init : goal.loop-line-init
loop-line-init g c = (
  subst (λ (ts : Tables). g.O.Operator.stands c.args.op ts c.in_ok-marks.marks.items) (sym c.in_ok-tables.ensures)
      (subst (λ (ms : List ℕ). g.O.Operator.stands c.args.op (replicate c.args.ports []) ms) (sym c.in_ok-marks.ensures) c.requires),
  subst (λ (ms : List ℕ). AreTimes ms) (sym c.in_ok-marks.ensures) (zeros_are_times c.args.ports),
)
