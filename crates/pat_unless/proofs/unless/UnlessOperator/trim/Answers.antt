use Rattle.std.proofs.Common.{◌∷◌, [], ℕ, subst}
use Rattle.pat_state.specs.Answers.{AreForgotten}
use Rattle.pat_state.proofs.ForgetLemmas.{stands_forgotten}
use Rattle.pat_state.proofs.HeldLemmas.{both_reach}
use Rattle.pat_state.specs.Starts.{PortsReach}
use Rattle.pat_state.specs.Tied.{left_rows, right_rows, left_held, right_held}
use Rattle.pat_unless.proofs.unless.UnlessOperator.trim.Goals as goal

pub returns-clause-stands : goal.returns-clause-stands
returns-clause-stands c = λ tables earlier stands rise.
    let op = c.args.self.now in
    let kept = (left_rows op.tied) ∷ (right_rows op.tied) ∷ [] in
    let left = left_rows c.forget.new.self ∷ right_rows c.forget.new.self ∷ [] in
    record {
      kept = stands_forgotten op.terms.scope kept left tables earlier c.args.marks.now stands.kept rise
          (subst (λ (time : ℕ). AreForgotten op.terms.scope time kept left) c.least_mark-least.ensures (c.forget.ensures.left, (c.forget.ensures.right, tt)));
      tags = c.forget.ensures.tied op.terms.tests stands.tags;
    }

pub returns-clause-held : goal.returns-clause-held
returns-clause-held c = λ tables earlier stands rise.
    let left = left_held c.forget.new.self ∷ right_held c.forget.new.self ∷ [] in
    record {
      each = subst (λ (time : ℕ). PortsReach c.args.self.now.terms.scope time left) c.least_mark-least.ensures
          (both_reach c.args.self.now.terms.scope c.least_mark-least.result (left_held c.forget.new.self) (right_held c.forget.new.self) c.forget.ensures.held);
    }
