use Rattle.std.proofs.Common.{ℕ, ap, sym, subst}
use Rattle.pat_state.specs.Answers.{AreForgotten, StandsByBegin}
use Rattle.pat_state.specs.Starts.{PortsReach}
use Rattle.pat_state.proofs.ForgetLemmas.{stands_forgotten, forgotten_length}
use Rattle.pat_seq.specs.Keeping.{rows_in, ports_held}
use Rattle.pat_seq.specs.Sequences.{sequence_of, IsSequence}
use Rattle.pat_seq.proofs.sequence.SequenceOperator.trim.Goals as goal

pub returns-clause-stands : goal.returns-clause-stands
returns-clause-stands c = λ tables earlier stands rise.
    let op = c.args.self.now in
    let forgotten = subst (λ (time : ℕ). AreForgotten c.args.self.now.scope time (rows_in c.args.self.now.kept) (rows_in c.forget.new.self)) c.least_mark.ensures c.forget.ensures.rows in
    record {
      kept_stand = subst (λ (ports : ℕ). StandsByBegin (IsSequence ports c.args.self.now.scope) c.args.self.now.scope (rows_in c.forget.new.self) tables c.args.marks.now)
          (sym (forgotten_length op.scope c.least_mark.result (rows_in op.kept) (rows_in c.forget.new.self) c.forget.ensures.rows))
          (stands_forgotten op.scope (rows_in op.kept) (rows_in c.forget.new.self) tables earlier c.args.marks.now stands.kept_stand rise forgotten);
      tags = c.forget.ensures.tags;
    }

pub returns-clause-held : goal.returns-clause-held
returns-clause-held c = λ tables earlier stands rise.
    record { each = subst (λ (time : ℕ). PortsReach c.args.self.now.scope time (ports_held c.forget.new.self)) c.least_mark.ensures c.forget.ensures.held }

pub returns-clause-meaning : goal.returns-clause-meaning
returns-clause-meaning c =
    let op = c.args.self.now in
    ap (λ (ports : ℕ). sequence_of ports c.args.self.now.scope c.args.self.now.tests) (forgotten_length op.scope c.least_mark.result (rows_in op.kept) (rows_in c.forget.new.self) c.forget.ensures.rows)
