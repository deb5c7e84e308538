use Rattle.std.proofs.Common.{ℕ, ◌≡◌, length, ap, sym, ◌∙◌, subst}
use Rattle.cedr_table.specs.Operators.{least_of}
use Rattle.pat_state.specs.Answers.{AreForgotten, StandsByBegin}
use Rattle.pat_state.proofs.ForgetLemmas.{stands_forgotten, forgotten_reach, forgotten_length}
use Rattle.pat_atleast.specs.Arrangements.{arranged, ports_from}
use Rattle.pat_atleast.specs.AtLeasts.{at_least_of, IsAtLeast}
use Rattle.pat_atleast.specs.Keeping.{bags_in}
use Rattle.pat_atleast.proofs.at_least.AtLeastOperator.trim.Goals as goal

pub returns-clause-stands : goal.returns-clause-stands
returns-clause-stands c = λ tables earlier stands rise.
    let op = c.args.self.now in
    let forgotten = subst (λ (time : ℕ). AreForgotten c.args.self.now.scope time (bags_in c.args.self.now.kept) (bags_in c.forget.new.self)) c.least_mark.ensures c.forget.ensures.rows in
    let same : length (bags_in c.args.self.now.kept) ≡ length (bags_in c.forget.new.self) = sym (forgotten_length op.scope c.least_mark.result (bags_in op.kept) (bags_in c.forget.new.self) c.forget.ensures.rows) in
    record {
      kept_stand = subst (λ (ports : ℕ). StandsByBegin (IsAtLeast ports c.args.self.now.number c.args.self.now.scope) c.args.self.now.scope (bags_in c.forget.new.self) tables c.args.marks.now) same
          (stands_forgotten op.scope (bags_in op.kept) (bags_in c.forget.new.self) tables earlier c.args.marks.now stands.kept_stand rise forgotten);
      orders_are = stands.orders_are ∙ ap (λ (n : ℕ). arranged c.args.self.now.number (ports_from 0 n)) same;
      tags = c.forget.ensures.tags;
      suits = c.forget.ensures.suits c.args.self.now.number stands.suits;
    }

pub returns-clause-held : goal.returns-clause-held
returns-clause-held c = λ tables earlier stands rise.
    let op = c.args.self.now in
    let forgotten = subst (λ (time : ℕ). AreForgotten c.args.self.now.scope time (bags_in c.args.self.now.kept) (bags_in c.forget.new.self)) c.least_mark.ensures c.forget.ensures.rows in
    record { each = forgotten_reach op.scope (least_of c.args.marks.now) (bags_in op.kept) (bags_in c.forget.new.self) forgotten }

pub returns-clause-meaning : goal.returns-clause-meaning
returns-clause-meaning c =
    let op = c.args.self.now in
    ap (λ (ports : ℕ). at_least_of ports c.args.self.now.number c.args.self.now.scope c.args.self.now.tests) (forgotten_length op.scope c.least_mark.result (bags_in op.kept) (bags_in c.forget.new.self) c.forget.ensures.rows)
