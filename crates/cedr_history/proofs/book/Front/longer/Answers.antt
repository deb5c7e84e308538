use Rattle.std.proofs.Common.{◌≤◌, ap, subst, arith, length, List, sym}
use mathlib.Core.List.{IsPrefix}
use Rattle.cedr_history.specs.declared.step.Step.{Step}
use Rattle.cedr_history.specs.Sights.{Sight, SightBegins}
use Rattle.cedr_history.proofs.Fronts.{prefix_shorter}
use Rattle.cedr_history.proofs.book.Front.longer.Goals as goal

pub returns-then-self-other-clause-this : goal.returns-then-self-other-clause-this
returns-then-self-other-clause-this c =
    let both = c.learn.new.self.log in
    let this : IsPrefix c.self.inside.seen.log both = subst (λ (l : List Step). IsPrefix l both) (ap (λ s. s.log) c.again-both.ensures) c.learn.ensures.2 in
    let less : length c.self.inside.seen.log ≤ length c.other.inside.seen.log = omega (arith, c.self.invariant, c.other.invariant) in
    let inside = prefix_shorter c.self.inside.seen.log c.other.inside.seen.log both this c.learn.ensures.3 less in
    let one = subst (λ (s : Sight). IsPrefix s.steps c.other.inside.seen.log) c.self.view_is inside in
    let two = subst (λ (s : Sight). IsPrefix c.args.self.now.steps s.steps) c.other.view_is one in
    subst (λ (s : Sight). SightBegins c.args.self.now s) (sym c.again.ensures) (sym c.requires, two)

pub returns-clause-that : goal.returns-clause-that
returns-clause-that c =
    let both = c.learn.new.self.log in
    let this : IsPrefix c.self.inside.seen.log both = subst (λ (l : List Step). IsPrefix l both) (ap (λ s. s.log) c.again-both.ensures) c.learn.ensures.2 in
    let less : length c.other.inside.seen.log ≤ length c.self.inside.seen.log = omega (arith, c.self.invariant, c.other.invariant) in
    let inside = prefix_shorter c.other.inside.seen.log c.self.inside.seen.log both c.learn.ensures.3 this less in
    let one = subst (λ (s : Sight). IsPrefix s.steps c.self.inside.seen.log) c.other.view_is inside in
    let two = subst (λ (s : Sight). IsPrefix c.args.other.now.steps s.steps) c.self.view_is one in
    subst (λ (s : Sight). SightBegins c.args.other.now s) (sym c.again-else-self-other.ensures) (c.requires, two)
