use Rattle.std.proofs.Common.{Bool, sym, subst, rules}
use Rattle.std.specs.Prelude.{MatchBool}
use Rattle.cedr_save.specs.declared.states.Spot.{Spot}
use Rattle.cedr_save.specs.Checkpoints.{plan_sources}
use Rattle.cedr_save.specs.Lines.{IsFront}
use Rattle.cedr_save.specs.Reading.{StandsAtSpot}
use Rattle.cedr_save.proofs.FrontStands.{may_head, may_ended, begun_front, event_front, other_front}
use Rattle.cedr_save.proofs.states.StateReader.may_begin.Goals as goal

pub returns-in-Head : goal.returns-in-Head
returns-in-Head c = λ before stands.
    let here = subst (λ (s : Spot). StandsAtSpot s c.args.self.now c.args.nodes.now before) c.in-Head.is stands in
    subst (λ (b : Bool). MatchBool b (IsFront (plan_sources c.args.nodes.now) before c.args.front.now) (IsFront (plan_sources c.args.nodes.now) before c.args.front.now → ⊥)) (sym c.starts_with.ensures.value)
    (may_head c.args.nodes.now before c.args.front.now here.0)

pub returns-in-Begun : goal.returns-in-Begun
returns-in-Begun c = begun_front c.may_begin_next.result c.args.self.now c.args.nodes.now c.args.front.now c.in-Begun.is c.may_begin_next.ensures

pub returns-then-branch : goal.returns-then-branch
returns-then-branch c = event_front c.in_ok-may_begin_event-in-InSource.field-0 c.args.self.now c.args.nodes.now c.args.front.now c.in-InSource.is (search rules) c.in_ok-may_begin_event-in-InSource.ensures

pub returns-in_ok-may_begin_next-in-InSource : goal.returns-in_ok-may_begin_next-in-InSource
returns-in_ok-may_begin_next-in-InSource c =
    other_front c.in_ok-may_begin_event-in-InSource.field-0 c.in_ok-may_begin_next-in-InSource.field-0 c.args.self.now c.args.nodes.now c.args.front.now c.in-InSource.is (search rules) c.in_ok-may_begin_event-in-InSource.ensures c.in_ok-may_begin_next-in-InSource.ensures

pub returns-in-Ended : goal.returns-in-Ended
returns-in-Ended c = λ before stands front.
    may_ended c.args.self.now c.args.nodes.now before c.args.front.now (subst (λ (s : Spot). StandsAtSpot s c.args.self.now c.args.nodes.now before) c.in-Ended.is stands) front
