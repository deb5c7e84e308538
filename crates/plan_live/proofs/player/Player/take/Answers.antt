use Rattle.std.proofs.Common.{◌≡◌, List, ℕ, Option, None, Some, Result, Ok, Err, sym, subst, arith, refl}
use Rattle.cedr_io.specs.declared.fault.OutsideFault.{OutsideFault}
use Rattle.cedr_text.specs.declared.fault.LineFault.{LineFault}
use Rattle.plan_live.specs.declared.line.ScriptLine.{ScriptLine}
use Rattle.plan_live.specs.Scripts.{Accepted}
use Rattle.plan_live.specs.Playing.{TakesStep, step_of}
use Rattle.plan_live.specs.Said.{SaysLine}
use Rattle.plan_live.proofs.LineLemmas.{shapes_count}
use Rattle.plan_live.proofs.ScriptLemmas.{takes_said}
use Rattle.plan_live.proofs.player.Player.take.Goals as goal

pub returns-in-Ok-Nothing-clause-taken : goal.returns-in-Ok-Nothing-clause-taken
returns-in-Ok-Nothing-clause-taken g c = λ before shown p.
    let old = g.K.Sink.written c.args.out.now in
    let said = subst (λ (s : ScriptLine). SaysLine (Ok s) c.args.nodes.now c.args.line.now) c.in-Ok-Nothing.field-0-is c.in-Ok-Nothing.ensures in
    subst (λ (s : Result (Option Accepted) LineFault). TakesStep (Ok None) c.args.nodes.now c.args.self.now before shown s old old) (sym (said c.args.shapes.now before)) (p, refl)

pub take_event-taken-requires-clause-shape : goal.take_event-taken-requires-clause-shape
take_event-taken-requires-clause-shape g c =
    let said = subst (λ (s : ScriptLine). SaysLine (Ok s) c.args.nodes.now c.args.line.now) c.in-Ok-Event.field-0-is c.in-Ok-Event.ensures in
    omega (arith, said.within, shapes_count c.args.nodes.now c.args.shapes.now c.requires.types)

pub take_event-taken-requires-clause-stands : goal.take_event-taken-requires-clause-stands
take_event-taken-requires-clause-stands g c =
    let r = c.requires.stands in
    let said = subst (λ (s : ScriptLine). SaysLine (Ok s) c.args.nodes.now c.args.line.now) c.in-Ok-Event.field-0-is c.in-Ok-Event.ensures in
    (c.args.nodes.now, r.0, r.1, r.2, said.within, said.source)

pub returns-in-Ok-Event-clause-taken : goal.returns-in-Ok-Event-clause-taken
returns-in-Ok-Event-clause-taken g c = λ before shown p.
    let nodes = c.args.nodes.now in
    let shapes = c.args.shapes.now in
    let said = subst (λ (s : ScriptLine). SaysLine (Ok s) c.args.nodes.now c.args.line.now) c.in-Ok-Event.field-0-is c.in-Ok-Event.ensures in
    let new = c.take_event-taken.new.self in
    let old = g.K.Sink.written c.args.out.now in
    subst (λ (r : Result (Option LineFault) OutsideFault). TakesStep r nodes new before shown (step_of nodes shapes before c.args.line.now) old old) (sym c.told.ensures)
    (takes_said c.take_event-taken.result nodes new before shown _ _ old (said.steps shapes before) (c.take_event-taken.ensures nodes before shown p said.within said.source))

pub returns-in-Err-clause-taken : goal.returns-in-Err-clause-taken
returns-in-Err-clause-taken g c = λ before shown p. (c.in-Err.ensures c.args.shapes.now before, refl)
