use Rattle.std.proofs.Common.{None, Some, sym, subst, arith}
use Rattle.std.proofs.lemmas.Result.{IfOk-weaker}
use Rattle.cedr_text.specs.declared.fault.LineFault.TheVariants.{BadForm}
use Rattle.plan_follow.specs.Playing.{GoesOnTo}
use Rattle.plan_follow.specs.Sifted.{Sifted}
use Rattle.plan_follow.proofs.PlayerLemmas.{fault_kept, said_some}
use Rattle.plan_follow.proofs.player.OpenPlayer.take_said.Goals as goal
use Rattle.plan_live.proofs.LineLemmas.{event_source, shapes_count}

pub take_event-requires-clause-shape : goal.take_event-requires-clause-shape
take_event-requires-clause-shape c =
    let at = event_source c.args.nodes.now c.args.line.now c.in-Some.place c.in-Some.event.now c.in-Some.ensures in
    omega (arith, at.0, shapes_count c.args.nodes.now c.args.shapes.now c.requires.types)

pub take_event-requires-clause-holds : goal.take_event-requires-clause-holds
take_event-requires-clause-holds c =
    let r = c.requires.holds in
    let at = event_source c.args.nodes.now c.args.line.now c.in-Some.place c.in-Some.event.now c.in-Some.ensures in
    (c.args.nodes.now, r.0, r.1, r.2, at.0, at.1)

pub returns-in_default : goal.returns-in_default
returns-in_default c = λ s given p.
    let nodes = c.args.nodes.now in
    let shapes = c.args.shapes.now in
    let player = c.args.self.now in
    subst (λ (now : Sifted). GoesOnTo nodes player s now given (Some BadForm)) (sym (said_some nodes shapes s c.args.line.now None (sym c.if-is_empty.ensures) c.in_default.ensures)) (fault_kept nodes player s given BadForm p)

pub returns : goal.returns
returns c = IfOk-weaker c.take_event.result _ _ (λ fault goes s given p.
    let nodes = c.args.nodes.now in
    let shapes = c.args.shapes.now in
    let line = c.args.line.now in
    let place = c.in-Some.place in
    let event = c.in-Some.event.now in
    let at = event_source nodes line place event c.in-Some.ensures in
    subst (λ (now : Sifted). GoesOnTo nodes c.take_event.new.self s now given fault) (sym (said_some nodes shapes s line (Some (place, event)) (sym c.if-is_empty.ensures) c.in-Some.ensures)) (goes nodes s given p at.0 at.1))
    c.take_event.ensures
