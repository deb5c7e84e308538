use Rattle.std.proofs.Common.{◌≡◌, max, ap, sym, subst, ◌∙◌}
use Rattle.std.proofs.lemmas.Bool.{eqb-true}
use Rattle.node_laws.specs.Lists.{list_at}
use Rattle.cedr_plan.specs.Places.{output_place}
use Rattle.cedr_net.specs.Flows.{reads_of}
use Rattle.cedr_net.specs.Edges.{ArePorts}
use Rattle.cedr_net.specs.Networks.{IsAnswerOf}
use Rattle.cedr_net.proofs.EdgeLemmas.{readers_are_ports}
use Rattle.cedr_net.proofs.FlowLemmas.{waits_within, may_work, pulled_sized}
use Rattle.cedr_net.proofs.NetLemmas.{piece_legal, turn_done}
use Rattle.cedr_net.proofs.flow.Flow.turn.Goals as goal

pub pull_at-requires : goal.pull_at-requires
pull_at-requires c =
    let me = c.args.self.now in
    let r = c.requires in
    waits_within r.0 (reads_of r.0) me.waiting.items me.works.items r.1 r.2 c.args.place r.3.flows r.4

pub take_at-requires-clause-works : goal.take_at-requires-clause-works
take_at-requires-clause-works c =
    let me = c.args.self.now in
    let r = c.requires in
    may_work r.0 (reads_of r.0) me.waiting.items c.pull_at.new.waiting.items me.works.items r.1 r.2 c.args.place c.in-Some.port c.in-Some.message r.3.flows r.4 c.in-Some.ensures.some c.in-Some.ensures.rest

pub give-requires-clause-ports : goal.give-requires-clause-ports
give-requires-clause-ports c =
    let me = c.args.self.now in
    let r = c.requires in
    let waiting = c.pull_at.new.waiting.items in
    subst (ArePorts waiting) (sym (r.3.readers c.args.place r.4))
    (readers_are_ports c.args.place (reads_of r.0) waiting
    (pulled_sized r.0 (reads_of r.0) me.waiting.items waiting me.works.items r.1 r.2 c.args.place c.in-Some.port c.in-Some.message r.3.flows r.4 c.in-Some.ensures.some c.in-Some.ensures.rest))

pub give-requires-clause-noted : goal.give-requires-clause-noted
give-requires-clause-noted c = λ is.
    let me = c.args.self.now in
    let r = c.requires in
    let same : output_place r.0 ≡ c.args.place = sym (eqb-true c.args.place me.output is ∙ r.3.output) in (
      list_at r.2 c.args.place,
      subst (λ k. IsAnswerOf me.answer (list_at r.2 k)) same r.3.answer,
      piece_legal r.0 me r.1 r.2 r.3 c.args.place r.4 c.in-Some.port c.in-Some.message c.pull_at.new.waiting.items c.in-Some.ensures.some c.in-Some.ensures.rest c.take_at.new.works.items c.take_at.new.piece.items c.in_ok-take_at-in-Some.ensures,
    )

pub returns-in_ok-give-in-Some-clause-turned : goal.returns-in_ok-give-in-Some-clause-turned
returns-in_ok-give-in-Some-clause-turned c = λ moved.
    let me = c.args.self.now in
    let gave = c.in_ok-give-in-Some.ensures in
    let piece = c.take_at.new.piece.items in (
      piece,
      λ nodes ports given h within.
          turn_done nodes me ports given h c.args.place within c.in-Some.port c.in-Some.message c.pull_at.new.waiting.items c.in-Some.ensures.some c.in-Some.ensures.rest c.take_at.new.works.items piece c.in_ok-take_at-in-Some.ensures
          c.give.new.self gave.others.0 gave.others.1 gave.others.2 gave.sent
          (λ is. let noted = gave.noted is in (noted.0, noted.1 ∙ ap (max me.reach) c.mark_in-mark.ensures, noted.2)),
    )
