use Rattle.std.specs.Prelude.{Result, IsErrOf}
use Rattle.cedr_net.specs.declared.net.NetFault.{NetFault}
use Rattle.cedr_net.specs.declared.net.NetFault.TheVariants.{Spent}
use Rattle.std.proofs.Common.{Bool, ◌<◌, List, ℕ, get_or, length, take, ◌∙◌, sym, subst, rules, arith}
use Rattle.std.proofs.lemmas.List.{take_more, take_all}
use Rattle.std.proofs.lemmas.List.Elements.{All-get_or}
use Rattle.cedr_net.specs.Networks.{IsScheduled}
use Rattle.cedr_net.proofs.ScheduleLemmas.{scheduled_on, same_fault}
use Rattle.cedr_net.proofs.network.Network.run_schedule.Goals as goal

pub turn-requires : goal.turn-requires
turn-requires c = λ usable.
    let r = c.requires c.if-self.false in
    let s = c.loop-node.invariant.1 r.0 r.1 r.2 r.3 r.4 in
    (r.0, s.ports', s.given', s.stands, All-get_or (λ (place : ℕ). place < length r.0) c.args.schedule.now c.loop-node.node-index 0 (search rules) r.4)

pub returns-in-Err-clause-spent : goal.returns-in-Err-clause-spent
returns-in-Err-clause-spent c =
    let r = c.requires c.if-self.false in
    let s = c.loop-node.invariant.1 r.0 r.1 r.2 r.3 r.4 in (
      λ e. absurd (let was = c.turn.ensures.spent.0 (subst (λ (r : Result Bool NetFault). IsErrOf r Spent) (sym c.in-Err.is) (same_fault c.in-Err.fault Spent e)) in let usable = s.stands.usable in cc),
      λ e. absurd (let was = e in let usable = c.if-self.false in cc),
    )

pub loop-node-preserved : goal.loop-node-preserved
loop-node-preserved c = (
  c.turn.ensures.keeps ∙ c.loop-node.invariant.0,
  λ nodes ports given h all.
      let schedule = c.args.schedule.now in
      let i = c.loop-node.node-index in
      let within : i < length schedule = search rules in
      let s = c.loop-node.invariant.1 nodes ports given h all in
      let p = get_or schedule i 0 in
      let there = All-get_or (λ (place : ℕ). place < length nodes) schedule i 0 within all in
      let turn = c.in_default.ensures.turned nodes s.ports' s.given' s.stands there in
      subst (λ (ps : List ℕ). IsScheduled nodes c.args.self.now c.turn.new.self ports given ps) (sym (take_more schedule i 0 within))
      (scheduled_on nodes c.args.self.now c.loop-node.self c.turn.new.self ports given (take i schedule) p c.in_default.field-0 s there turn),
)

pub returns-clause-turned : goal.returns-clause-turned
returns-clause-turned c = λ usable nodes ports given h all.
    let schedule = c.args.schedule.now in
    subst (λ (ps : List ℕ). IsScheduled nodes c.args.self.now c.loop-node.self ports given ps) (take_all c.loop-node.node-index schedule (omega arith)) (c.loop-node.invariant.1 nodes ports given h all)
