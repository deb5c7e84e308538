use Rattle.std.proofs.Common.{ℕ, ◌<◌, List, length, subst, sym}
use Rattle.std.specs.Prelude.{All}
use Rattle.cedr_plan.specs.declared.plan.PlanNode.{PlanNode}
use Rattle.message_cases.proofs.NetLemmas.{fed_still}
use Rattle.message_cases.proofs.network.turn.Goals as goal

pub returns : goal.returns
returns g c =
    let h = c.requires in
    let fed = c.args.fed.now in
    let nodes = fed.plan.nodes.items in
    let found = subst (λ (ns : List PlanNode). All (λ (place : ℕ). place < length ns) c.in_ok-schedule.schedule.items) c.as_slice.ensures.value c.in_ok-schedule.ensures in
    let within = subst (λ (places : List ℕ). All (λ (place : ℕ). place < length nodes) places) (sym c.as_slice-2.ensures.value) found in
    let s = c.in_ok-run_schedule.ensures.turned h.stands.usable nodes h.ports h.given h.stands within in
    fed_still nodes fed.net c.run_schedule.new.self fed.came.items h s.ports' s.given' s.stands s.sources
