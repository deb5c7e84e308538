use Rattle.std.proofs.Common.{rules, ◌≡◌, ◌++◌, ◌∷◌, ◌∙◌, List, [], length, sym, ap, subst, arith, append_assoc, length-append}
use Rattle.std.proofs.lemmas.List.{append-nil}
use Rattle.cedr_edge.specs.Ends.{InEnd, OutEnd}
use Rattle.cedr_plan.specs.declared.plan.PlanNode.{PlanNode}
use Rattle.cedr_plan.specs.Places.{source_count}
use Rattle.plan_workers.specs.declared.worker.Worker.{Worker}
use Rattle.plan_workers.specs.Making.{AllCanWork, AreMade, Awaits, sources_of_worker}
use Rattle.plan_workers.proofs.MakeLemmas.{made_count, made_more, none_left, on_ok, writer_behind, writer_there}
use Rattle.plan_workers.proofs.making.+make_workers.Goals as goal

pub returns-in_default-clause-made : goal.returns-in_default-clause-made
returns-in_default-clause-made g t c = λ history awaits.
    let making = c.args.making.now in
    let none = c.in_default.ensures.cases in
    ([], (sym (append-nil making.workers.items), none_left g.S.Source.rest g.S.Source.faults c.args.number c.args.nodes.now c.args.takers.items c.args.putters.items making.left.items history none c.requires.can c.requires.sources))

pub make_workers-requires : goal.make_workers-requires
make_workers-requires g t c = λ κs within.
    let n = c.in-Some.node.now in
    let others = c.in-Some.others.now in
    let making = c.args.making.now in
    let ns : c.args.nodes.now ≡ n ∷ others = search rules in
    let ts : c.args.takers.items ≡ c.in-Some-pop_front.ends ∷ c.pop_front.new.self.items = search rules in
    let ps : c.args.putters.items ≡ c.in-Some-pop_front-2.outs ∷ c.pop_front-2.new.self.items = search rules in
    let can = subst (λ (z : List PlanNode × (List (List InEnd) × List (List OutEnd))). AllCanWork z.0 z.1.0 z.1.1) (λ i. (ns i, (ts i, ps i))) c.requires.can in
    let history = c.requires.writer.0 in
    let awaits = subst (λ (k : List PlanNode). Awaits {R = g.row.R.Denot} history making.writer k) ns c.requires.writer.1 in
    let step = c.in_ok-worker.ensures in
    let made = step.made history (writer_there history making.writer n others awaits) in
    let count = made_count g.S.Source.rest g.S.Source.faults c.args.number n others c.in-Some-pop_front.ends c.in-Some-pop_front-2.outs history c.in_ok-worker.worker made in
    let more = ap (λ (ks : List PlanNode). length ks) {x = c.args.nodes.now} {y = n ∷ others} ns in
    let sources = ap source_count {x = c.args.nodes.now} {y = n ∷ others} ns in
    let left = ap (λ (ss : List g.row.S.Denot). length ss) {x = making.left.items} {y = sources_of_worker c.in_ok-worker.worker ++ c.make_worker.new.left.items} step.sources ∙ length-append (sources_of_worker c.in_ok-worker.worker) c.make_worker.new.left.items in
    let push = c.push_reserved.ensures in
    let pushed = ap (λ (ws : List (Worker g.row.S.Denot g.row.R.Denot)). length ws) {x = c.push_reserved.new.self.items} {y = making.workers.items ++ c.in_ok-worker.worker ∷ []} push.items ∙ length-append making.workers.items (c.in_ok-worker.worker ∷ []) in (
      search rules,
      (
        search rules,
        (
          search rules,
          (
            can.1,
            (
              omega (arith, more),
              (
                omega (arith, c.requires.sources, sources, count, left),
                ((history, writer_behind history making.writer c.make_worker.new.writer n others awaits step.output step.other), omega (arith, c.requires.room, push.capacity, more, pushed)),
              ),
            ),
          ),
        ),
      ),
    )

pub returns-clause-made : goal.returns-clause-made
returns-clause-made g t c =
    let n = c.in-Some.node.now in
    let others = c.in-Some.others.now in
    let making = c.args.making.now in
    let ns : c.args.nodes.now ≡ n ∷ others = search rules in
    let ts : c.args.takers.items ≡ c.in-Some-pop_front.ends ∷ c.pop_front.new.self.items = search rules in
    let ps : c.args.putters.items ≡ c.in-Some-pop_front-2.outs ∷ c.pop_front-2.new.self.items = search rules in
    let step = c.in_ok-worker.ensures in
    let w = c.in_ok-worker.worker in
    on_ok c.make_workers.result (λ rest history first.
    let awaits = subst (λ (k : List PlanNode). Awaits {R = g.row.R.Denot} history making.writer k) ns first in
    let made = step.made history (writer_there history making.writer n others awaits) in
    let some = rest history (writer_behind history making.writer c.make_worker.new.writer n others awaits step.output step.other) in
    let all = made_more g.S.Source.rest g.S.Source.faults c.args.number n others c.in-Some-pop_front.ends c.pop_front.new.self.items c.in-Some-pop_front-2.outs c.pop_front-2.new.self.items making.left.items c.make_worker.new.left.items history w some.0 made step.sources some.1.1 in (
      w ∷ some.0,
      (
        some.1.0 ∙ (ap (λ (ws : List (Worker g.row.S.Denot g.row.R.Denot)). ws ++ some.0) c.push_reserved.ensures.items ∙ append_assoc making.workers.items (w ∷ []) some.0),
        subst (λ (z : List PlanNode × (List (List InEnd) × List (List OutEnd))). AreMade g.S.Source.rest g.S.Source.faults c.args.number z.0 z.1.0 z.1.1 making.left.items history (w ∷ some.0)) (λ i. (sym ns i, (sym ts i, sym ps i))) all,
      ),
    )
    ) c.make_workers.ensures.made
