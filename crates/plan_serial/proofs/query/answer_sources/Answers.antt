use Rattle.std.proofs.Common.{◌≡◌, List, ap, sym, subst, ◌∙◌}
use Rattle.std.specs.Prelude.{◌||◌}
use Rattle.cedr_base.specs.Messages.{IsTableOf}
use Rattle.node_laws.specs.Lists.{Lists, list_at, AreTables}
use Rattle.cedr_net.specs.Networks.{NetStands}
use Rattle.cedr_plan.specs.declared.plan.PlanNode.{PlanNode}
use Rattle.cedr_plan.specs.Places.{output_place, source_count}
use Rattle.plan_runs.specs.Runs.{AllWhole}
use Rattle.plan_answer.specs.Answers.{has_memory}
use Rattle.node_laws.proofs.Order.{one_canonical}
use Rattle.plan_answer.proofs.ChangesLemmas.{rows_remembered}
use Rattle.plan_serial.proofs.QueryLemmas.{text_alone}
use Rattle.plan_serial.proofs.query.answer_sources.Goals as goal

pub returns : goal.returns
returns c = λ histories whole are.
    let nodes = c.args.plan.now.nodes.items in
    let ns = c.as_slice-nodes.result.now in
    let ns_are : ns ≡ nodes = c.as_slice-nodes.ensures.value in
    let net = c.in_ok-net.net in
    let run = c.in_ok-net.ensures in
    let written = c.in_ok-write_answer.ensures run.ports run.given (subst (λ (ms : List PlanNode). NetStands ms net run.ports run.given) (sym ns_are) run.stands) in
    let table = subst (λ (ms : List PlanNode). IsTableOf (list_at run.given (output_place ms)) written.0) ns_are written.1 in
    let same = c.network_runs.ensures.answer nodes net run.ports run.given run.stands run.settled (subst (AllWhole (source_count nodes)) (sym run.sources) whole) histories
    (subst (λ (ls : Lists). AreTables ls histories) (sym run.sources) are) written.0 table in
    record {
      text_is = record {
        ports = run.ports;
        given = run.given;
        run = run.run;
        remembers = rows_remembered nodes _ histories run.ports run.given c.requires.plan.nodes run.run whole;
        text_is = text_alone c.is_told.result (c.args.always || has_memory nodes) ns nodes run.ports _ _ c.new-text.result.items c.write_answer.new.out.items (c.is_told.ensures ∙ ap (λ (ms : List PlanNode). c.args.always || has_memory ms) ns_are) ns_are (one_canonical written.0 _ same) c.new-text.ensures.items written.2;
      };
      rounds = run.came;
    }
