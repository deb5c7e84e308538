use Rattle.cedr_plan.specs.Places.{output_place}
use Rattle.cedr_plan.proofs.PlaceLemmas.{place_within}
use Rattle.cedr_query.specs.Queries.{query}
use Rattle.cedr_table.specs.Operators.{table_at}
use Rattle.plan_keys.specs.Keys.{shared_query}
use Rattle.plan_parts.specs.Parts.{shares_from}
use Rattle.plan_parts.proofs.AnswerLemmas.{whole_answer}
use Rattle.plan_parts.proofs.answer.answer_in_parts.Goals as goal

pub returns : goal.returns
returns g c = λ histories whole tables fit remembers.
    let nodes = c.args.plan.now.nodes.items in
    let columns = c.args.columns.now in
    let shares = shares_from c.args.count 0 c.args.count in
    let place = output_place nodes in
    whole_answer c.in_ok-rows.rows.items (shared_query shares columns histories nodes place) (table_at (query histories nodes) place) (c.in_ok-rows.ensures histories whole tables remembers)
    (c.keyed_plans.ensures.sum shares columns nodes histories c.requires.plan.nodes c.requires.keyed fit (c.key_shares.ensures c.args.count c.requires.count) place (place_within c.args.plan.now c.requires.plan))
