use Rattle.std.proofs.Common.{◌∙◌}
use Rattle.serde_json.specs.View.{view}
use Rattle.std.specs.Option.{is_some}
use Rattle.cedr_plan.specs.Nodes.{as_type}
use Rattle.cedr_plan.proofs.JsonLemmas.{each_of_array}
use Rattle.cedr_plan.proofs.form.are_types.Goals as goal

pub returns-in-Some : goal.returns-in-Some
returns-in-Some c = c.each_is_type.ensures ∙ each_of_array (λ x. is_some (as_type x)) c.in-Some.list.now (view c.args.value.now) c.in-Some.ensures
