use Rattle.std.proofs.Common.{◌∙◌}
use Rattle.serde_json.specs.View.{view}
use Rattle.std.specs.Option.{is_none}
use Rattle.cedr_plan.specs.Json.{as_whole}
use Rattle.cedr_plan.proofs.JsonLemmas.{some_of_array}
use Rattle.cedr_plan.proofs.form.has_odd_column.Goals as goal

pub returns-in-Some : goal.returns-in-Some
returns-in-Some c = c.some_is_odd_column.ensures ∙ some_of_array (λ column. is_none (as_whole column)) c.in-Some.list.now (view c.args.value.now) c.in-Some.ensures
