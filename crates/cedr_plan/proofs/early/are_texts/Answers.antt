use Rattle.std.proofs.Common.{◌∙◌}
use Rattle.serde_json.specs.View.{view}
use Rattle.cedr_plan.specs.Json.{is_text}
use Rattle.cedr_plan.proofs.JsonLemmas.{each_of_array}
use Rattle.cedr_plan.proofs.early.are_texts.Goals as goal

pub returns-in-Some : goal.returns-in-Some
returns-in-Some c = c.each_is_text.ensures ∙ each_of_array is_text c.in-Some.list.now (view c.args.value.now) c.in-Some.ensures
