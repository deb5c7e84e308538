use Rattle.std.proofs.Common.{◌∙◌}
use Rattle.serde_json.specs.View.{view}
use Rattle.cedr_plan.specs.Tests.{is_bad_test}
use Rattle.cedr_plan.proofs.JsonLemmas.{some_of_array}
use Rattle.cedr_plan.proofs.form.has_bad_test.Goals as goal

pub returns-in-Some : goal.returns-in-Some
returns-in-Some c = c.some_is_bad_test.ensures ∙ some_of_array is_bad_test c.in-Some.list.now (view c.args.value.now) c.in-Some.ensures
