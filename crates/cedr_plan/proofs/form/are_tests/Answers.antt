use Rattle.std.proofs.Common.{◌∙◌}
use Rattle.serde_json.specs.View.{view}
use Rattle.cedr_plan.specs.Tests.{is_test}
use Rattle.cedr_plan.proofs.JsonLemmas.{each_of_array}
use Rattle.cedr_plan.proofs.form.are_tests.Goals as goal

pub returns-in-Some : goal.returns-in-Some
returns-in-Some c = c.each_is_test.ensures ∙ each_of_array is_test c.in-Some.list.now (view c.args.value.now) c.in-Some.ensures
