use Rattle.std.proofs.Common.{Some, option_map, map, sym, ap, ◌∙◌}
use Rattle.serde_json.specs.View.{view}
use Rattle.cedr_plan.specs.Json.{data_list}
use Rattle.cedr_plan.proofs.JsonLemmas.{list_of-items_of}
use Rattle.cedr_plan.proofs.json.as_list.Goals as goal

pub returns-in-Some : goal.returns-in-Some
returns-in-Some c = rw c.as_slice.ensures.value (ap Some (sym (list_of-items_of (map view c.in-Some.list.now.items))) ∙ ap (option_map data_list) c.in-Some.ensures)
