use Rattle.std.proofs.Common.{map, sym, ap, ◌∙◌}
use Rattle.std.specs.List.{list_any}
use Rattle.serde_json.specs.View.{view}
use Rattle.cedr_plan.specs.Drawn.{node_of}
use Rattle.cedr_plan.specs.Nodes.{is_unknown, has_unknown_input}
use Rattle.cedr_plan.proofs.ListLemmas.{any_of_map}
use Rattle.cedr_plan.proofs.early.has_unknown_input.Goals as goal

pub returns : goal.returns
unfolding has_unknown_input
returns c =
    c.some_is_unknown.ensures
    ∙ sym (any_of_map (is_unknown (map node_of c.args.earlier.now)) view c.input_values.result.now)
    ∙ ap (list_any (is_unknown (map node_of c.args.earlier.now))) c.input_values.ensures
