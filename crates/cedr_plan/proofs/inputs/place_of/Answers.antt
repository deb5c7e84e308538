use Rattle.std.proofs.Common.{map, option_and_then, sym, ap, ◌∙◌}
use Rattle.std.specs.List.{position}
use Rattle.cedr_plan.specs.Drawn.{node_of}
use Rattle.cedr_plan.specs.Nodes.{is_named}
use Rattle.cedr_plan.proofs.ListLemmas.{place_in_map}
use Rattle.cedr_plan.proofs.inputs.place_of.Goals as goal

pub returns-in-Some : goal.returns-in-Some
returns-in-Some c =
    c.find_named.ensures
    ∙ sym (place_in_map (is_named c.in-Some.name.now) node_of c.args.earlier.now)
    ∙ ap (option_and_then (λ name. position (is_named name) (map node_of c.args.earlier.now))) c.in-Some.ensures
