use Rattle.std.proofs.Common.{sym, ap, ◌∙◌}
use Rattle.std.specs.List.{list_any}
use Rattle.std.proofs.Common.{map}
use Rattle.cedr_plan.specs.Drawn.{node_of}
use Rattle.cedr_plan.specs.Nodes.{is_named, is_named_twice}
use Rattle.cedr_plan.proofs.ListLemmas.{any_of_map}
use Rattle.cedr_plan.proofs.early.is_named_twice.Goals as goal

pub returns : goal.returns
unfolding is_named_twice
returns c =
    c.some_is_named.ensures
    ∙ sym (any_of_map (is_named c.text_at.result.now) node_of c.args.earlier.now)
    ∙ ap (λ name. list_any (is_named name) (map node_of c.args.earlier.now)) c.text_at.ensures
