-- The names of a plan's sources have no line feed.
use Rattle.std.proofs.Common.{◌≡◌, ℕ, List, [], ◌∷◌, ◌++◌, map, length, Bool, true, false, cond, eqb, ◌&&◌, refl, ap, sym, ◌∙◌}
use Rattle.std.specs.Prelude.{nat_le}
use Rattle.std.specs.List.{list_all}
use Rattle.std.proofs.lemmas.Bool.{and_parts, or_from, eqb-true}
use Rattle.cedr_base.specs.Bytes.{line_feed}
use Rattle.cedr_text.specs.Lines.{has_line_feed}
use Rattle.cedr_plan.specs.declared.plan.PlanNode.{PlanNode}
use Rattle.cedr_plan.specs.declared.plan.Plan.{Plan}
use Rattle.cedr_plan.specs.Drawn.{Node, node_of}
use Rattle.cedr_plan.specs.Nodes.{is_name_byte}
use Rattle.cedr_plan.specs.Places.{is_source}
use Rattle.cedr_plan.specs.Rules.{AreNodes, IsPlan}
use Rattle.cedr_save.specs.Checkpoints.{Source, plan_sources}
use Rattle.cedr_save.specs.Reading.{AreNamed}

no_feed_at : (b : ℕ) (test : Bool) → eqb b line_feed ≡ test → is_name_byte b ≡ true → test ≡ false
no_feed_at b true is name = absurd (let e : is_name_byte line_feed ≡ true = ap is_name_byte (sym (eqb-true b line_feed is)) ∙ name in let f : false ≡ true = e in cc)
no_feed_at b false is name = refl

name_whole : (text : List ℕ) → list_all is_name_byte text ≡ true → has_line_feed text ≡ false
name_whole [] all = refl
name_whole (b ∷ text) all =
    let parts = and_parts (is_name_byte b) (list_all is_name_byte text) all in
    or_from (eqb b line_feed) (has_line_feed text) (no_feed_at b (eqb b line_feed) refl parts.0) (name_whole text parts.1)

named_at : (b : Bool) (source : Source) (sources : List Source) → has_line_feed source.name ≡ false → AreNamed sources → AreNamed (cond b (source ∷ sources) sources)
named_at true source sources name named = (name, named)
named_at false source sources name named = named

pub named_nodes : (earlier : List Node) (nodes : List PlanNode) → AreNodes earlier (map node_of nodes) → AreNamed (plan_sources nodes)
named_nodes earlier [] are = tt
named_nodes earlier (node ∷ nodes) are =
    let all = (and_parts (nat_le 1 (length node.name) && nat_le (length node.name) 64) (list_all is_name_byte node.name) are.0.name).1 in
    named_at (is_source node.kind) (record { name = node.name; types = node.types.items }) (plan_sources nodes) (name_whole node.name all) (named_nodes (earlier ++ node_of node ∷ []) nodes are.1)

pub named_plan : (plan : Plan) → IsPlan plan → AreNamed (plan_sources plan.nodes.items)
named_plan plan is = named_nodes [] plan.nodes.items is.nodes
