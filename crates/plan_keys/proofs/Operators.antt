-- Each operator that keeps a key is answered key by key.
use Rattle.std.proofs.Common.{◌≡◌, ℕ, false, List}
use Rattle.cedr_plan.specs.declared.plan.NodeKind.{NodeKind}
use Rattle.cedr_plan.specs.declared.plan.NodeKind.TheVariants as kind
use Rattle.cedr_plan.specs.Places.{is_source}
use Rattle.op_life.specs.Lifetimes.{windowed, shifted, shifted_mark, hopped, hopped_mark, started, ended}
use Rattle.op_group.specs.Groups.{grouping_by}
use Rattle.op_node.specs.Meanings.{node_meaning}
use Rattle.plan_keys.specs.Keys.{KeyedPort, IsAnsweredByKey, KeepsKey, KeepsColumns}
use Rattle.plan_keys.proofs.RowsAlone.{select_keyed, life_keyed, union_keyed, output_keyed}
use Rattle.plan_keys.proofs.Joined.{join_keyed, sequence_keyed}
use Rattle.plan_keys.proofs.Firsts.{unless_keyed, except_keyed}
use Rattle.plan_keys.proofs.Kept.{project_keyed, group_keyed}
use Rattle.plan_keys.proofs.Several.{at_least_keyed}

-- a node that keeps the key is answered key by key
pub operator_keyed : (what : NodeKind) (count : ℕ) (ports : List KeyedPort) (column : ℕ) → is_source what ≡ false → KeepsKey what ports column → KeepsColumns what ports → IsAnsweredByKey (node_meaning what count) ports column
operator_keyed (kind.Source file) count ports column isnt keeps within = cc
operator_keyed (kind.Select tests) count ports column isnt keeps within = select_keyed tests (λ mark. mark) ports column keeps
operator_keyed (kind.Project keep) count ports column isnt keeps within = project_keyed keep (λ mark. mark) ports column keeps within
operator_keyed kind.Union count ports column isnt keeps within = union_keyed count ports column keeps
operator_keyed (kind.Join tests) count ports column isnt keeps within = join_keyed tests ports column keeps
operator_keyed (kind.Window width) count ports column isnt keeps within = life_keyed (windowed width) (λ mark. mark) ports column keeps
operator_keyed (kind.Shift by) count ports column isnt keeps within = life_keyed (shifted by) (shifted_mark by) ports column keeps
operator_keyed (kind.Hop every width) count ports column isnt keeps within = life_keyed (hopped every width) (hopped_mark every) ports column keeps
operator_keyed kind.Starts count ports column isnt keeps within = life_keyed started (λ mark. mark) ports column keeps
operator_keyed kind.Ends count ports column isnt keeps within = life_keyed ended (λ mark. mark) ports column keeps
operator_keyed (kind.Group keys counted sums least greatest) count ports column isnt keeps within = group_keyed (grouping_by keys counted sums least greatest) ports column keeps within
operator_keyed (kind.Sequence scope tests) count ports column isnt keeps within = sequence_keyed tests ports column keeps count scope
operator_keyed (kind.Unless scope hold tests) count ports column isnt keeps within = unless_keyed tests scope hold ports column keeps
operator_keyed (kind.AtLeast number scope tests) count ports column isnt keeps within = at_least_keyed count number scope tests ports column keeps.0 keeps.1
operator_keyed (kind.Except tests) count ports column isnt keeps within = except_keyed tests ports column keeps
operator_keyed kind.Output count ports column isnt keeps within = output_keyed ports column keeps
