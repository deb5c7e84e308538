-- What the changes of a plan's output come to.
use Rattle.std.proofs.Common.{◌≡◌, ℕ, List, [], ◌∷◌, length, map, ap, sym, ◌∙◌, subst}
use Rattle.std.specs.Prelude.{None}
use Rattle.cedr_base.specs.declared.row.Row.{Row}
use Rattle.cedr_base.specs.declared.change.Change.{Change}
use Rattle.cedr_base.specs.declared.change.Change.TheVariants.{Add}
use Rattle.cedr_base.specs.declared.change.Message.{Message}
use Rattle.cedr_base.specs.declared.level.Level.{Level}
use Rattle.cedr_base.specs.Messages.{changes_of, IsLegal, IsTableOf}
use Rattle.cedr_base.specs.Rows.{in_order}
use Rattle.node_laws.specs.Lists.{Lists, list_at, AreTables}
use Rattle.node_laws.specs.Pass.{pass, added, HasNoCut}
use Rattle.node_laws.specs.Surplus.{Ascend}
use Rattle.node_laws.proofs.Additions.{only_adds, added_table}
use Rattle.node_laws.proofs.Order.{canonical_is}
use Rattle.plan_runs.proofs.PlanNodes.{split, Split}
use Rattle.plan_runs.proofs.Output.{output_kind, isnt, input, inside, passed_on}
use Rattle.cedr_plan.specs.declared.plan.NodeKind.TheVariants as kind
use Rattle.cedr_plan.specs.declared.plan.PlanNode.{PlanNode}
use Rattle.cedr_plan.specs.Drawn.{node_of}
use Rattle.cedr_plan.specs.Rules.{AreNodes, ArePlanned}
use Rattle.cedr_plan.specs.Places.{output_place, source_count}
use Rattle.cedr_plan.proofs.PlaceLemmas.{output_among, place_among, planned_nodes}
use Rattle.plan_runs.specs.Runs.{lists_at, IsRun, AllWhole}
use Rattle.plan_runs.proofs.Closed.{closed_whole, closed_table}
use Rattle.plan_runs.proofs.Remembered.{remembered}
use Rattle.plan_runs.specs.Without.{Remembers}
use Rattle.cedr_table.specs.Operators.{Tables, table_at}
use Rattle.plan_answer.specs.Queries.{query_rows, rows_without, LeadsTo}

-- additions alone that ascend are the rows of their table, in canonical order
pub additions_in_order : (ms : List Message) (rows : List Row) → IsTableOf ms rows → HasNoCut (changes_of ms) → Ascend (added (changes_of ms)) → changes_of ms ≡ map (λ (r : Row). Add r) (in_order rows)
additions_in_order ms rows table none ascend =
    let cs = changes_of ms in
    only_adds cs none ∙ ap (λ (xs : List Row). map (λ (r : Row). Add r) xs) (sym (canonical_is rows (added cs) ascend (added_table ms rows table none)))

-- where no memory is finite the rows are those of the query
pub rows_remembered : (nodes : List PlanNode) (sources : Lists) (histories : Tables) (ports : List Lists) (given : Lists) → AreNodes [] (map node_of nodes) → IsRun nodes sources ports given → AllWhole (source_count nodes) sources
    → Remembers nodes → rows_without nodes ports histories ≡ query_rows nodes histories
rows_remembered nodes sources histories ports given are run whole remembers =
    ap (λ (tables : Tables). table_at tables (output_place nodes))
    (remembered nodes histories ports given are run.edges (λ k within. (closed_whole nodes sources ports given are run whole k within).legal) remembers)

module _ (no_cut : (level : Level) (ms : List Message) → level.block ≡ None → IsLegal ms → HasNoCut (changes_of (pass level ms))) (ascend : (level : Level) (ms : List Message) → level.block ≡ None → IsLegal ms → Ascend (added (changes_of (pass level ms))))
    (nodes : List PlanNode) (sources : Lists) (histories : Tables) (ports : List Lists) (given : Lists) (planned : ArePlanned nodes) (run : IsRun nodes sources ports given) (whole : AllWhole (source_count nodes) sources) (tables : AreTables sources histories) where
  are : AreNodes [] (map node_of nodes)
  are = planned_nodes nodes planned

  at : Split nodes (output_place nodes)
  at = split nodes (output_place nodes) (place_among nodes planned)

  out : at.node.kind ≡ kind.Output
  out = output_kind at.node.kind (output_among nodes at.before at.after at.node planned at.whole at.place)

  abbrev read : ℕ
  read = (input nodes are at.before at.after at.node at.whole out).0

  read_legal : IsLegal (list_at given read)
  read_legal = (closed_whole nodes sources ports given are run whole read (inside nodes are at.before at.after at.node at.whole out)).legal

  -- the output gave what its port passed on of the list of the node that it reads
  passed : pass at.node.level (list_at given read) ≡ list_at given (output_place nodes)
  passed =
      let lists : lists_at ports (length at.before) ≡ list_at given read ∷ [] = run.edges at.before at.after at.node at.whole ∙ ap (λ (xs : List ℕ). map (list_at given) xs) (input nodes are at.before at.after at.node at.whole out).1 in
      let lawful = (run.node at.before at.after at.node at.whole).lawful (isnt nodes are at.before at.after at.node at.whole out) in
      passed_on nodes are at.before at.after at.node at.whole out (lists_at ports (length at.before)) (list_at given read) (list_at given (length at.before)) lists read_legal lawful
      ∙ ap (λ (k : ℕ). list_at given k) at.place

  changes_are : changes_of (pass at.node.level (list_at given read)) ≡ changes_of (list_at given (output_place nodes))
  changes_are = ap changes_of passed

  sums : IsTableOf (list_at given (output_place nodes)) (rows_without nodes ports histories)
  sums = closed_table nodes sources histories ports given are run whole tables (output_place nodes) (place_among nodes planned)

  -- what the changes of the output come to
  pub leads : LeadsTo nodes histories ports given
  leads = record {
    table = sums;
    remembers = rows_remembered nodes sources histories ports given are run whole;
    additions = λ strong.
        let block = strong at.before at.after at.node at.whole at.place in
        additions_in_order (list_at given (output_place nodes)) (rows_without nodes ports histories) sums (subst HasNoCut changes_are (no_cut at.node.level (list_at given read) block read_legal))
        (subst (λ (cs : List Change). Ascend (added cs)) changes_are (ascend at.node.level (list_at given read) block read_legal));
  }
