-- What a strong output gave in a partial run.
use Rattle.std.proofs.Common.{◌≡◌, ℕ, ◌<◌, List, [], ◌∷◌, ◌++◌, length, refl, subst, sym}
use Rattle.std.specs.Prelude.{map, None}
use Rattle.cedr_base.specs.declared.row.Row.{Row}
use Rattle.cedr_base.specs.declared.change.Message.{Message}
use Rattle.cedr_base.specs.Messages.{changes_of, IsLegal}
use Rattle.change_laws.proofs.Legal.{legal_first}
use Rattle.cedr_table.specs.Operators.{Tables, table_at}
use Rattle.cedr_plan.specs.declared.plan.NodeKind.TheVariants as kind
use Rattle.cedr_plan.specs.declared.plan.PlanNode.{PlanNode}
use Rattle.cedr_plan.specs.Drawn.{node_of}
use Rattle.cedr_plan.specs.Rules.{AreNodes}
use Rattle.node_laws.specs.Surplus.{Ascend}
use Rattle.node_laws.specs.Lists.{Lists, list_at}
use Rattle.node_laws.specs.Pass.{pass, added, HasNoCut}
use Rattle.node_laws.proofs.Strong.{strong_goes}
use Rattle.cedr_query.specs.Queries.{query}
use Rattle.cedr_plan.specs.Places.{source_count}
use Rattle.plan_runs.specs.Runs.{lists_at, IsPrefix, ArePrefixes, IsPartialRun}
use Rattle.plan_runs.specs.Without.{Remembers}
use Rattle.plan_runs.proofs.Output.{isnt, input, inside, query_same, passed_on}
use Rattle.node_laws.specs.Approaching.{AddsFirst}
use Rattle.node_laws.proofs.FirstAdditions.{adds_first}
use Rattle.plan_runs.specs.Partials.{AllBeginTables}
use Rattle.plan_runs.proofs.PartialApproach.{partial_approaches, partial_legal, prefix_approaches}
use Rattle.plan_runs.proofs.Remembered.{remembers_at}

-- the first messages of the one list that there is
record OneList (lists : Lists) (whole : List Message) : Type 0 where
  list : List Message
  alone : lists ≡ list ∷ []
  first : IsPrefix list whole

one_list : (lists : Lists) (whole : List Message) → ArePrefixes lists (whole ∷ []) → OneList lists whole
one_list [] whole h = absurd h
one_list (l ∷ []) whole h = record { list = l; alone = refl; first = h.0 }
one_list (l ∷ (m ∷ lists)) whole h = absurd h.1

module _ (nodes : List PlanNode) (sources : Lists) (ports : List Lists) (given : Lists) (are : AreNodes [] (map node_of nodes)) (run : IsPartialRun nodes sources ports given) (before after : List PlanNode) (n : PlanNode) (whole : nodes ≡ before ++ n ∷ after) (out : n.kind ≡ kind.Output) where
  abbrev read : ℕ
  read = (input nodes are before after n whole out).0

  within : read < length nodes
  within = inside nodes are before after n whole out

  -- what the output took of it
  came : OneList (lists_at ports (length before)) (list_at given read)
  came = one_list (lists_at ports (length before)) (list_at given read) (subst (λ (xs : List ℕ). ArePrefixes (lists_at ports (length before)) (map (list_at given) xs)) (input nodes are before after n whole out).1 (run.edges before after n whole))

  -- the output gave what its port passed on of that
  passed : IsLegal came.list → pass n.level came.list ≡ list_at given (length before)
  passed legal =
      passed_on nodes are before after n whole out (lists_at ports (length before)) came.list (list_at given (length before)) came.alone legal
      ((run.node before after n whole).lawful (isnt nodes are before after n whole out))

  -- a strong output that forgets nothing adds the first rows of its query
  pub output_adds : (tables : Tables) → Remembers nodes → AllBeginTables (source_count nodes) sources tables → n.level.block ≡ None → AddsFirst (changes_of (list_at given (length before))) (table_at (query tables nodes) (length before))
  output_adds tables remembers begin strong =
      let rows = table_at (query tables nodes) read in
      let a = prefix_approaches came.list (list_at given read) rows came.first (partial_approaches nodes sources tables ports given are run remembers begin read within) in
      let endless = remembers_at before after n (subst Remembers whole remembers) in
      subst (λ (table : List Row). AddsFirst (changes_of (list_at given (length before))) table) (sym (query_same nodes are before after n whole out tables))
      (subst (λ (ms : List Message). AddsFirst (changes_of ms) (table_at (query tables nodes) read)) (passed a.legal) (adds_first n.level came.list rows strong endless a))

  -- a strong output adds rows in canonical order, and takes nothing back, whatever was forgotten
  pub output_ascends : ((k : ℕ) → k < source_count nodes → IsLegal (list_at sources k)) → n.level.block ≡ None → HasNoCut (changes_of (list_at given (length before))) × Ascend (added (changes_of (list_at given (length before))))
  output_ascends legal strong =
      let was = partial_legal nodes sources ports given are run legal read within in
      let l = legal_first [] came.list came.first.rest (subst IsLegal (sym came.first.all) was) in
      let goes = strong_goes n.level strong came.list l in
      subst (λ (ms : List Message). HasNoCut (changes_of ms) × Ascend (added (changes_of ms))) (passed l) (goes.no_cut, goes.ascend)
