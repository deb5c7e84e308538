-- In a partial run what each node gave is on the way to its table in the query.
use Rattle.std.proofs.Common.{◌≡◌, ℕ, zero, suc, ◌<◌, List, [], ◌∷◌, ◌++◌, Bool, true, false, cond, length, replicate, refl, subst, sym}
use Rattle.std.specs.Prelude.{map, All, None}
use Rattle.std.proofs.lemmas.List.{length-replicate}
use Rattle.std.proofs.lemmas.List.Elements.{All-head, All-tail}
use Rattle.cedr_base.specs.declared.level.Level.{Level}
use Rattle.cedr_base.specs.declared.row.Row.{Row}
use Rattle.cedr_base.specs.declared.change.Message.{Message}
use Rattle.cedr_base.specs.Messages.{IsLegal}
use Rattle.change_laws.proofs.Legal.{legal_first}
use Rattle.cedr_table.specs.Operators.{Tables, table_at}
use Rattle.cedr_plan.specs.declared.plan.PlanNode.{PlanNode}
use Rattle.cedr_plan.specs.Drawn.{node_of}
use Rattle.cedr_plan.specs.Rules.{AreNodes}
use Rattle.node_laws.specs.Lists.{Lists, list_at}
use Rattle.node_laws.proofs.Giving.{lists_count, lawful_legal}
use Rattle.cedr_query.specs.Queries.{input_tables, node_table, query}
use Rattle.cedr_plan.specs.Places.{is_source, source_count}
use Rattle.cedr_plan.proofs.PlaceLemmas.{inputs_are, sources_behind}
use Rattle.op_node.specs.MeaningLaws.{MeaningLaws}
use Rattle.op_node.specs.Meanings.{meaning_of, port_levels}
use Rattle.plan_runs.specs.Runs.{lists_at, IsPrefix, ArePrefixes, IsPartialRun}
use Rattle.plan_runs.specs.Without.{Remembers}
use Rattle.plan_runs.proofs.EachNode.{by_nodes}
use Rattle.plan_runs.proofs.First.{lawful_fits_always}
use Rattle.plan_runs.proofs.NodeFits.{laws_of_node}
use Rattle.plan_runs.proofs.PlanNodes.{node_stands}
use Rattle.plan_runs.proofs.Remembered.{remembers_at}
use Rattle.node_laws.specs.Approaching.{Approaches, AllApproach, RememberAll}
use Rattle.node_laws.proofs.FirstApproach.{approach_itself, first_approach}
use Rattle.node_laws.proofs.NodeApproach.{none_broken, node_approaches}
use Rattle.plan_runs.specs.Partials.{BeginsTable, AllBeginTables}

-- what begins a whole list is on the way to its table
pub begun_approaches : (ms : List Message) (rows : List Row) → BeginsTable ms rows → Approaches ms rows
begun_approaches ms rows b = first_approach ms b.first.rest rows (subst (λ (xs : List Message). Approaches xs rows) (sym b.first.all) (approach_itself b.whole rows b.legal b.unbroken b.table))

-- and so is what begins a list that is on the way to it
pub prefix_approaches : (ms whole : List Message) (rows : List Row) → IsPrefix ms whole → Approaches whole rows → Approaches ms rows
prefix_approaches ms whole rows first a = first_approach ms first.rest rows (subst (λ (xs : List Message). Approaches xs rows) (sym first.all) a)

levels_endless : (k : ℕ) (level : Level) → level.memory ≡ None → RememberAll (replicate k level)
levels_endless zero level h = tt
levels_endless (suc k) level h = (h, levels_endless k level h)

-- the lists on a node's ports are on the way to the tables of the nodes that it reads
inputs_approach : (n : ℕ) (given : Lists) (done : Tables) → ((k : ℕ) → k < n → Approaches (list_at given k) (table_at done k)) → (inputs : List ℕ) → All (λ (place : ℕ). place < n) inputs → (lists : Lists) → ArePrefixes lists (map (list_at given) inputs)
    → AllApproach lists (map (table_at done) inputs)
inputs_approach n given done good [] within [] first = tt
inputs_approach n given done good [] within (l ∷ lists) first = absurd first
inputs_approach n given done good (i ∷ inputs) within [] first = absurd first
inputs_approach n given done good (i ∷ inputs) within (l ∷ lists) first = (
  prefix_approaches l (list_at given i) (table_at done i) first.0 (good i (All-head (λ (place : ℕ). place < n) i inputs within)),
  inputs_approach n given done good inputs (All-tail (λ (place : ℕ). place < n) i inputs within) lists first.1,
)

module _ (nodes : List PlanNode) (sources : Lists) (tables : Tables) (ports : List Lists) (given : Lists) (are : AreNodes [] (map node_of nodes)) (run : IsPartialRun nodes sources ports given) (remembers : Remembers nodes) (all_begin : AllBeginTables (source_count nodes) sources tables) where
  module _ (before after : List PlanNode) (n : PlanNode) (done : Tables) (whole : nodes ≡ before ++ n ∷ after) (good : (k : ℕ) → k < length before → Approaches (list_at given k) (table_at done k)) where
    source_approaches : is_source n.kind ≡ true → Approaches (list_at given (length before)) (table_at tables (source_count before))
    source_approaches is =
        subst (λ (ms : List Message). Approaches ms (table_at tables (source_count before))) (sym ((run.node before after n whole).source is))
        (begun_approaches (list_at sources (source_count before)) (table_at tables (source_count before)) (all_begin (source_count before) (sources_behind nodes before after n whole is)))

    other_approaches : is_source n.kind ≡ false → Approaches (list_at given (length before)) ((meaning_of n).result (input_tables done n))
    other_approaches isnt =
        let is = node_stands nodes before after n are whole in
        let inputs = n.inputs.items in
        let lists = lists_at ports (length before) in
        let lawful = (run.node before after n whole).lawful isnt in
        let all = inputs_approach (length before) given done good inputs (inputs_are before n is) lists (run.edges before after n whole) in
        let long = sym (length-replicate (length inputs) n.level) in
        let laws : MeaningLaws (meaning_of n) (length (port_levels n)) = subst (λ (k : ℕ). MeaningLaws (meaning_of n) k) long (laws_of_node before n is isnt) in
        let fits = lawful_fits_always (meaning_of n) (port_levels n) lists (list_at given (length before)) laws lawful (none_broken lists (input_tables done n) all) in
        node_approaches (meaning_of n) (port_levels n) lists (list_at given (length before)) (input_tables done n) laws.agrees laws.rows laws.same_result
        (levels_endless (length inputs) n.level (remembers_at before after n (subst Remembers whole remembers))) (lists_count (meaning_of n) (port_levels n) lists (list_at given (length before)) lawful) all fits

    approaches_at : (b : Bool) → is_source n.kind ≡ b → Approaches (list_at given (length before)) (cond b (table_at tables (source_count before)) ((meaning_of n).result (input_tables done n)))
    approaches_at true is = source_approaches is
    approaches_at false isnt = other_approaches isnt

  -- what each node gave is on the way to its table in the query
  pub partial_approaches : (k : ℕ) → k < length nodes → Approaches (list_at given k) (table_at (query tables nodes) k)
  partial_approaches = by_nodes nodes (λ (k : ℕ) (rows : List Row). Approaches (list_at given k) rows) [] (node_table tables)
      (λ before after n done whole len good. approaches_at before after n done whole good (is_source n.kind) refl)

-- ---- whatever the memories are, each node's list is legal

inputs_legal : (n : ℕ) (given : Lists) → ((k : ℕ) → k < n → IsLegal (list_at given k)) → (inputs : List ℕ) → All (λ (place : ℕ). place < n) inputs → (lists : Lists) → ArePrefixes lists (map (list_at given) inputs) → (port : ℕ) → IsLegal (list_at lists port)
inputs_legal n given good inputs within [] first port = tt
inputs_legal n given good [] within (l ∷ lists) first port = absurd first
inputs_legal n given good (i ∷ inputs) within (l ∷ lists) first zero =
    legal_first [] l first.0.rest (subst IsLegal (sym first.0.all) (good i (All-head (λ (place : ℕ). place < n) i inputs within)))
inputs_legal n given good (i ∷ inputs) within (l ∷ lists) first (suc port) = inputs_legal n given good inputs (All-tail (λ (place : ℕ). place < n) i inputs within) lists first.1 port

module _ (nodes : List PlanNode) (sources : Lists) (ports : List Lists) (given : Lists) (are : AreNodes [] (map node_of nodes)) (run : IsPartialRun nodes sources ports given) (legal : (k : ℕ) → k < source_count nodes → IsLegal (list_at sources k)) where
  legal_at : (before after : List PlanNode) (n : PlanNode) → nodes ≡ before ++ n ∷ after → ((k : ℕ) → k < length before → IsLegal (list_at given k)) → (b : Bool) → is_source n.kind ≡ b → IsLegal (list_at given (length before))
  legal_at before after n whole good true is = subst IsLegal (sym ((run.node before after n whole).source is)) (legal (source_count before) (sources_behind nodes before after n whole is))
  legal_at before after n whole good false isnt =
      lawful_legal (meaning_of n) (port_levels n) (lists_at ports (length before)) (list_at given (length before)) ((run.node before after n whole).lawful isnt)
      (inputs_legal (length before) given good n.inputs.items (inputs_are before n (node_stands nodes before after n are whole)) (lists_at ports (length before)) (run.edges before after n whole))

  pub partial_legal : (k : ℕ) → k < length nodes → IsLegal (list_at given k)
  partial_legal = by_nodes {X = ℕ} nodes (λ (k : ℕ) (x : ℕ). IsLegal (list_at given k)) 0 (λ before done n. 0) (λ before after n done whole len good. legal_at before after n whole good (is_source n.kind) refl)
