-- In a run that goes on, at levels where what stands at a node is all that counts, the list of each node has the table and the mark that stand at it.
use Rattle.std.proofs.Common.{◌≡◌, ℕ, ◌<◌, List, [], ◌∷◌, ◌++◌, Bool, true, false, cond, ◌&&◌, length, replicate, refl, ap, subst, sym, ◌∙◌, arith}
use Rattle.std.specs.Prelude.{map, All}
use Rattle.std.proofs.lemmas.List.Elements.{All-head, All-tail}
use Rattle.cedr_base.specs.declared.level.Level.{Level}
use Rattle.cedr_base.specs.declared.change.Message.{Message}
use Rattle.change_laws.proofs.BagSums.{same_back}
use Rattle.cedr_table.specs.Operators.{Tables, SameTables, table_at, mark_at}
use Rattle.cedr_plan.specs.declared.plan.PlanNode.{PlanNode}
use Rattle.cedr_plan.specs.Drawn.{node_of}
use Rattle.cedr_plan.specs.Rules.{AreNodes}
use Rattle.cedr_plan.specs.Places.{is_source, source_count}
use Rattle.cedr_plan.proofs.PlaceLemmas.{inputs_are, sources_behind}
use Rattle.node_laws.specs.Lists.{Lists, list_at}
use Rattle.node_laws.specs.Pass.{has_end}
use Rattle.node_laws.specs.Lawful.{tables_of, fronts_of, all_end}
use Rattle.node_laws.proofs.Passes.{table_alike}
use Rattle.op_node.specs.Meanings.{meaning_of, port_levels}
use Rattle.plan_runs.specs.Now.{Standing, standing_at, inputs_standing, passed_now, front_now, made_now, node_now, standings, CanSave, AllCanSave, StandsAt, SourcesStand}
use Rattle.plan_runs.specs.Runs.{input_lists, IsRun}
use Rattle.plan_runs.proofs.Closed.{tables_at}
use Rattle.plan_runs.proofs.EachNode.{by_nodes}
use Rattle.plan_runs.proofs.NodeFits.{all_unbroken, laws_of_node, node_fits}
use Rattle.plan_runs.proofs.NowPort.{passed_is, front_is}
use Rattle.plan_runs.proofs.PlanNodes.{node_stands}

-- a list goes on with what stands at a node
abbrev pub StandsAs : List Message → Standing → Type 0
StandsAs ms s = StandsAt ms s.table s.mark

-- of the lists that a node reads the first one goes on
first_going : (n : ℕ) (given : Lists) → ((k : ℕ) → k < n → has_end (list_at given k) ≡ false) → (inputs : List ℕ) → 0 < length inputs → All (λ (place : ℕ). place < n) inputs → all_end (map (list_at given) inputs) ≡ false
first_going n given good [] some within = absurd (omega arith)
first_going n given good (i ∷ inputs) some within = ap (λ (b : Bool). b && all_end (map (list_at given) inputs)) (good i (All-head (λ (place : ℕ). place < n) i inputs within))

-- the passed tables are those of the definition
same_now : (n : ℕ) (given : Lists) (done : List Standing) (level : Level) → CanSave level → ((k : ℕ) → k < n → StandsAs (list_at given k) (standing_at done k)) → (inputs : List ℕ) → All (λ (place : ℕ). place < n) inputs
    → SameTables (tables_of (replicate (length inputs) level) (map (list_at given) inputs)) (map (passed_now level.block) (map (standing_at done) inputs))
same_now n given done level can good [] within = tt
same_now n given done level can good (i ∷ inputs) within = (
  passed_is level (list_at given i) (standing_at done i) can (good i (All-head (λ (place : ℕ). place < n) i inputs within)),
  same_now n given done level can good inputs (All-tail (λ (place : ℕ). place < n) i inputs within),
)

-- and so are the fronts
fronts_are : (n : ℕ) (given : Lists) (done : List Standing) (level : Level) → CanSave level → ((k : ℕ) → k < n → StandsAs (list_at given k) (standing_at done k)) → (inputs : List ℕ) → All (λ (place : ℕ). place < n) inputs
    → fronts_of (replicate (length inputs) level) (map (list_at given) inputs) ≡ map (front_now level.block) (map (standing_at done) inputs)
fronts_are n given done level can good [] within = refl
fronts_are n given done level can good (i ∷ inputs) within =
    let a = front_is level (list_at given i) (standing_at done i) can (good i (All-head (λ (place : ℕ). place < n) i inputs within)) in
    let b = fronts_are n given done level can good inputs (All-tail (λ (place : ℕ). place < n) i inputs within) in
    cc

module _ (nodes : List PlanNode) (count : ℕ) (sources : Lists) (tables : Tables) (marks : List ℕ) (ports : List Lists) (given : Lists) (are : AreNodes [] (map node_of nodes)) (run : IsRun nodes sources ports given)
    (stand : SourcesStand nodes sources tables marks) (save : AllCanSave count nodes) where
  node_as : (before after : List PlanNode) (n : PlanNode) → nodes ≡ before ++ n ∷ after → length before < count → (done : List Standing) → ((k : ℕ) → k < length before → StandsAs (list_at given k) (standing_at done k)) → (b : Bool) → is_source n.kind ≡ b
      → StandsAs (list_at given (length before)) (cond b (record { table = table_at tables (source_count before); mark = mark_at marks (source_count before) }) (made_now n (inputs_standing done n)))
  node_as before after n whole early done good true is =
      let behind = sources_behind nodes before after n whole is in
      subst (λ (ms : List Message). StandsAt ms (table_at tables (source_count before)) (mark_at marks (source_count before))) (sym ((run.node before after n whole).source is))
      (record { going = stand.going (source_count before) behind; table = tables_at sources tables stand.tables_are (source_count before); mark_is = stand.marks_are (source_count before) behind })
  node_as before after n whole early done good false isnt =
      let is = node_stands nodes before after n are whole in
      let within = inputs_are before n is in
      let can = save before after n whole early in
      let fits = node_fits nodes sources ports given run before after n whole is isnt (all_unbroken (length before) given (λ k h. (good k h).going.unbroken) n.inputs.items within) in
      let laws = laws_of_node before n is isnt in
      let some = laws.ports.1 in
      let same = same_now (length before) given done n.level can good n.inputs.items within in
      let fronts : fronts_of (port_levels n) (input_lists given n) ≡ map (front_now n.level.block) (inputs_standing done n) = fronts_are (length before) given done n.level can good n.inputs.items within in
      record {
        going = record {
          legal = fits.legal;
          going = fits.ended ∙ first_going (length before) given (λ k h. (good k h).going.going) n.inputs.items (omega arith) within;
          unbroken = fits.unbroken;
        };
        table = table_alike (list_at given (length before)) ((meaning_of n).result (tables_of (port_levels n) (input_lists given n))) _ (same_back _ _ (laws.same_result _ _ same)) fits.table;
        mark_is = fits.mark
            ∙ (laws.same_bound (tables_of (port_levels n) (input_lists given n)) (map (passed_now n.level.block) (inputs_standing done n)) (fronts_of (port_levels n) (input_lists given n)) same
            ∙ ap (λ (ns : List ℕ). (meaning_of n).bound (map (passed_now n.level.block) (inputs_standing done n)) ns) fronts);
      }

  -- each node's list goes on, with the table and the mark of the plan as it stands
  pub stands_as : (k : ℕ) → k < length nodes → k < count → StandsAs (list_at given k) (standing_at (standings tables marks nodes) k)
  stands_as = by_nodes nodes (λ (k : ℕ) (s : Standing). k < count → StandsAs (list_at given k) s) (record { table = []; mark = 0 }) (node_now tables marks)
      (λ before after n done whole len good early. node_as before after n whole early done (λ k h. good k h (omega arith)) (is_source n.kind) refl)
