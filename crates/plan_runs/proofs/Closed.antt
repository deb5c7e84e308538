-- A closed run makes the query with what was forgotten left out.
use Rattle.std.proofs.Common.{◌≡◌, ℕ, zero, suc, ◌<◌, List, [], ◌∷◌, ◌++◌, Bool, true, false, cond, length, replicate, refl, ap, subst, sym, ◌∙◌}
use Rattle.std.specs.Prelude.{map, All}
use Rattle.std.proofs.lemmas.List.Elements.{All-head, All-tail}
use Rattle.cedr_base.specs.declared.level.Level.{Level}
use Rattle.cedr_base.specs.declared.row.Row.{Row}
use Rattle.cedr_base.specs.declared.change.Message.{Message}
use Rattle.cedr_base.specs.Messages.{IsTableOf}
use Rattle.change_laws.proofs.BagSums.{same_back}
use Rattle.cedr_table.specs.Operators.{Tables, SameTables, table_at}
use Rattle.cedr_plan.specs.declared.plan.PlanNode.{PlanNode}
use Rattle.cedr_plan.specs.Drawn.{node_of}
use Rattle.cedr_plan.specs.Rules.{AreNodes}
use Rattle.node_laws.specs.declared.forgotten.Forgotten.{Forgotten}
use Rattle.node_laws.specs.Kept.{forgot}
use Rattle.node_laws.specs.Lists.{Lists, list_at, AreTables}
use Rattle.node_laws.specs.Lawful.{tables_of}
use Rattle.node_laws.proofs.Passes.{table_alike}
use Rattle.cedr_query.specs.Queries.{input_tables}
use Rattle.cedr_plan.specs.Places.{is_source, source_count}
use Rattle.cedr_plan.proofs.PlaceLemmas.{inputs_are, sources_behind}
use Rattle.op_node.specs.Meanings.{meaning_of, port_levels}
use Rattle.plan_runs.specs.Runs.{lists_at, input_lists, IsRun, IsWhole, AllWhole}
use Rattle.plan_runs.specs.Without.{all_left_out, listed_at, node_table_without, query_without, forgot_on, forgot_in}
use Rattle.plan_runs.proofs.EachNode.{by_nodes}
use Rattle.plan_runs.proofs.Ports.{ended_left}
use Rattle.plan_runs.proofs.NodeFits.{all_unbroken, all_ended, laws_of_node, node_fits}
use Rattle.plan_runs.proofs.PlanNodes.{node_stands}

-- a whole list and its table
record Makes (ms : List Message) (rows : List Row) : Type 0 where
  whole : IsWhole ms
  table : IsTableOf ms rows

-- where each table is that of its list, the table at a place is that of the list there
pub tables_at : (ls : Lists) (ts : Tables) → AreTables ls ts → (k : ℕ) → IsTableOf (list_at ls k) (table_at ts k)
tables_at [] [] are k = record { sums = record { each = λ r. refl } }
tables_at [] (t ∷ ts) are k = absurd are
tables_at (l ∷ ls) [] are k = absurd are
tables_at (l ∷ ls) (t ∷ ts) are zero = are.0
tables_at (l ∷ ls) (t ∷ ts) are (suc k) = tables_at ls ts are.1 k

-- what the ports of a node forgot is at its place
pub listed_is : (nodes : List PlanNode) (ports : List Lists) (before after : List PlanNode) (n : PlanNode) → nodes ≡ before ++ n ∷ after → listed_at (forgot_in nodes ports) (length before) ≡ forgot_on n (lists_at ports (length before))
listed_is nodes ports before after n whole = ap (λ (ns : List PlanNode). listed_at (forgot_in ns ports) (length before)) whole ∙ at before ports where
  at : (bs : List PlanNode) (ps : List Lists) → listed_at (forgot_in (bs ++ n ∷ after) ps) (length bs) ≡ forgot_on n (lists_at ps (length bs))
  at [] [] = refl
  at [] (p ∷ ps) = refl
  at (b ∷ bs) [] = at bs []
  at (b ∷ bs) (p ∷ ps) = at bs ps

-- there is a list of what its ports forgot for each node
pub forgot_length : (nodes : List PlanNode) (ports : List Lists) → length (forgot_in nodes ports) ≡ length nodes
forgot_length [] ports = refl
forgot_length (n ∷ nodes) [] = ap (λ k. suc k) (forgot_length nodes [])
forgot_length (n ∷ nodes) (p ∷ ports) = ap (λ k. suc k) (forgot_length nodes ports)

-- the passed tables are the tables of the nodes that are read, less what was forgotten
same_left_out : (n : ℕ) (given : Lists) (done : Tables) (level : Level) → ((k : ℕ) → k < n → Makes (list_at given k) (table_at done k)) → (inputs : List ℕ) → All (λ (place : ℕ). place < n) inputs
    → SameTables (tables_of (replicate (length inputs) level) (map (list_at given) inputs)) (all_left_out (map (table_at done) inputs) (map (forgot level.memory) (map (list_at given) inputs)))
same_left_out n given done level good [] within = tt
same_left_out n given done level good (i ∷ inputs) within =
    let m = good i (All-head (λ (place : ℕ). place < n) i inputs within) in (
      ended_left level (list_at given i) (table_at done i) m.whole.legal m.whole.ended m.table,
      same_left_out n given done level good inputs (All-tail (λ (place : ℕ). place < n) i inputs within),
    )

module _ (nodes : List PlanNode) (sources : Lists) (tables : Tables) (ports : List Lists) (given : Lists) (are : AreNodes [] (map node_of nodes)) (run : IsRun nodes sources ports given) (all_whole : AllWhole (source_count nodes) sources) (are_tables : AreTables sources tables) where
  listed : List (List (List Forgotten))
  listed = forgot_in nodes ports

  module _ (before after : List PlanNode) (n : PlanNode) (done : Tables) (whole : nodes ≡ before ++ n ∷ after) (good : (k : ℕ) → k < length before → Makes (list_at given k) (table_at done k)) where
    source_makes : is_source n.kind ≡ true → Makes (list_at given (length before)) (table_at tables (source_count before))
    source_makes is = subst (λ (ms : List Message). Makes ms (table_at tables (source_count before))) (sym ((run.node before after n whole).source is)) (record { whole = all_whole (source_count before) (sources_behind nodes before after n whole is); table = tables_at sources tables are_tables (source_count before) })

    other_makes : is_source n.kind ≡ false → Makes (list_at given (length before)) ((meaning_of n).result (all_left_out (input_tables done n) (listed_at (forgot_in nodes ports) (length before))))
    other_makes isnt =
        let is = node_stands nodes before after n are whole in
        let within = inputs_are before n is in
        let inputs = n.inputs.items in
        let fits = node_fits nodes sources ports given run before after n whole is isnt (all_unbroken (length before) given (λ k h. (good k h).whole.unbroken) inputs within) in
        let ended = all_ended (length before) given (λ k h. (good k h).whole.ended) inputs within in
        let forgotten : listed_at (forgot_in nodes ports) (length before) ≡ forgot_on n (input_lists given n) = listed_is nodes ports before after n whole ∙ ap (forgot_on n) (run.edges before after n whole) in
        let same = same_left_out (length before) given done n.level good inputs within in
        record {
          whole = record { legal = fits.legal; ended = fits.ended ∙ ended; unbroken = fits.unbroken };
          table = subst (λ (fs : List (List Forgotten)). IsTableOf (list_at given (length before)) ((meaning_of n).result (all_left_out (input_tables done n) fs))) (sym forgotten)
              (table_alike (list_at given (length before)) ((meaning_of n).result (tables_of (port_levels n) (input_lists given n))) _ (same_back _ _ ((laws_of_node before n is isnt).same_result _ _ same)) fits.table);
        }

    makes_at : (b : Bool) → is_source n.kind ≡ b → Makes (list_at given (length before)) (cond b (table_at tables (source_count before)) ((meaning_of n).result (all_left_out (input_tables done n) (listed_at (forgot_in nodes ports) (length before)))))
    makes_at true h = source_makes h
    makes_at false h = other_makes h

  makes : (k : ℕ) → k < length nodes → Makes (list_at given k) (table_at (query_without (forgot_in nodes ports) tables nodes) k)
  makes = by_nodes nodes (λ (k : ℕ) (rows : List Row). Makes (list_at given k) rows) [] (node_table_without (forgot_in nodes ports) tables)
      (λ before after n done whole len good. makes_at before after n done whole good (is_source n.kind) refl)

  pub closed_table : (k : ℕ) → k < length nodes → IsTableOf (list_at given k) (table_at (query_without (forgot_in nodes ports) tables nodes) k)
  closed_table k within = (makes k within).table

module _ (nodes : List PlanNode) (sources : Lists) (ports : List Lists) (given : Lists) (are : AreNodes [] (map node_of nodes)) (run : IsRun nodes sources ports given) (all_whole : AllWhole (source_count nodes) sources) where
  whole_at : (before after : List PlanNode) (n : PlanNode) → nodes ≡ before ++ n ∷ after → ((k : ℕ) → k < length before → IsWhole (list_at given k)) → (b : Bool) → is_source n.kind ≡ b → IsWhole (list_at given (length before))
  whole_at before after n whole good true is = subst IsWhole (sym ((run.node before after n whole).source is)) (all_whole (source_count before) (sources_behind nodes before after n whole is))
  whole_at before after n whole good false isnt =
      let is = node_stands nodes before after n are whole in
      let within = inputs_are before n is in
      let fits = node_fits nodes sources ports given run before after n whole is isnt (all_unbroken (length before) given (λ k h. (good k h).unbroken) n.inputs.items within) in
      record { legal = fits.legal; ended = fits.ended ∙ all_ended (length before) given (λ k h. (good k h).ended) n.inputs.items within; unbroken = fits.unbroken }

  -- the list of each node is whole
  pub closed_whole : AllWhole (length nodes) given
  closed_whole = by_nodes {X = ℕ} nodes (λ (k : ℕ) (x : ℕ). IsWhole (list_at given k)) 0 (λ before done n. 0) (λ before after n done whole len good. whole_at before after n whole good (is_source n.kind) refl)
