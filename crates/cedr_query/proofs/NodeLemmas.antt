-- The nodes of a plan, one after the other.
use Rattle.std.proofs.Common.{◌≡◌, ℕ, zero, suc, ◌+◌, ◌<◌, List, [], ◌∷◌, ◌++◌, length, get_or, take, ap, sym, ◌∙◌, arith, append_assoc}
use Rattle.std.proofs.lemmas.List.{append-nil, take_more}
use Rattle.cedr_base.specs.declared.row.Row.{Row}
use Rattle.cedr_base.specs.Rows.{SameRows, AreRows}
use Rattle.cedr_plan.specs.declared.plan.PlanNode.{PlanNode}
use Rattle.cedr_table.specs.Operators.{Tables, SameTables, table_at, HaveRows}
use Rattle.cedr_query.specs.Queries.{each_node}

more_behind : {X : Type 0} (make : List PlanNode → List X → PlanNode → X) (before : List PlanNode) (done : List X) (nodes : List PlanNode) (node : PlanNode)
    → each_node make before done (nodes ++ node ∷ []) ≡ each_node make before done nodes ++ make (before ++ nodes) (each_node make before done nodes) node ∷ []
more_behind make before done [] node = ap (λ (b : List PlanNode). done ++ make b done node ∷ []) (sym (append-nil before))
more_behind make before done (n ∷ nodes) node =
    more_behind make (before ++ n ∷ []) (done ++ make before done n ∷ []) nodes node
    ∙ ap (λ (b : List PlanNode). each_node make (before ++ n ∷ []) (done ++ make before done n ∷ []) nodes ++ make b (each_node make (before ++ n ∷ []) (done ++ make before done n ∷ []) nodes) node ∷ []) (append_assoc before (n ∷ []) nodes)

-- the value of one node more
pub one_node_more : {X : Type 0} (make : List PlanNode → List X → PlanNode → X) (nodes : List PlanNode) (i : ℕ) (d : PlanNode) → i < length nodes
    → each_node make [] [] (take (i + 1) nodes) ≡ each_node make [] [] (take i nodes) ++ make (take i nodes) (each_node make [] [] (take i nodes)) (get_or nodes i d) ∷ []
one_node_more make nodes i d within = ap (each_node make [] []) (take_more nodes i d within) ∙ more_behind make [] [] (take i nodes) (get_or nodes i d)

-- tables that are the same bags stay so with one more of each, where these two are the same bag
pub same_tables_push : (ts us : Tables) (t u : List Row) → SameTables ts us → SameRows t u → SameTables (ts ++ t ∷ []) (us ++ u ∷ [])
same_tables_push [] [] t u same last = (last, tt)
same_tables_push [] (y ∷ us) t u same last = absurd same
same_tables_push (x ∷ ts) [] t u same last = absurd same
same_tables_push (x ∷ ts) (y ∷ us) t u same last = (same.0, same_tables_push ts us t u same.1 last)

rows_push : (ts : Tables) (t : List Row) → ((k : ℕ) → AreRows (table_at ts k)) → AreRows t → (k : ℕ) → AreRows (table_at (ts ++ t ∷ []) k)
rows_push [] t are has zero = has
rows_push [] t are has (suc k) = are k
rows_push (x ∷ ts) t are has zero = are 0
rows_push (x ∷ ts) t are has (suc k) = rows_push ts t (λ j. are (suc j)) has k

-- tables with rows only have rows only with one more such table
pub are_rows_push : (ts : Tables) (t : List Row) → HaveRows ts → AreRows t → HaveRows (ts ++ t ∷ [])
are_rows_push ts t are has = record { each = rows_push ts t are.each has }

-- where there is no table, each has rows only
pub no_rows : HaveRows []
no_rows = record { each = λ k. record { each = λ r there. absurd (omega arith) } }
