-- Where no memory is finite nothing is forgotten, and nothing is left out.
use Rattle.std.proofs.Common.{◌≡◌, ℕ, ◌<◌, List, [], ◌∷◌, ◌++◌, Bool, true, false, cond, length, refl, ap, subst, sym, ◌∙◌, arith, append_assoc}
use Rattle.std.specs.Prelude.{map, All, None}
use Rattle.std.proofs.lemmas.List.Elements.{All-head, All-tail}
use Rattle.cedr_base.specs.declared.level.Level.{Level}
use Rattle.cedr_base.specs.declared.row.Row.{Row}
use Rattle.cedr_base.specs.Messages.{IsLegal}
use Rattle.cedr_table.specs.Operators.{Tables, table_at}
use Rattle.cedr_plan.specs.declared.plan.PlanNode.{PlanNode}
use Rattle.cedr_plan.specs.Drawn.{node_of}
use Rattle.cedr_plan.specs.Rules.{AreNodes}
use Rattle.node_laws.specs.Kept.{forgot}
use Rattle.node_laws.specs.Lists.{Lists, list_at}
use Rattle.cedr_query.specs.Queries.{input_tables, each_node, node_table, query}
use Rattle.cedr_plan.specs.Places.{is_source, source_count}
use Rattle.cedr_plan.proofs.PlaceLemmas.{inputs_are}
use Rattle.op_node.specs.Meanings.{meaning_of}
use Rattle.plan_runs.specs.Runs.{lists_at, input_lists}
use Rattle.plan_runs.specs.Without.{all_left_out, listed_at, node_table_without, query_without, forgot_on, forgot_in, Remembers}
use Rattle.plan_runs.proofs.Closed.{listed_is}
use Rattle.plan_runs.proofs.Ports.{none_forgot, left_none}
use Rattle.plan_runs.proofs.PlanNodes.{node_stands, place_within}

all_left_none : (n : ℕ) (given : Lists) (done : Tables) (level : Level) → level.memory ≡ None → ((k : ℕ) → k < n → IsLegal (list_at given k)) → (inputs : List ℕ) → All (λ (place : ℕ). place < n) inputs
    → all_left_out (map (table_at done) inputs) (map (forgot level.memory) (map (list_at given) inputs)) ≡ map (table_at done) inputs
all_left_none n given done level e legal [] within = refl
all_left_none n given done level e legal (i ∷ inputs) within =
    let a = left_none (table_at done i) (forgot level.memory (list_at given i)) (none_forgot level (list_at given i) e (legal i (All-head (λ (place : ℕ). place < n) i inputs within))) in
    let b = all_left_none n given done level e legal inputs (All-tail (λ (place : ℕ). place < n) i inputs within) in
    cc

-- where no node forgets, a node doesn't
pub remembers_at : (before after : List PlanNode) (n : PlanNode) → Remembers (before ++ n ∷ after) → n.level.memory ≡ None
remembers_at [] after n h = h.0
remembers_at (b ∷ before) after n h = remembers_at before after n h.1

-- what is made alike at each node is made alike
same_behind : {X : Type 0} (all : List PlanNode) (make other : List PlanNode → List X → PlanNode → X) → ((before after : List PlanNode) (n : PlanNode) (done : List X) → all ≡ before ++ n ∷ after → make before done n ≡ other before done n)
    → (before nodes : List PlanNode) (done : List X) → all ≡ before ++ nodes → each_node make before done nodes ≡ each_node other before done nodes
same_behind all make other same before [] done whole = refl
same_behind all make other same before (n ∷ nodes) done whole =
    ap (λ x. each_node make (before ++ n ∷ []) (done ++ x ∷ []) nodes) (same before nodes n done whole)
    ∙ same_behind all make other same (before ++ n ∷ []) nodes (done ++ other before done n ∷ []) (whole ∙ sym (append_assoc before (n ∷ []) nodes))

table_same : (b : Bool) (rows : List Row) (result : Tables → List Row) (some others : Tables) → (b ≡ false → some ≡ others) → cond b rows (result some) ≡ cond b rows (result others)
table_same true rows result some others same = refl
table_same false rows result some others same = ap result (same refl)

-- where no node forgets and each list is legal, the query with what the ports forgot left out is the query
pub remembered : (nodes : List PlanNode) (sources : Tables) (ports : List Lists) (given : Lists) → AreNodes [] (map node_of nodes)
    → ((before after : List PlanNode) (n : PlanNode) → nodes ≡ before ++ n ∷ after → lists_at ports (length before) ≡ input_lists given n)
    → ((k : ℕ) → k < length nodes → IsLegal (list_at given k)) → Remembers nodes → query_without (forgot_in nodes ports) sources nodes ≡ query sources nodes
remembered nodes sources ports given are edges legal remembers =
    same_behind nodes (node_table_without (forgot_in nodes ports) sources) (node_table sources)
    (λ before after n done whole.
    table_same (is_source n.kind) (table_at sources (source_count before)) (meaning_of n).result (all_left_out (input_tables done n) (listed_at (forgot_in nodes ports) (length before))) (input_tables done n)
    (λ _.
    ap (all_left_out (input_tables done n)) (listed_is nodes ports before after n whole ∙ ap (forgot_on n) (edges before after n whole))
    ∙ all_left_none (length before) given done n.level (remembers_at before after n (subst Remembers whole remembers)) (λ k h. legal k (let w = place_within nodes before after n whole in omega arith)) n.inputs.items (inputs_are before n (node_stands nodes before after n are whole))))
    [] nodes [] refl
