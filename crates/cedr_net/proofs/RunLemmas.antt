-- The lists that went over a network are a partial run, and a run where nothing waits.
use Rattle.std.proofs.Common.{◌≡◌, ℕ, suc, ◌<◌, List, [], ◌∷◌, ◌++◌, length, get_or, refl, ap, sym, ◌∙◌, subst, arith}
use Rattle.std.specs.Prelude.{map, None}
use Rattle.std.proofs.lemmas.List.{append-nil}
use Rattle.cedr_base.specs.declared.change.Message.{Message}
use Rattle.node_laws.specs.Lists.{Lists, list_at, AreTables}
use Rattle.cedr_plan.specs.declared.plan.PlanNode.{PlanNode}
use Rattle.cedr_query.specs.Queries.{query}
use Rattle.cedr_plan.specs.Places.{source_count}
use Rattle.plan_runs.specs.Runs.{lists_at, input_lists, ArePrefixes, IsNodeRun, IsRun, IsPartialRun, sources_in, AllWhole}
use Rattle.cedr_base.specs.declared.row.Row.{Row}
use Rattle.cedr_base.specs.Rows.{SameRows}
use Rattle.cedr_table.specs.Operators.{Tables, table_at}
use Rattle.plan_runs.specs.Without.{query_without, forgot_in, Remembers}
use Rattle.plan_runs.proofs.Partial.{source_at}
use Rattle.plan_runs.proofs.Remembered.{remembered}
use Rattle.plan_runs.proofs.Closed.{closed_table}
use Rattle.plan_runs.proofs.PlanNodes.{place_within}
use Rattle.cedr_base.specs.Messages.{IsTableOf}
use Rattle.cedr_net.specs.declared.work.Work.{Work}
use Rattle.cedr_net.specs.Edges.{lists_joined, NothingWaits}
use Rattle.cedr_net.specs.Flows.{Flows}
use Rattle.cedr_net.proofs.FlowLemmas.{reads_at, works_lawful}
use Rattle.node_laws.proofs.Passes.{one_table}

prefixes : (ls qs ws : Lists) → length ls ≡ length qs → lists_joined ls qs ≡ ws → ArePrefixes ls ws
prefixes ls qs ws len e = subst (ArePrefixes ls) e (at ls qs len) where
  at : (xs ys : Lists) → length xs ≡ length ys → ArePrefixes xs (lists_joined xs ys)
  at [] ys h = tt
  at (x ∷ xs) [] h = absurd (omega arith)
  at (x ∷ xs) (y ∷ ys) h = (record { rest = y; all = refl }, at xs ys (omega arith))

joined_empty : (ls qs : Lists) → length ls ≡ length qs → NothingWaits qs → lists_joined ls qs ≡ ls
joined_empty [] qs len none = refl
joined_empty (l ∷ ls) [] len none = absurd (omega arith)
joined_empty (l ∷ ls) (q ∷ qs) len none =
    let a : l ++ q ≡ l = ap (λ (xs : List Message). l ++ xs) (none 0) ∙ append-nil l in
    let b = joined_empty ls qs (omega arith) (λ k. none (suc k)) in
    cc

module _ (nodes : List PlanNode) (reads : List (List ℕ)) (waiting : List Lists) (works : List Work) (ports : List Lists) (given : Lists) (h : Flows nodes reads waiting works ports given) where
  node_run : (before after : List PlanNode) (n : PlanNode) → nodes ≡ before ++ n ∷ after → IsNodeRun (sources_in nodes given) before n (lists_at ports (length before)) (list_at given (length before))
  node_run before after n whole = record {
    source = λ is. sym (ap (λ (ns : List PlanNode). list_at (sources_in ns given) (source_count before)) whole ∙ source_at before after n given is);
    lawful = λ isnt. works_lawful _ n (lists_at ports (length before)) (list_at given (length before)) (h.work before after n (record { node = None }) whole) isnt;
  }

  edge_is : (before after : List PlanNode) (n : PlanNode) → nodes ≡ before ++ n ∷ after → lists_joined (lists_at ports (length before)) (lists_at waiting (length before)) ≡ input_lists given n
  edge_is before after n whole = h.edges (length before) ∙ ap (λ (is : List ℕ). map (list_at given) is) (ap (λ (rs : List (List ℕ)). get_or rs (length before) []) h.reads_are ∙ reads_at nodes before after n whole)

  pub partial_run : IsPartialRun nodes (sources_in nodes given) ports given
  partial_run = record {
    node = node_run;
    edges = λ before after n whole. prefixes (lists_at ports (length before)) (lists_at waiting (length before)) (input_lists given n) (h.widths (length before)) (edge_is before after n whole);
  }

  pub settled_run : ((k : ℕ) → k < length nodes → NothingWaits (lists_at waiting k)) → IsRun nodes (sources_in nodes given) ports given
  settled_run none = record {
    node = node_run;
    edges = λ before after n whole.
        sym (joined_empty (lists_at ports (length before)) (lists_at waiting (length before)) (h.widths (length before)) (none (length before) (place_within nodes before after n whole))) ∙ edge_is before after n whole;
  }

  -- the table of what a node of a settled network gave, once the sources have ended, is that of the query with what was
  -- forgotten left out
  pub answer_is : ((k : ℕ) → k < length nodes → NothingWaits (lists_at waiting k)) → AllWhole (source_count nodes) (sources_in nodes given) → (tables : Tables) → AreTables (sources_in nodes given) tables
      → (place : ℕ) (rows : List Row) → place < length nodes → IsTableOf (list_at given place) rows → SameRows rows (table_at (query_without (forgot_in nodes ports) tables nodes) place)
  answer_is none whole tables are_tables place rows within answer =
      one_table (list_at given place) rows (table_at (query_without (forgot_in nodes ports) tables nodes) place) answer (closed_table nodes (sources_in nodes given) tables ports given h.are (settled_run none) whole are_tables place within)

  -- and where no memory is finite that of the query
  pub query_is : ((k : ℕ) → k < length nodes → NothingWaits (lists_at waiting k)) → Remembers nodes → (tables : Tables) → query_without (forgot_in nodes ports) tables nodes ≡ query tables nodes
  query_is none remembers tables = remembered nodes tables ports given h.are (settled_run none).edges (λ k within. h.legal k) remembers
