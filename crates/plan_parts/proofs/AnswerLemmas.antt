-- What a part's network has at its output, and what the parts have together.
use Rattle.std.proofs.Common.{◌≡◌, ℕ, zero, suc, ◌+◌, ◌<◌, List, [], ◌∷◌, ◌++◌, refl, ap, sym, ◌∙◌, subst, arith, length, get_or}
use Rattle.std.specs.Prelude.{Option, Bool}
use Rattle.std.specs.List.{flat_map}
use Rattle.std.proofs.lemmas.List.{length-map}
use Rattle.std.proofs.lemmas.List.Concat.{flat_map-append}
use Rattle.cedr_base.specs.declared.field.Field.{Field}
use Rattle.cedr_base.specs.declared.row.Row.{Row}
use Rattle.cedr_base.specs.Messages.{IsLegal, IsTableOf}
use Rattle.cedr_base.specs.Rows.{count_of, SameRows, in_order}
use Rattle.cedr_base.proofs.Bags.{count_of-append}
use Rattle.cedr_base.proofs.Sorting.{in_order_counts}
use Rattle.cedr_plan.specs.declared.plan.PlanNode.{PlanNode}
use Rattle.cedr_plan.specs.Places.{output_place, source_count}
use Rattle.cedr_query.specs.Queries.{query}
use Rattle.cedr_table.specs.Operators.{Tables, table_at}
use Rattle.cedr_guard.specs.Messages.{messages_in}
use Rattle.cedr_net.specs.declared.net.SerialNet.{SerialNet}
use Rattle.cedr_net.specs.Edges.{NothingWaits}
use Rattle.cedr_net.specs.Networks.{NetStands, AreAnswerRows, waiting_at}
use Rattle.cedr_net.proofs.EdgeLemmas.{any_default}
use Rattle.cedr_net.proofs.PlaceLemmas.{source_here}
use Rattle.node_laws.specs.Lists.{Lists, list_at, AreTables}
use Rattle.node_laws.proofs.Order.{one_canonical}
use Rattle.plan_keys.specs.Keys.{column_at, source_parts, shared_query}
use Rattle.plan_runs.specs.Runs.{AllWhole, sources_in}
use Rattle.plan_runs.specs.Without.{Remembers}
use Rattle.plan_runs.proofs.SourceLists.{same_sources}
use Rattle.plan_serial.specs.Feeding.{AreSources}
use Rattle.plan_serial.specs.Rounds.{ByLine, entries_at, all_messages}
use Rattle.plan_parts.specs.Parts.{AreLists, is_in_part, list_part, shares_from}
use Rattle.plan_parts.specs.Feeds.{IsFedWhole}
use Rattle.plan_parts.proofs.ListLemmas.{list_parts, list_parts_at, all_whole_parts, tables_parts}

-- what is known of a network at rest whose sources have ended
abbrev pub AnswersQuery : Type 0
AnswersQuery = (nodes : List PlanNode) (net : SerialNet) (ports : List Lists) (given : Lists) → NetStands nodes net ports given → ((place : ℕ) → place < length nodes → NothingWaits (waiting_at net place)) → AllWhole (source_count nodes) (sources_in nodes given) → Remembers nodes
    → (tables : Tables) → AreTables (sources_in nodes given) tables → (rows : List Row) → IsTableOf (list_at given (output_place nodes)) rows → SameRows rows (table_at (query tables nodes) (output_place nodes))

module _ (nodes : List PlanNode) (net : SerialNet) (mine : Option Field → Bool) (columns : List ℕ) (lists : Lists) (h : IsFedWhole nodes net mine columns lists) where
  -- each source gave its part
  given_parts : sources_in nodes h.given ≡ sources_in nodes (list_parts mine columns 0 lists)
  given_parts = same_sources nodes h.given (list_parts mine columns 0 lists) (λ k d within is.
      h.fed k within (source_here nodes k (get_or nodes k d) within (any_default nodes k (get_or nodes k d) d within) is)
      ∙ sym (list_parts_at mine columns lists 0 k ∙ ap (λ (j : ℕ). list_part mine (column_at columns j) (list_at lists k)) (omega arith)))

  -- the query over the part
  pub part_rows : AnswersQuery → (histories : Tables) → AllWhole (source_count nodes) (sources_in nodes lists) → AreTables (sources_in nodes lists) histories → Remembers nodes → (rows : List Row) → AreAnswerRows (list_at h.given (output_place nodes)) rows
      → SameRows rows (table_at (query (source_parts mine columns nodes histories) nodes) (output_place nodes))
  part_rows answers histories whole are remembers rows is =
      let parts = source_parts mine columns nodes histories in
      answers nodes net h.ports h.given h.stands h.empty
      (subst (AllWhole (source_count nodes)) (sym given_parts) (all_whole_parts mine columns nodes lists 0 (source_count nodes) whole))
      remembers parts
      (subst (λ (ls : Lists). AreTables ls parts) (sym given_parts) (tables_parts mine columns nodes lists 0 histories are)) rows is.table

-- ---- several parts

-- the shares are those of the first parts, and then the others
pub shares_split : (count low number high first : ℕ) → number ≡ low + high → shares_from count first number ≡ shares_from count first low ++ shares_from count (first + low) high
shares_split count zero number high first is =
    ap (shares_from count first) (omega (arith, is)) ∙ ap (λ (k : ℕ). shares_from count k high) (omega arith)
shares_split count (suc low) zero high first is = absurd (omega (arith, is))
shares_split count (suc low) (suc number) high first is =
    ap (λ (shares : List (Option Field → Bool)). is_in_part count first ∷ shares)
    (shares_split count low number high (first + 1) (omega (arith, is)) ∙ ap (λ (k : ℕ). shares_from count (first + 1) low ++ shares_from count k high) (omega arith))

module _ (columns : List ℕ) (histories : Tables) (nodes : List PlanNode) (place : ℕ) where
  -- one part alone, whose rows are in canonical order
  pub one_share : (mine : Option Field → Bool) (rows : List Row) → in_order rows ≡ rows → SameRows rows (table_at (query (source_parts mine columns nodes histories) nodes) place) → rows ≡ in_order (shared_query (mine ∷ []) columns histories nodes place)
  one_share mine rows ordered same =
      let shared = shared_query (mine ∷ []) columns histories nodes place in
      sym ordered ∙ one_canonical rows shared (record { each = λ r. omega (arith, same.each r, count_of-append r (table_at (query (source_parts mine columns nodes histories) nodes) place) []) })

  -- the rows of some parts and those of the next ones
  pub both_shares : (count first low high number : ℕ) (one other joined rows : List Row) → number ≡ low + high → one ≡ in_order (shared_query (shares_from count first low) columns histories nodes place) → other ≡ in_order (shared_query (shares_from count (first + low) high) columns histories nodes place)
      → joined ≡ one ++ other → rows ≡ in_order joined → rows ≡ in_order (shared_query (shares_from count first number) columns histories nodes place)
  both_shares count first low high number one other joined rows whole is is' both are =
      let f = λ (mine : Option Field → Bool). table_at (query (source_parts mine columns nodes histories) nodes) place in
      let xs = shares_from count first low in
      let ys = shares_from count (first + low) high in
      let split : flat_map f (shares_from count first number) ≡ flat_map f xs ++ flat_map f ys = ap (flat_map f) (shares_split count low number high first whole) ∙ flat_map-append f xs ys in
      are
      ∙ one_canonical joined (flat_map f (shares_from count first number)) (record {
        each = λ r. omega (
          arith,
          ap (count_of r) both,
          count_of-append r one other,
          ap (count_of r) is,
          (in_order_counts (flat_map f xs)).each r,
          ap (count_of r) is',
          (in_order_counts (flat_map f ys)).each r,
          ap (count_of r) split,
          count_of-append r (flat_map f xs) (flat_map f ys),
        );
      })

-- rows of the same bag as those of all parts
pub whole_answer : (rows shared all : List Row) → rows ≡ in_order shared → SameRows shared all → rows ≡ in_order all
whole_answer rows shared all are same = are ∙ one_canonical shared all same

-- the messages of a node are those of its entries
messages_at : (lines : ByLine) (k : ℕ) → list_at (all_messages lines) k ≡ messages_in (entries_at lines k)
messages_at [] k = refl
messages_at (l ∷ lines) zero = refl
messages_at (l ∷ lines) (suc k) = messages_at lines k

-- what the entries of the sources hold is a legal list for each node
pub entry_lists : (nodes : List PlanNode) (lines : ByLine) → AreSources nodes lines → AreLists nodes (all_messages lines)
entry_lists nodes lines h = record { count = length-map lines messages_in ∙ h.count; legal = λ k. subst IsLegal (sym (messages_at lines k)) (h.legal k) }
