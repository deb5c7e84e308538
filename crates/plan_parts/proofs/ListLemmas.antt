-- The lists of a part, node by node, and their tables.
use Rattle.std.proofs.Common.{◌≡◌, ℕ, zero, suc, ◌+◌, ◌-◌, ◌≤◌, List, [], ◌∷◌, ◌++◌, Bool, true, false, cond, min, refl, ap, sym, ◌∙◌, subst, arith, length}
use Rattle.std.specs.Prelude.{Option, take, drop}
use Rattle.std.proofs.lemmas.List.{drop-take, take-append-drop, take-take, take_min}
use Rattle.std.proofs.lemmas.List.Elements.{filter-append}
use Rattle.cedr_base.specs.declared.field.Field.{Field}
use Rattle.cedr_base.specs.declared.row.Row.{Row}
use Rattle.cedr_base.specs.declared.change.Message.{Message}
use Rattle.cedr_base.specs.Messages.{IsLegal, IsTableOf}
use Rattle.cedr_plan.specs.declared.plan.PlanNode.{PlanNode}
use Rattle.cedr_plan.specs.Places.{is_source}
use Rattle.cedr_table.specs.Operators.{Tables}
use Rattle.change_laws.proofs.Legal.{legal_first}
use Rattle.node_laws.specs.Lists.{Lists, list_at, AreTables}
use Rattle.plan_keys.specs.Keys.{KeyedPort, column_at, key_part, key_parts, source_ports}
use Rattle.plan_runs.specs.Runs.{IsWhole, AllWhole, sources_in}
use Rattle.plan_parts.specs.Parts.{goes_to, list_part}
use Rattle.plan_parts.proofs.PartLemmas.{whole_part, table_part}

-- the first elements, and then those up to a later place, are the first ones up to there
pub take_between : {X : Type 0} (xs : List X) (from until first end : ℕ) → from ≤ until → first ≡ min from (length xs) → end ≡ min until (length xs) → take from xs ++ take (end - first) (drop first xs) ≡ take until xs
take_between xs from until first end order is is' =
    let whole : first + (end - first) ≡ end = omega (arith, order, is, is') in
    let front : take from xs ≡ take first (take end xs) = sym (take_min from xs) ∙ (ap (λ n. take n xs) (sym is) ∙ sym (take-take first end xs (omega (arith, order, is, is')))) in
    let back : take (end - first) (drop first xs) ≡ drop first (take end xs) = sym (drop-take first (end - first) xs) ∙ ap (λ n. drop first (take n xs)) whole in
    ap (λ ys. ys ++ take (end - first) (drop first xs)) front
    ∙ (ap (λ ys. take first (take end xs) ++ ys) back
    ∙ (take-append-drop first (take end xs) ∙ (ap (λ n. take n xs) is' ∙ take_min until xs)))

-- what goes to a part of the lists of the nodes from a place on
abbrev pub list_parts : (Option Field → Bool) → List ℕ → ℕ → Lists → Lists
list_parts mine columns place [] = []
list_parts mine columns place (l ∷ lists) = list_part mine (column_at columns place) l ∷ list_parts mine columns (place + 1) lists

module _ (mine : Option Field → Bool) (columns : List ℕ) where
  -- what goes to a part of two lists, one after the other
  pub part-append : (column : ℕ) (xs ys : List Message) → list_part mine column (xs ++ ys) ≡ list_part mine column xs ++ list_part mine column ys
  part-append column xs ys = filter-append (goes_to mine column) xs ys

  -- the list of a place is the part of the list there
  pub list_parts_at : (lists : Lists) (place k : ℕ) → list_at (list_parts mine columns place lists) k ≡ list_part mine (column_at columns (place + k)) (list_at lists k)
  list_parts_at [] place k = refl
  list_parts_at (l ∷ lists) place zero = ap (λ (j : ℕ). list_part mine (column_at columns j) l) (omega arith)
  list_parts_at (l ∷ lists) place (suc k) = list_parts_at lists (place + 1) k ∙ ap (λ (j : ℕ). list_part mine (column_at columns j) (list_at lists k)) (omega arith)

  -- ---- whole lists

  -- a source more, or not
  whole_at : (b : Bool) (l m : List Message) (xs ys : Lists) → (IsWhole l → IsWhole m) → ((k : ℕ) → IsWhole (list_at xs k) → IsWhole (list_at ys k)) → (k : ℕ) → IsWhole (list_at (cond b (l ∷ xs) xs) k) → IsWhole (list_at (cond b (m ∷ ys) ys) k)
  whole_at true l m xs ys one rest zero h = one h
  whole_at true l m xs ys one rest (suc k) h = rest k h
  whole_at false l m xs ys one rest k h = rest k h

  -- of the sources each whole list has a whole part
  whole_parts : (nodes : List PlanNode) (lists : Lists) (place k : ℕ) → IsWhole (list_at (sources_in nodes lists) k) → IsWhole (list_at (sources_in nodes (list_parts mine columns place lists)) k)
  whole_parts [] lists place k h = h
  whole_parts (n ∷ nodes) [] place k h = h
  whole_parts (n ∷ nodes) (l ∷ lists) place k h =
      whole_at (is_source n.kind) l (list_part mine (column_at columns place) l) (sources_in nodes lists) (sources_in nodes (list_parts mine columns (place + 1) lists)) (whole_part mine (column_at columns place) l) (whole_parts nodes lists (place + 1)) k h

  -- so where all are whole
  pub all_whole_parts : (nodes : List PlanNode) (lists : Lists) (place count : ℕ) → AllWhole count (sources_in nodes lists) → AllWhole count (sources_in nodes (list_parts mine columns place lists))
  all_whole_parts nodes lists place count all k within = whole_parts nodes lists place k (all k within)

  -- ---- tables

  -- a source more, or not
  tables_at : (b : Bool) (column width : ℕ) (l m : List Message) (xs ys : Lists) (ports : List KeyedPort) (histories : Tables) → ((t : List Row) → IsTableOf l t → IsTableOf m (key_part mine column t)) → ((ts : Tables) → AreTables xs ts → AreTables ys (key_parts mine ports ts))
      → AreTables (cond b (l ∷ xs) xs) histories → AreTables (cond b (m ∷ ys) ys) (key_parts mine (cond b (record { column = column; width = width } ∷ ports) ports) histories)
  tables_at true column width l m xs ys ports [] one rest h = h
  tables_at true column width l m xs ys ports (t ∷ ts) one rest h = (one t h.0, rest ts h.1)
  tables_at false column width l m xs ys ports ts one rest h = rest ts h

  -- a list without messages
  no_table : (column : ℕ) (t : List Row) → IsTableOf [] t → IsTableOf [] (key_part mine column t)
  no_table column t h = table_part mine column [] t h

  -- the tables of the sources' parts are the parts of their tables
  pub tables_parts : (nodes : List PlanNode) (lists : Lists) (place : ℕ) (histories : Tables) → AreTables (sources_in nodes lists) histories → AreTables (sources_in nodes (list_parts mine columns place lists)) (key_parts mine (source_ports columns nodes place) histories)
  tables_parts [] lists place [] h = tt
  tables_parts [] lists place (t ∷ ts) h = absurd h
  tables_parts (n ∷ nodes) [] place histories h =
      tables_at (is_source n.kind) (column_at columns place) (length n.types.items) [] [] (sources_in nodes []) (sources_in nodes []) (source_ports columns nodes (place + 1)) histories (no_table (column_at columns place))
      (λ ts are. tables_parts nodes [] (place + 1) ts are) h
  tables_parts (n ∷ nodes) (l ∷ lists) place histories h =
      tables_at (is_source n.kind) (column_at columns place) (length n.types.items) l (list_part mine (column_at columns place) l) (sources_in nodes lists) (sources_in nodes (list_parts mine columns (place + 1) lists)) (source_ports columns nodes (place + 1)) histories
      (λ t is. table_part mine (column_at columns place) l t is) (λ ts are. tables_parts nodes lists (place + 1) ts are) h

  -- ---- the first messages

  -- what goes to the part of the first messages, and then of the next ones, is legal where that of all is
  pub next_legal : (column from until : ℕ) (ms chunk : List Message) → take from ms ++ chunk ≡ take until ms → IsLegal (list_part mine column ms) → IsLegal (list_part mine column (take from ms) ++ list_part mine column chunk)
  next_legal column from until ms chunk is legal =
      subst IsLegal (ap (list_part mine column) (sym is) ∙ part-append column (take from ms) chunk)
      (legal_first [] (list_part mine column (take until ms)) (list_part mine column (drop until ms))
      (subst IsLegal (ap (list_part mine column) (sym (take-append-drop until ms)) ∙ part-append column (take until ms) (drop until ms)) legal))
