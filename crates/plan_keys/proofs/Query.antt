-- The query over the parts of the sources' tables is the part of the query, node by node.
use Rattle.std.proofs.Common.{◌≡◌, ℕ, zero, suc, ◌+◌, ◌<◌, inl, inr, arith, length, get_or, List, [], ◌∷◌, ◌++◌, Bool, true, false, cond, refl, ap, subst, sym, ◌∙◌, append_assoc}
use Rattle.std.specs.Prelude.{All, Option, map}
use Rattle.std.specs.List.{AllByRecursion}
use Rattle.std.proofs.lemmas.Bool.{cases_lt}
use Rattle.std.proofs.lemmas.List.{append-nil, length-append, length-map, get_or_append_left}
use Rattle.std.proofs.lemmas.List.Elements.{All-head, All-tail}
use Rattle.std.proofs.lemmas.List.Sums.{sum_by-cons}
use Rattle.std.proofs.Math.Seq.{get_or-append_seam}
use Rattle.cedr_base.specs.declared.field.Field.{Field}
use Rattle.cedr_base.specs.declared.field.FieldType.{FieldType}
use Rattle.cedr_base.specs.declared.row.Row.{Row}
use Rattle.cedr_plan.specs.declared.plan.NodeKind.{NodeKind}
use Rattle.cedr_plan.specs.declared.plan.NodeKind.TheVariants as kind
use Rattle.cedr_plan.specs.declared.plan.PlanNode.{PlanNode}
use Rattle.cedr_plan.specs.Drawn.{Node, node_of}
use Rattle.cedr_plan.specs.Nodes.{types_of, all_ports}
use Rattle.cedr_plan.specs.Places.{is_source, source_count}
use Rattle.cedr_plan.specs.Rules.{IsNode, AreNodes, FitsPorts}
use Rattle.cedr_plan.proofs.PlaceLemmas.{inputs_are, counted}
use Rattle.cedr_table.specs.Operators.{Tables, table_at}
use Rattle.cedr_query.specs.Queries.{input_tables, each_node, node_table, query}
use Rattle.op_node.specs.Meanings.{meaning_of}
use Rattle.op_node.specs.Ready.{IsReady}
use Rattle.op_node.specs.ReadyLaws.{node_ready}
use Rattle.plan_keys.specs.Keys.{KeyedPort, AreWide, FitPorts, KeepsKey, KeepsColumns, AreInPorts, AreKeyed, column_at, width_at, keyed_ports, source_ports, source_parts, AreSourceTables, key_part, key_parts}
use Rattle.plan_keys.proofs.Operators.{operator_keyed}
use Rattle.plan_keys.proofs.Widths.{typed, columns_there, result_wide}

-- ---- sources

-- a source's part is at its place, and its rows have the width
record IsPartOfSource (mine : Option Field → Bool) (column width place : ℕ) (ports : List KeyedPort) (tables : Tables) : Type 0 where
  part_is : table_at (key_parts mine ports tables) place ≡ key_part mine column (table_at tables place)
  wide : AreWide width (table_at tables place)

module _ (mine : Option Field → Bool) (columns : List ℕ) (n : PlanNode) (after : List PlanNode) (is : is_source n.kind ≡ true) where
  own_part : (place : ℕ) (b : Bool) (tables : Tables) → b ≡ true → FitPorts (cond b (record { column = column_at columns place; width = length n.types.items } ∷ source_ports columns after (place + 1)) (source_ports columns after (place + 1))) tables
      → IsPartOfSource mine (column_at columns place) (length n.types.items) 0 (cond b (record { column = column_at columns place; width = length n.types.items } ∷ source_ports columns after (place + 1)) (source_ports columns after (place + 1))) tables
  own_part place true [] e fit = absurd fit
  own_part place true (t ∷ ts) e fit = record { part_is = refl; wide = fit.0 }
  own_part place false tables e fit = cc

  further : (p : KeyedPort) (ports : List KeyedPort) (b : Bool) (column count : ℕ) (tables : Tables) → FitPorts (cond b (p ∷ ports) ports) tables → ((ts : Tables) → FitPorts ports ts → IsPartOfSource mine column (length n.types.items) count ports ts)
      → IsPartOfSource mine column (length n.types.items) (cond b 1 0 + count) (cond b (p ∷ ports) ports) tables
  further p ports true column count [] fit rest = absurd fit
  further p ports true column count (t ∷ ts) fit rest =
      let r = rest ts fit.1 in
      let one : 1 + count ≡ suc count = omega arith in
      subst (λ (k : ℕ). IsPartOfSource mine column (length n.types.items) k (p ∷ ports) (t ∷ ts)) (sym one) (record { part_is = r.part_is; wide = r.wide })
  further p ports false column count tables fit rest = subst (λ (k : ℕ). IsPartOfSource mine column (length n.types.items) k ports tables) (let e : count ≡ 0 + count = omega arith in e) (rest tables fit)

  source_part : (before : List PlanNode) (place : ℕ) (tables : Tables) → FitPorts (source_ports columns (before ++ n ∷ after) place) tables
      → IsPartOfSource mine (column_at columns (place + length before)) (length n.types.items) (source_count before) (source_ports columns (before ++ n ∷ after) place) tables
  source_part [] place tables fit =
      subst (λ (k : ℕ). IsPartOfSource mine (column_at columns k) (length n.types.items) 0 (source_ports columns (n ∷ after) place) tables) (let e : place ≡ place + 0 = omega arith in e) (own_part place (is_source n.kind) tables is fit)
  source_part (x ∷ before) place tables fit =
      let ports = source_ports columns (before ++ n ∷ after) (place + 1) in
      let all = source_ports columns (x ∷ before ++ n ∷ after) place in
      let there : (place + 1) + length before ≡ place + length (x ∷ before) = omega arith in
      let count : counted x + source_count before ≡ source_count (x ∷ before) = omega (arith, sum_by-cons counted x before) in
      subst (λ (k : ℕ). IsPartOfSource mine (column_at columns (place + length (x ∷ before))) (length n.types.items) k all tables) count
      (subst (λ (k : ℕ). IsPartOfSource mine (column_at columns k) (length n.types.items) (counted x + source_count before) all tables) there
      (further (record { column = column_at columns place; width = length x.types.items }) ports (is_source x.kind) (column_at columns ((place + 1) + length before)) (source_count before) tables fit (λ ts f. source_part before (place + 1) ts f)))

-- the key columns don't matter for the widths
other_columns : (columns others : List ℕ) (nodes : List PlanNode) (place : ℕ) (tables : Tables) → FitPorts (source_ports others nodes place) tables → FitPorts (source_ports columns nodes place) tables
other_columns columns others [] place tables fit = fit
other_columns columns others (n ∷ nodes) place tables fit = one (is_source n.kind) tables fit (λ ts f. other_columns columns others nodes (place + 1) ts f) where
  one : (b : Bool) (ts : Tables) → FitPorts (cond b (record { column = column_at others place; width = length n.types.items } ∷ source_ports others nodes (place + 1)) (source_ports others nodes (place + 1))) ts
      → ((us : Tables) → FitPorts (source_ports others nodes (place + 1)) us → FitPorts (source_ports columns nodes (place + 1)) us)
      → FitPorts (cond b (record { column = column_at columns place; width = length n.types.items } ∷ source_ports columns nodes (place + 1)) (source_ports columns nodes (place + 1))) ts
  one true [] f rest = f
  one true (t ∷ ts) f rest = (f.0, rest ts f.1)
  one false ts f rest = rest ts f

-- ---- the nodes so far

-- there is a table for each of the nodes so far, and its rows have as many fields as the node's types say
record HaveWidths (before : List PlanNode) (done : Tables) : Type 0 where
  count : length done ≡ length before
  wide : (k : ℕ) → k < length before → AreWide (width_at before k) (table_at done k)

-- the tables over the parts are the parts of the tables
record AreParted (mine : Option Field → Bool) (columns : List ℕ) (before : List PlanNode) (done parted : Tables) : Type 0 where
  count : length parted ≡ length before
  parts : (k : ℕ) → k < length before → table_at parted k ≡ key_part mine (column_at columns k) (table_at done k)

types_before : (before : List Node) (n : Node) (k : ℕ) → k < length before → types_of (before ++ n ∷ []) k ≡ types_of before k
types_before [] n k h = absurd (omega arith)
types_before (b ∷ before) n zero h = refl
types_before (b ∷ before) n (suc k) h = types_before before n k (omega arith)

types_last : (before : List Node) (n : Node) → types_of (before ++ n ∷ []) (length before) ≡ n.types
types_last [] n = refl
types_last (b ∷ before) n = types_last before n

map_last : (before : List PlanNode) (n : PlanNode) → map node_of (before ++ n ∷ []) ≡ map node_of before ++ node_of n ∷ []
map_last [] n = refl
map_last (b ∷ before) n = ap (λ (ns : List Node). node_of b ∷ ns) (map_last before n)

width_before : (before : List PlanNode) (n : PlanNode) (k : ℕ) → k < length before → width_at (before ++ n ∷ []) k ≡ width_at before k
width_before before n k h =
    ap (λ (ns : List Node). length (types_of ns k)) (map_last before n) ∙ ap (λ (ts : List FieldType). length ts) (types_before (map node_of before) (node_of n) k (let len = length-map before node_of in omega (arith, len)))

width_last : (before : List PlanNode) (n : PlanNode) → width_at (before ++ n ∷ []) (length before) ≡ length n.types.items
width_last before n =
    ap (λ (ns : List Node). length (types_of ns (length before))) (map_last before n)
    ∙ (ap (λ (k : ℕ). length (types_of (map node_of before ++ node_of n ∷ []) k)) (sym (length-map before node_of)) ∙ ap (λ (ts : List FieldType). length ts) (types_last (map node_of before) (node_of n)))

last_is : (xs : Tables) (x : List Row) (k : ℕ) → k ≡ length xs → table_at (xs ++ x ∷ []) k ≡ x
last_is xs x k e = ap (λ (n : ℕ). get_or (xs ++ x ∷ []) n []) e ∙ get_or-append_seam xs x [] []

-- the widths with one node more
one_wide : (before : List PlanNode) (n : PlanNode) (done : Tables) (t : List Row) → HaveWidths before done → AreWide (length n.types.items) t → HaveWidths (before ++ n ∷ []) (done ++ t ∷ [])
one_wide before n done t have wide =
    let len = length-append before (n ∷ []) in
    record {
      count = omega (arith, have.count, len, length-append done (t ∷ []));
      wide = λ k h. elim (cases_lt k (length before)) [
        | inl low ↦ subst (λ (w : ℕ). AreWide w (table_at (done ++ t ∷ []) k)) (sym (width_before before n k low)) (subst (λ (rows : List Row). AreWide (width_at before k) rows) (sym (get_or_append_left done (t ∷ []) [] k (omega (arith, low, have.count)))) (have.wide k low))
        | inr high ↦ (let here : k ≡ length before = omega (arith, h, high, len) in
            subst (λ (j : ℕ). AreWide (width_at (before ++ n ∷ []) j) (table_at (done ++ t ∷ []) j)) (sym here)
            (subst (λ (w : ℕ). AreWide w (table_at (done ++ t ∷ []) (length before))) (sym (width_last before n)) (subst (λ (rows : List Row). AreWide (length n.types.items) rows) (sym (last_is done t (length before) (sym have.count))) wide)))
      ];
    }

-- the ports of a node read tables of their widths
ports_wide : (before : List PlanNode) (done : Tables) (inputs : List ℕ) → HaveWidths before done → All (λ (place : ℕ). place < length before) inputs → FitPorts (map typed (map (types_of (map node_of before)) inputs)) (map (table_at done) inputs)
ports_wide before done [] have within = tt
ports_wide before done (i ∷ inputs) have within = (have.wide i (All-head (λ (place : ℕ). place < length before) i inputs within), ports_wide before done inputs have (All-tail (λ (place : ℕ). place < length before) i inputs within))

module _ (mine : Option Field → Bool) (columns : List ℕ) where
  -- the parts with one node more
  one_parted : (before : List PlanNode) (n : PlanNode) (done parted : Tables) (t u : List Row) → length done ≡ length before → AreParted mine columns before done parted → u ≡ key_part mine (column_at columns (length before)) t → AreParted mine columns (before ++ n ∷ []) (done ++ t ∷ []) (parted ++ u ∷ [])
  one_parted before n done parted t u size are is =
      let len = length-append before (n ∷ []) in
      record {
        count = omega (arith, are.count, len, length-append parted (u ∷ []));
        parts = λ k h. elim (cases_lt k (length before)) [
          | inl low ↦ get_or_append_left parted (u ∷ []) [] k (omega (arith, low, are.count)) ∙ (are.parts k low ∙ sym (ap (key_part mine (column_at columns k)) (get_or_append_left done (t ∷ []) [] k (omega (arith, low, size)))))
          | inr high ↦ (let here : k ≡ length before = omega (arith, h, high, len) in
              last_is parted u k (here ∙ sym are.count) ∙ (is ∙ (ap (λ (j : ℕ). key_part mine (column_at columns j) t) (sym here) ∙ sym (ap (key_part mine (column_at columns k)) (last_is done t k (here ∙ sym size))))))
        ];
      }

  -- the ports of a node have the widths of the nodes that they read
  ports_fit : (before : List PlanNode) (done : Tables) (inputs : List ℕ) → HaveWidths before done → All (λ (place : ℕ). place < length before) inputs → FitPorts (map (λ place. record { column = column_at columns place; width = width_at before place }) inputs) (map (table_at done) inputs)
  ports_fit before done [] have within = tt
  ports_fit before done (i ∷ inputs) have within = (have.wide i (All-head (λ (place : ℕ). place < length before) i inputs within), ports_fit before done inputs have (All-tail (λ (place : ℕ). place < length before) i inputs within))

  -- and over the parts they read the parts
  ports_parted : (before : List PlanNode) (done parted : Tables) (inputs : List ℕ) → AreParted mine columns before done parted → All (λ (place : ℕ). place < length before) inputs
      → map (table_at parted) inputs ≡ key_parts mine (map (λ place. record { column = column_at columns place; width = width_at before place }) inputs) (map (table_at done) inputs)
  ports_parted before done parted [] are within = refl
  ports_parted before done parted (i ∷ inputs) are within =
      ap (λ (t : List Row). t ∷ map (table_at parted) inputs) (are.parts i (All-head (λ (place : ℕ). place < length before) i inputs within))
      ∙ ap (λ (ts : Tables). key_part mine (column_at columns i) (table_at done i) ∷ ts) (ports_parted before done parted inputs are (All-tail (λ (place : ℕ). place < length before) i inputs within))

-- ---- a node that is no source

on_ports : (keep : List ℕ) (columns : List ℕ) (before : List PlanNode) (inputs : List ℕ) → length inputs ≡ 1 → AllByRecursion (λ k. k < length (all_ports (map (types_of (map node_of before)) inputs))) keep
    → AreInPorts keep (map (λ place. record { column = column_at columns place; width = width_at before place }) inputs)
on_ports keep columns before [] one below = absurd (omega arith)
on_ports keep columns before (i ∷ []) one below = (subst (λ (w : ℕ). AllByRecursion (λ k. k < w) keep) (let types = types_of (map node_of before) i in let same : length (types ++ []) ≡ length types = omega (arith, length-append types []) in same) below, tt)
on_ports keep columns before (i ∷ j ∷ inputs) one below = absurd (omega arith)

-- the columns that a node of a plan keeps are on its ports
pub columns_kept : (what : NodeKind) (columns : List ℕ) (before : List PlanNode) (inputs : List ℕ) → is_source what ≡ false → IsReady what (length inputs) → FitsPorts what (map (types_of (map node_of before)) inputs)
    → KeepsColumns what (map (λ place. record { column = column_at columns place; width = width_at before place }) inputs)
columns_kept (kind.Source file) columns before inputs isnt ready fits = cc
columns_kept (kind.Select tests) columns before inputs isnt ready fits = tt
columns_kept (kind.Project keep) columns before inputs isnt ready fits = on_ports keep columns before inputs ready (columns_there keep (all_ports (map (types_of (map node_of before)) inputs)) fits)
columns_kept kind.Union columns before inputs isnt ready fits = tt
columns_kept (kind.Join tests) columns before inputs isnt ready fits = tt
columns_kept (kind.Window width) columns before inputs isnt ready fits = tt
columns_kept (kind.Shift by) columns before inputs isnt ready fits = tt
columns_kept (kind.Hop every width) columns before inputs isnt ready fits = tt
columns_kept kind.Starts columns before inputs isnt ready fits = tt
columns_kept kind.Ends columns before inputs isnt ready fits = tt
columns_kept (kind.Group keys count sums least greatest) columns before inputs isnt ready fits = on_ports keys columns before inputs ready (columns_there keys (all_ports (map (types_of (map node_of before)) inputs)) fits.0)
columns_kept (kind.Sequence scope tests) columns before inputs isnt ready fits = tt
columns_kept (kind.Unless scope hold tests) columns before inputs isnt ready fits = tt
columns_kept (kind.AtLeast number scope tests) columns before inputs isnt ready fits = tt
columns_kept (kind.Except tests) columns before inputs isnt ready fits = tt
columns_kept kind.Output columns before inputs isnt ready fits = tt

-- ---- the induction

module _ (all : List PlanNode) (sources : Tables) (fit : AreSourceTables all sources) where
  own_source : (mine : Option Field → Bool) (columns : List ℕ) (before after : List PlanNode) (n : PlanNode) → all ≡ before ++ n ∷ after → is_source n.kind ≡ true
      → IsPartOfSource mine (column_at columns (0 + length before)) (length n.types.items) (source_count before) (source_ports columns all 0) sources
  own_source mine columns before after n whole source =
      let fits = subst (λ (ns : List PlanNode). FitPorts (source_ports columns ns 0) sources) whole (other_columns columns [] all 0 sources fit) in
      subst (λ (ns : List PlanNode). IsPartOfSource mine (column_at columns (0 + length before)) (length n.types.items) (source_count before) (source_ports columns ns 0) sources) (sym whole) (source_part mine columns n after source before 0 sources fits)

  node_wide : (before after : List PlanNode) (n : PlanNode) (done : Tables) → all ≡ before ++ n ∷ after → IsNode (map node_of before) (node_of n) → HaveWidths before done
      → (b : Bool) → is_source n.kind ≡ b → AreWide (length n.types.items) (cond b (table_at sources (source_count before)) ((meaning_of n).result (input_tables done n)))
  node_wide before after n done whole is have true source = (own_source (λ key. true) [] before after n whole source).wide
  node_wide before after n done whole is have false isnt =
      let inputs = n.inputs.items in
      let count : length inputs ≡ length (map (types_of (map node_of before)) inputs) = sym (length-map inputs (types_of (map node_of before))) in
      result_wide n.kind (length inputs) (map (types_of (map node_of before)) inputs) n.types.items (input_tables done n) isnt (subst (λ (k : ℕ). IsReady n.kind k) count (node_ready (map node_of before) n is isnt)) is.fits is.types (ports_wide before done inputs have (inputs_are before n is))

  wide_nodes : (before nodes : List PlanNode) (done : Tables) → all ≡ before ++ nodes → AreNodes (map node_of before) (map node_of nodes) → HaveWidths before done → HaveWidths all (each_node (node_table sources) before done nodes)
  wide_nodes before [] done whole nodes have = subst (λ (bs : List PlanNode). HaveWidths bs done) (sym (whole ∙ append-nil before)) have
  wide_nodes before (n ∷ rest) done whole nodes have =
      wide_nodes (before ++ n ∷ []) rest (done ++ node_table sources before done n ∷ []) (whole ∙ sym (append_assoc before (n ∷ []) rest)) (subst (λ (earlier : List Node). AreNodes earlier (map node_of rest)) (sym (map_last before n)) nodes.1)
      (one_wide before n done (node_table sources before done n) have (node_wide before rest n done whole nodes.0 have (is_source n.kind) refl))

  -- each row of each node has as many fields as the node's types say
  pub wide_query : AreNodes [] (map node_of all) → (place : ℕ) → place < length all → AreWide (width_at all place) (table_at (query sources all) place)
  wide_query nodes = (wide_nodes [] all [] refl nodes (record { count = refl; wide = λ k h. absurd (omega arith) })).wide

  module _ (mine : Option Field → Bool) (columns : List ℕ) where
    node_parted : (before after : List PlanNode) (n : PlanNode) (done parted : Tables) → all ≡ before ++ n ∷ after → IsNode (map node_of before) (node_of n) → KeepsKey n.kind (keyed_ports columns before n) (column_at columns (length before)) → HaveWidths before done → AreParted mine columns before done parted
        → (b : Bool) → is_source n.kind ≡ b
        → cond b (table_at (source_parts mine columns all sources) (source_count before)) ((meaning_of n).result (input_tables parted n)) ≡ key_part mine (column_at columns (length before)) (cond b (table_at sources (source_count before)) ((meaning_of n).result (input_tables done n)))
    node_parted before after n done parted whole is keeps have are true source =
        let here : 0 + length before ≡ length before = omega arith in
        (own_source mine columns before after n whole source).part_is ∙ ap (λ (k : ℕ). key_part mine (column_at columns k) (table_at sources (source_count before))) here
    node_parted before after n done parted whole is keeps have are false isnt =
        let inputs = n.inputs.items in
        let within = inputs_are before n is in
        ap (λ (ts : Tables). (meaning_of n).result ts) (ports_parted mine columns before done parted inputs are within)
        ∙ operator_keyed n.kind (length inputs) (keyed_ports columns before n) (column_at columns (length before)) isnt keeps (columns_kept n.kind columns before inputs isnt (node_ready (map node_of before) n is isnt) is.fits) mine (input_tables done n) (ports_fit mine columns before done inputs have within)

    parted_nodes : (before nodes : List PlanNode) (done parted : Tables) → all ≡ before ++ nodes → AreNodes (map node_of before) (map node_of nodes) → AreKeyed columns before nodes → HaveWidths before done → AreParted mine columns before done parted
        → AreParted mine columns all (each_node (node_table sources) before done nodes) (each_node (node_table (source_parts mine columns all sources)) before parted nodes)
    parted_nodes before [] done parted whole nodes keyed have are = subst (λ (bs : List PlanNode). AreParted mine columns bs done parted) (sym (whole ∙ append-nil before)) are
    parted_nodes before (n ∷ rest) done parted whole nodes keyed have are =
        let t = node_table sources before done n in
        let u = node_table (source_parts mine columns all sources) before parted n in
        parted_nodes (before ++ n ∷ []) rest (done ++ t ∷ []) (parted ++ u ∷ []) (whole ∙ sym (append_assoc before (n ∷ []) rest)) (subst (λ (earlier : List Node). AreNodes earlier (map node_of rest)) (sym (map_last before n)) nodes.1) keyed.1
        (one_wide before n done t have (node_wide before rest n done whole nodes.0 have (is_source n.kind) refl))
        (one_parted mine columns before n done parted t u have.count are (node_parted before rest n done parted whole nodes.0 keyed.0 have are (is_source n.kind) refl))

    -- what the query over the parts has at each node
    pub parted_query : AreNodes [] (map node_of all) → AreKeyed columns [] all → (place : ℕ) → place < length all → table_at (query (source_parts mine columns all sources) all) place ≡ key_part mine (column_at columns place) (table_at (query sources all) place)
    parted_query nodes keyed = (parted_nodes [] all [] [] refl nodes keyed (record { count = refl; wide = λ k h. absurd (omega arith) }) (record { count = refl; parts = λ k h. absurd (omega arith) })).parts
