-- Over middle levels what stands at a node is its table in the query, and how far that reaches; a strong output passes the rows that end before that.
use Rattle.std.proofs.Common.{◌≡◌, ℕ, ◌+◌, ◌<◌, inl, inr, List, [], ◌∷◌, ◌++◌, Bool, true, false, cond, length, get_or, refl, ap, subst, sym, ◌∙◌, arith}
use Rattle.std.specs.Prelude.{map, All, Option, Some, None, nat_lt}
use Rattle.std.specs.List.{filter}
use Rattle.std.proofs.lemmas.Bool.{cases_lt}
use Rattle.std.proofs.lemmas.List.Elements.{All-head, All-tail}
use Rattle.std.proofs.Math.Seq.{get_or-append_seam}
use Rattle.cedr_base.specs.declared.row.Row.{Row}
use Rattle.cedr_table.specs.Operators.{Tables, table_at, mark_at}
use Rattle.cedr_plan.specs.declared.plan.NodeKind.TheVariants as kind
use Rattle.cedr_plan.specs.declared.plan.PlanNode.{PlanNode}
use Rattle.cedr_plan.specs.Drawn.{node_of}
use Rattle.cedr_plan.specs.Rules.{AreNodes, ArePlanned}
use Rattle.cedr_plan.specs.Places.{is_source, output_place, source_count}
use Rattle.cedr_plan.proofs.PlaceLemmas.{inputs_are, output_among, place_among, planned_nodes}
use Rattle.cedr_query.specs.Queries.{input_tables, input_marks, each_node, node_table, node_mark, query, reaches}
use Rattle.op_node.specs.Meanings.{meaning_of}
use Rattle.plan_runs.specs.Middle.{IsMiddle, AreMiddle}
use Rattle.plan_runs.specs.Now.{Standing, standing_at, inputs_standing, passed_now, front_now, made_now, node_now, standings, now, CanSave, AllCanSave}
use Rattle.plan_runs.proofs.EachNode.{by_nodes}
use Rattle.plan_runs.proofs.NowOutput.{output_standing, now_is}
use Rattle.plan_runs.proofs.Output.{output_kind, each_at, each_before, not_source, input, earlier, inside, query_same, reach_same}
use Rattle.plan_runs.proofs.PlanNodes.{node_stands, split}

abbrev standing : List Row → ℕ → Standing
standing rows mark = record { table = rows; mark = mark }

standing_is : (a b : List Row) (m n : ℕ) → a ≡ b → m ≡ n → standing a m ≡ standing b n
standing_is a b m n e f = ap (λ (rows : List Row). standing rows m) e ∙ ap (λ (k : ℕ). standing b k) f

own_source : {X : Type 0} (b : Bool) (x y : X) → b ≡ true → cond b x y ≡ x
own_source true x y e = refl
own_source false x y e = cc

-- values that are the same at places before one are the same at inputs there
same_inputs : {X : Type 0} (f g : ℕ → X) (n : ℕ) → ((k : ℕ) → k < n → f k ≡ g k) → (inputs : List ℕ) → All (λ (place : ℕ). place < n) inputs → map f inputs ≡ map g inputs
same_inputs f g n same [] within = refl
same_inputs f g n same (i ∷ inputs) within =
    let a = same i (All-head (λ (place : ℕ). place < n) i inputs within) in
    let b = same_inputs f g n same inputs (All-tail (λ (place : ℕ). place < n) i inputs within) in
    cc

module _ (nodes : List PlanNode) (tables : Tables) (marks : List ℕ) (are : AreNodes [] (map node_of nodes)) where
  -- what the query has at a place, and how far it reaches there
  abbrev query_at : ℕ → Standing
  query_at k = standing (table_at (query tables nodes) k) (mark_at (reaches tables marks nodes) k)

  module _ (before after : List PlanNode) (n : PlanNode) (whole : nodes ≡ before ++ n ∷ after) where
    within : All (λ (place : ℕ). place < length before) n.inputs.items
    within = inputs_are before n (node_stands nodes before after n are whole)

    source_table : is_source n.kind ≡ true → table_at (query tables nodes) (length before) ≡ table_at tables (source_count before)
    source_table is = each_at (node_table tables) [] nodes before after n whole ∙ own_source (is_source n.kind) _ _ is

    source_mark : is_source n.kind ≡ true → mark_at (reaches tables marks nodes) (length before) ≡ mark_at marks (source_count before)
    source_mark is = each_at (node_mark (query tables nodes) marks) 0 nodes before after n whole ∙ own_source (is_source n.kind) _ _ is

    made_table : is_source n.kind ≡ false → table_at (query tables nodes) (length before) ≡ (meaning_of n).result (input_tables (query tables nodes) n)
    made_table isnt =
        each_at (node_table tables) [] nodes before after n whole
        ∙ (not_source (is_source n.kind) _ ((meaning_of n).result (input_tables (query tables before) n)) isnt
        ∙ ap (λ (ts : Tables). (meaning_of n).result ts)
        (same_inputs (table_at (query tables before)) (table_at (query tables nodes)) (length before) (λ k h. sym (each_before (node_table tables) [] nodes before after n k whole h)) n.inputs.items within))

    made_mark : is_source n.kind ≡ false → mark_at (reaches tables marks nodes) (length before) ≡ (meaning_of n).bound (input_tables (query tables nodes) n) (input_marks (reaches tables marks nodes) n)
    made_mark isnt =
        let make = node_mark (query tables nodes) marks in
        each_at make 0 nodes before after n whole
        ∙ (not_source (is_source n.kind) _ ((meaning_of n).bound (input_tables (query tables nodes) n) (input_marks (each_node (node_mark (query tables nodes) marks) [] [] before) n)) isnt
        ∙ ap (λ (ms : List ℕ). (meaning_of n).bound (input_tables (query tables nodes) n) ms)
        (same_inputs (mark_at (each_node (node_mark (query tables nodes) marks) [] [] before)) (mark_at (reaches tables marks nodes)) (length before) (λ k h. sym (each_before make 0 nodes before after n k whole h)) n.inputs.items within))

    -- middle ports pass the query, with fronts as far as it reaches
    passed_middle : (done : List Standing) → ((k : ℕ) → k < length before → standing_at done k ≡ query_at k) → (inputs : List ℕ) → All (λ (place : ℕ). place < length before) inputs
        → (map (passed_now (Some 0)) (map (standing_at done) inputs) ≡ map (table_at (query tables nodes)) inputs) × (map (front_now (Some 0)) (map (standing_at done) inputs) ≡ map (mark_at (reaches tables marks nodes)) inputs)
    passed_middle done good [] w = (refl, refl)
    passed_middle done good (i ∷ inputs) w =
        let here = good i (All-head (λ (place : ℕ). place < length before) i inputs w) in
        let rest = passed_middle done good inputs (All-tail (λ (place : ℕ). place < length before) i inputs w) in
        let a = ap (λ (s : Standing). s.table) here in
        let b = ap (λ (s : Standing). s.mark) here in
        let c = rest.0 in
        let d = rest.1 in
        (cc, cc)

    middle_at : (done : List Standing) → IsMiddle n.level → ((k : ℕ) → k < length before → standing_at done k ≡ query_at k) → (b : Bool) → is_source n.kind ≡ b
        → cond b (standing (table_at tables (source_count before)) (mark_at marks (source_count before))) (made_now n (inputs_standing done n)) ≡ query_at (length before)
    middle_at done middle good true is = standing_is _ _ _ _ (sym (source_table is)) (sym (source_mark is))
    middle_at done middle good false isnt =
        let p = passed_middle done good n.inputs.items within in
        let ts : map (passed_now n.level.block) (inputs_standing done n) ≡ input_tables (query tables nodes) n = ap (λ (b : Option ℕ). map (passed_now b) (inputs_standing done n)) middle.block ∙ p.0 in
        let ms : map (front_now n.level.block) (inputs_standing done n) ≡ input_marks (reaches tables marks nodes) n = ap (λ (b : Option ℕ). map (front_now b) (inputs_standing done n)) middle.block ∙ p.1 in
        standing_is _ _ _ _ (ap (λ (xs : Tables). (meaning_of n).result xs) ts ∙ sym (made_table isnt))
        (ap (λ (xs : Tables). (meaning_of n).bound xs (map (front_now n.level.block) (inputs_standing done n))) ts ∙ (ap (λ (xs : List ℕ). (meaning_of n).bound (input_tables (query tables nodes) n) xs) ms ∙ sym (made_mark isnt)))

  -- what stands at a node up to which all levels are middle
  pub middle_now : (count : ℕ) → AreMiddle count nodes → (k : ℕ) → k < length nodes → k < count → standing_at (standings tables marks nodes) k ≡ record { table = table_at (query tables nodes) k; mark = mark_at (reaches tables marks nodes) k }
  middle_now count middle =
      by_nodes nodes (λ (k : ℕ) (s : Standing). k < count → s ≡ query_at k) (record { table = []; mark = 0 }) (node_now tables marks)
      (λ before after n done whole len good early. middle_at before after n whole done (middle before after n whole early) (λ k h. good k h (omega arith)) (is_source n.kind) refl)

  module _ (before after : List PlanNode) (n : PlanNode) (whole : nodes ≡ before ++ n ∷ after) (middle : AreMiddle (length before) nodes) (out : n.kind ≡ kind.Output) where
    abbrev fed : ℕ
    fed = (input nodes are before after n whole out).0

    fed_query : standing_at (standings tables marks nodes) fed ≡ query_at fed
    fed_query = middle_now (length before) middle fed (inside nodes are before after n whole out) (earlier nodes are before after n whole out)

    -- what an output after middle nodes reads
    pub feeder_is : standing_at (standings tables marks nodes) fed ≡ query_at (length before)
    feeder_is = fed_query ∙ standing_is _ _ _ _ (sym (query_same nodes are before after n whole out tables)) (sym (reach_same nodes are before after n whole out tables marks))

    -- and what it shows
    pub output_shows : length before ≡ output_place nodes → now tables marks nodes ≡ record { table = passed_now n.level.block (query_at (length before)); mark = mark_at (reaches tables marks nodes) (length before) }
    output_shows place = now_is nodes are before after n whole out tables marks place ∙ ap {B = Standing} (λ (s : Standing). record { table = passed_now n.level.block s; mark = s.mark }) feeder_is

    -- what stands at a strong output after middle nodes
    pub strong_now : n.level.block ≡ None → (standing_at (standings tables marks nodes) (length before)).table ≡ filter (λ (r : Row). nat_lt r.end (mark_at (reaches tables marks nodes) (length before))) (table_at (query tables nodes) (length before))
    strong_now block =
        output_standing nodes are before after n whole out tables marks
        ∙ (ap (passed_now n.level.block) feeder_is ∙ ap (λ (b : Option ℕ). passed_now b (query_at (length before))) block)

-- ---- what a plan shows

-- where all levels up to the output are middle
pub middle_output : (nodes : List PlanNode) (count : ℕ) (tables : Tables) (marks : List ℕ) → ArePlanned nodes → AreMiddle count nodes → output_place nodes < count
    → now tables marks nodes ≡ record { table = table_at (query tables nodes) (output_place nodes); mark = mark_at (reaches tables marks nodes) (output_place nodes) }
middle_output nodes count tables marks planned middle among =
    let are = planned_nodes nodes planned in
    let s = split nodes (output_place nodes) (place_among nodes planned) in
    let out = output_kind s.node.kind (output_among nodes s.before s.after s.node planned s.whole s.place) in
    let earlier_middle : AreMiddle (length s.before) nodes = λ before after n whole low. middle before after n whole (omega (arith, low, s.place, among)) in
    let level = middle s.before s.after s.node s.whole (omega (arith, s.place, among)) in
    output_shows nodes tables marks are s.before s.after s.node s.whole earlier_middle out s.place
    ∙ (ap {B = Standing} (λ (b : Option ℕ). record { table = passed_now b (query_at nodes tables marks are (length s.before)); mark = mark_at (reaches tables marks nodes) (length s.before) }) level.block
    ∙ ap (query_at nodes tables marks are) s.place)

-- where all before the output are, and it is strong
pub strong_output : (nodes : List PlanNode) (tables : Tables) (marks : List ℕ) → ArePlanned nodes → (before after : List PlanNode) (n : PlanNode) → nodes ≡ before ++ n ∷ after → length before ≡ output_place nodes → AreMiddle (length before) nodes → n.level.block ≡ None
    → now tables marks nodes
    ≡ record { table = filter (λ (r : Row). nat_lt r.end (mark_at (reaches tables marks nodes) (output_place nodes))) (table_at (query tables nodes) (output_place nodes)); mark = mark_at (reaches tables marks nodes) (output_place nodes) }
strong_output nodes tables marks planned before after n whole place middle block =
    let are = planned_nodes nodes planned in
    let out = output_kind n.kind (output_among nodes before after n planned whole place) in
    output_shows nodes tables marks are before after n whole middle out place
    ∙ (ap {B = Standing} (λ (b : Option ℕ). record { table = passed_now b (query_at nodes tables marks are (length before)); mark = mark_at (reaches tables marks nodes) (length before) }) block
    ∙ ap {B = Standing} (λ (k : ℕ). record { table = passed_now None (query_at nodes tables marks are k); mark = mark_at (reaches tables marks nodes) k }) place)

-- ---- levels

-- middle levels are levels at which what stands at a node is all that counts
pub middle_saves : (count : ℕ) (nodes : List PlanNode) → AreMiddle count nodes → AllCanSave count nodes
middle_saves count nodes middle before after n whole early = let m = middle before after n whole early in record { block = inl m.block; memory = m.memory }

-- at a place stands one node
one_cut : (nodes before after others more : List PlanNode) (n m : PlanNode) → nodes ≡ before ++ n ∷ after → nodes ≡ others ++ m ∷ more → length others ≡ length before → m ≡ n
one_cut nodes before after others more n m whole whole' same =
    sym (get_or-append_seam others m more n)
    ∙ (ap (λ (ns : List PlanNode). get_or ns (length others) n) (sym whole' ∙ whole) ∙ (ap (λ (k : ℕ). get_or (before ++ n ∷ after) k n) same ∙ get_or-append_seam before n after n))

-- so are middle levels and then a strong one without a memory
pub strong_saves : (nodes before after : List PlanNode) (n : PlanNode) → nodes ≡ before ++ n ∷ after → AreMiddle (length before) nodes → n.level.block ≡ None → n.level.memory ≡ None → AllCanSave (length before + 1) nodes
strong_saves nodes before after n whole middle block memory others more m whole' early = elim (cases_lt (length others) (length before)) [
  | inl h ↦ middle_saves (length before) nodes middle others more m whole' h
  | inr h ↦ subst (λ (x : PlanNode). CanSave x.level) (sym (one_cut nodes before after others more n m whole whole' (omega arith))) (record { block = inr block; memory = memory })
]
