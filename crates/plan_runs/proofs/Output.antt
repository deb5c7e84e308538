-- What the output reads and gives, and its query.
use Rattle.std.proofs.Common.{◌≡◌, ℕ, zero, suc, ◌+◌, ◌<◌, List, [], ◌∷◌, ◌++◌, Bool, true, false, cond, length, replicate, get_or, refl, ap, subst, sym, ◌∙◌, arith, append_assoc}
use Rattle.std.specs.Prelude.{map, All}
use Rattle.std.proofs.lemmas.List.{append-nil, length-append, get_or_append_left}
use Rattle.std.proofs.lemmas.List.Elements.{All-head}
use Rattle.cedr_base.specs.declared.level.Level.{Level}
use Rattle.cedr_base.specs.declared.change.Message.{Message}
use Rattle.cedr_base.specs.Messages.{IsLegal}
use Rattle.cedr_table.specs.Operators.{Tables, Meaning, table_at, mark_at}
use Rattle.cedr_plan.specs.declared.plan.NodeKind.{NodeKind}
use Rattle.cedr_plan.specs.declared.plan.NodeKind.TheVariants as kind
use Rattle.cedr_plan.specs.declared.plan.PlanNode.{PlanNode}
use Rattle.cedr_plan.specs.Drawn.{node_of}
use Rattle.cedr_plan.specs.Rules.{AreNodes}
use Rattle.node_laws.specs.Lists.{Lists, list_at}
use Rattle.node_laws.specs.Pass.{pass}
use Rattle.node_laws.specs.Lawful.{IsLawful}
use Rattle.node_laws.proofs.Giving.{lawful_echo}
use Rattle.cedr_query.specs.Queries.{each_node, node_table, node_mark, query, reaches}
use Rattle.cedr_plan.specs.Places.{is_output, is_source, source_count}
use Rattle.cedr_plan.proofs.PlaceLemmas.{inputs_are}
use Rattle.op_node.specs.Meanings.{node_meaning, meaning_of, port_levels}
use Rattle.op_node.specs.Outputs.{handed_on}
use Rattle.op_node.specs.Ready.{IsReady}
use Rattle.op_node.specs.ReadyLaws.{node_ready}
use Rattle.plan_runs.proofs.EachNode.{get_or-last}
use Rattle.plan_runs.proofs.PlanNodes.{node_stands, place_within}

-- a kind that is that of an output is `Output`
pub output_kind : (k : NodeKind) → is_output k ≡ true → k ≡ kind.Output
output_kind kind.Output e = refl
output_kind other e = absurd (cc e)

module _ {X : Type 0} (make : List PlanNode → List X → PlanNode → X) (d : X) where
  each_append : (bs : List PlanNode) (done : List X) (xs ys : List PlanNode) → each_node make bs done (xs ++ ys) ≡ each_node make (bs ++ xs) (each_node make bs done xs) ys
  each_append bs done [] ys = ap (λ (b : List PlanNode). each_node make b done ys) (sym (append-nil bs))
  each_append bs done (x ∷ xs) ys =
      each_append (bs ++ x ∷ []) (done ++ make bs done x ∷ []) xs ys
      ∙ ap (λ (b : List PlanNode). each_node make b (each_node make (bs ++ x ∷ []) (done ++ make bs done x ∷ []) xs) ys) (append_assoc bs (x ∷ []) xs)

  each_keeps : (bs : List PlanNode) (done : List X) (ys : List PlanNode) (k : ℕ) → k < length done → get_or (each_node make bs done ys) k d ≡ get_or done k d
  each_keeps bs done [] k within = refl
  each_keeps bs done (y ∷ ys) k within =
      each_keeps (bs ++ y ∷ []) (done ++ make bs done y ∷ []) ys k (omega (arith, within, length-append done (make bs done y ∷ []))) ∙ get_or_append_left done (make bs done y ∷ []) d k within

  each_length : (bs : List PlanNode) (done : List X) (ys : List PlanNode) → length (each_node make bs done ys) ≡ length done + length ys
  each_length bs done [] = omega arith
  each_length bs done (y ∷ ys) = omega (arith, each_length (bs ++ y ∷ []) (done ++ make bs done y ∷ []) ys, length-append done (make bs done y ∷ []))

  -- the value of a node is made of those before it
  pub each_at : (nodes before after : List PlanNode) (n : PlanNode) → nodes ≡ before ++ n ∷ after → get_or (each_node make [] [] nodes) (length before) d ≡ make before (each_node make [] [] before) n
  each_at nodes before after n whole =
      let made = each_node make [] [] before in
      let len = each_length [] [] before in
      ap (λ (ns : List PlanNode). get_or (each_node make [] [] ns) (length before) d) whole
      ∙ (ap (λ (xs : List X). get_or xs (length before) d) (each_append [] [] before (n ∷ after))
      ∙ (each_keeps (before ++ n ∷ []) (each_node make [] [] before ++ make before (each_node make [] [] before) n ∷ []) after (length before) (omega (arith, len, length-append made (make before made n ∷ [])))
      ∙ get_or-last made (make before made n) d (length before) (omega (arith, len))))

  -- and the values before it are as they were
  pub each_before : (nodes before after : List PlanNode) (n : PlanNode) (k : ℕ) → nodes ≡ before ++ n ∷ after → k < length before → get_or (each_node make [] [] nodes) k d ≡ get_or (each_node make [] [] before) k d
  each_before nodes before after n k whole within =
      ap (λ (ns : List PlanNode). get_or (each_node make [] [] ns) k d) whole
      ∙ (ap (λ (xs : List X). get_or xs k d) (each_append [] [] before (n ∷ after)) ∙ each_keeps before (each_node make [] [] before) (n ∷ after) k (omega (arith, within, each_length [] [] before)))

-- a list of one place is that place
pub one_input : (xs : List ℕ) → length xs ≡ 1 → (i : ℕ) × (xs ≡ i ∷ [])
one_input [] h = absurd (omega arith)
one_input (x ∷ []) h = (x, refl)
one_input (x ∷ (y ∷ xs)) h = absurd (omega arith)

-- a choice by a test that fails
pub not_source : {X : Type 0} (b : Bool) (x y : X) → b ≡ false → cond b x y ≡ y
not_source true x y e = cc
not_source false x y e = refl

first_is : (a b : List Message) → a ∷ [] ≡ b ∷ [] → a ≡ b
first_is a b e = ap (λ (ls : Lists). list_at ls 0) e

each_legal : (l : List Message) → IsLegal l → (port : ℕ) → IsLegal (list_at (l ∷ []) port)
each_legal l legal zero = legal
each_legal l legal (suc port) = tt

module _ (nodes : List PlanNode) (are : AreNodes [] (map node_of nodes)) (before after : List PlanNode) (n : PlanNode) (whole : nodes ≡ before ++ n ∷ after) (out : n.kind ≡ kind.Output) where
  -- an output is no source
  pub isnt : is_source n.kind ≡ false
  isnt = ap is_source out

  pub meaning_is : meaning_of n ≡ handed_on
  meaning_is = ap (λ (k : NodeKind). node_meaning k (length n.inputs.items)) out

  -- it reads one node
  pub input : (i : ℕ) × (n.inputs.items ≡ i ∷ [])
  input = one_input n.inputs.items (subst (λ (k : NodeKind). IsReady k (length n.inputs.items)) out (node_ready (map node_of before) n (node_stands nodes before after n are whole) isnt))

  -- which stands before it
  pub earlier : input.0 < length before
  earlier = All-head (λ (place : ℕ). place < length before) input.0 [] (subst (All (λ (place : ℕ). place < length before)) input.1 (inputs_are before n (node_stands nodes before after n are whole)))

  pub inside : input.0 < length nodes
  inside = let e = earlier in let w = place_within nodes before after n whole in omega arith

  -- the output's query is that of the node that it reads
  pub query_same : (tables : Tables) → table_at (query tables nodes) (length before) ≡ table_at (query tables nodes) input.0
  query_same tables =
      each_at (node_table tables) [] nodes before after n whole
      ∙ (not_source (is_source n.kind) (table_at tables (source_count before)) ((meaning_of n).result (map (table_at (query tables before)) n.inputs.items)) isnt
      ∙ (ap (λ (m : Meaning). m.result (map (table_at (query tables before)) n.inputs.items)) meaning_is
      ∙ (ap (λ (xs : List ℕ). table_at (map (table_at (query tables before)) xs) 0) input.1
      ∙ sym (each_before (node_table tables) [] nodes before after n input.0 whole earlier))))

  -- and so is its reach
  pub reach_same : (tables : Tables) (marks : List ℕ) → mark_at (reaches tables marks nodes) (length before) ≡ mark_at (reaches tables marks nodes) input.0
  reach_same tables marks =
      let make = node_mark (query tables nodes) marks in
      each_at make 0 nodes before after n whole
      ∙ (not_source (is_source n.kind) (mark_at marks (source_count before)) ((meaning_of n).bound (map (table_at (query tables nodes)) n.inputs.items) (map (mark_at (each_node make [] [] before)) n.inputs.items)) isnt
      ∙ (ap (λ (m : Meaning). m.bound (map (table_at (query tables nodes)) n.inputs.items) (map (mark_at (each_node make [] [] before)) n.inputs.items)) meaning_is
      ∙ (ap (λ (xs : List ℕ). mark_at (map (mark_at (each_node make [] [] before)) xs) 0) input.1
      ∙ sym (each_before make 0 nodes before after n input.0 whole earlier))))

  -- what it gave is what its port passed on of the list there
  pub passed_on : (lists : Lists) (l given : List Message) → lists ≡ l ∷ [] → IsLegal l → IsLawful (meaning_of n) (port_levels n) lists given → pass n.level l ≡ given
  passed_on lists l given alone legal lawful =
      let echoes : (meaning_of n).echoes ≡ true = ap (λ (m : Meaning). m.echoes) meaning_is in
      let levels : port_levels n ≡ n.level ∷ [] = ap (λ (xs : List ℕ). replicate (length xs) n.level) input.1 in
      first_is (pass n.level l) given
      (lawful_echo (meaning_of n) echoes (n.level ∷ []) (l ∷ []) given
      (subst (λ (vs : List Level). IsLawful (meaning_of n) vs (l ∷ []) given) levels (subst (λ (ls : Lists). IsLawful (meaning_of n) (port_levels n) ls given) alone lawful)) (each_legal l legal) refl)
