-- The nodes of a plan, each cut before its first break, make a partial run.
use Rattle.std.proofs.Common.{◌≡◌, ℕ, zero, suc, ◌<◌, Bool, true, false, ◌||◌, List, [], ◌∷◌, ◌++◌, length, map, refl, sym, ap, ◌∙◌, subst, arith, slice_index_or, replicate}
use Rattle.std.specs.List.{All}
use Rattle.std.proofs.lemmas.List.Elements.{All-head, All-tail}
use Rattle.std.proofs.Math.ListN.{get_or-map}
use Rattle.cedr_base.specs.declared.change.Message.{Message}
use Rattle.cedr_base.specs.declared.level.Level.{Level}
use Rattle.cedr_base.specs.Messages.{IsLegal}
use Rattle.change_laws.proofs.Legal.{legal_first}
use Rattle.cedr_table.specs.Operators.{Meaning}
use Rattle.node_laws.specs.Lists.{Lists, list_at}
use Rattle.node_laws.specs.Lawful.{IsLawful}
use Rattle.node_laws.specs.Pass.{pass}
use Rattle.plan_runs.proofs.PlanNodes.{split, node_stands}
use Rattle.cedr_plan.specs.declared.plan.NodeKind.{NodeKind}
use Rattle.cedr_plan.specs.declared.plan.NodeKind.TheVariants as kind
use Rattle.cedr_plan.specs.declared.plan.PlanNode.{PlanNode}
use Rattle.cedr_plan.specs.Drawn.{node_of}
use Rattle.cedr_plan.specs.Rules.{AreNodes, IsNode}
use Rattle.cedr_plan.specs.Places.{is_output, is_source, source_count}
use Rattle.cedr_plan.proofs.PlaceLemmas.{inputs_are}
use Rattle.plan_runs.specs.Runs.{ArePrefixes, IsPartialRun, input_lists, sources_in}
use Rattle.plan_runs.proofs.Partial.{prefixes_itself, source_at}
use Rattle.op_node.specs.Meanings.{meaning_of, node_meaning, port_levels}
use Rattle.op_node.specs.Outputs.{handed_on}
use Rattle.op_node.specs.ReadyLaws.{node_ready}
use Rattle.plan_report.specs.SoFar.{unbroken}
use Rattle.plan_report.proofs.CutLemmas.{IsCut, prefixes_before, unbroken_first, unbroken_legal, unbroken_none}
use Rattle.plan_report.proofs.EchoLemmas.{passed_lawful, unbroken_passed}
use Rattle.plan_workers.proofs.MakeLemmas.{output_ports}

-- one for each node, in order
record Chosen {X : Type 0} (P : List PlanNode → PlanNode → X → Type 0) (d : X) (nodes : List PlanNode) : Type 0 where
  pub all : List X
  pub each : (before after : List PlanNode) (n : PlanNode) → nodes ≡ before ++ n ∷ after → P before n (slice_index_or all (length before) d)

-- where there is one for each node there is a list of them
chosen : {X : Type 0} (P : List PlanNode → PlanNode → X → Type 0) (d : X) (nodes : List PlanNode) → ((before after : List PlanNode) (n : PlanNode) → nodes ≡ before ++ n ∷ after → (x : X) × P before n x) → Chosen P d nodes
chosen P d [] some = record { all = []; each = none }
  where
    none : (before after : List PlanNode) (n : PlanNode) → [] ≡ before ++ n ∷ after → P before n (slice_index_or [] (length before) d)
    none [] after n whole = absurd (cc whole)
    none (b ∷ before) after n whole = absurd (cc whole)
chosen {X = X} P d (m ∷ nodes) some =
    let first = some [] nodes m refl in
    let later = chosen (λ before n x. P (m ∷ before) n x) d nodes (λ before after n whole. some (m ∷ before) after n (ap (λ (ns : List PlanNode). m ∷ ns) whole)) in
    record { all = first.0 ∷ later.all; each = at first.0 first.1 later }
  where
    at : (x : X) → P [] m x → (later : Chosen (λ before n y. P (m ∷ before) n y) d nodes) → (before after : List PlanNode) (n : PlanNode) → m ∷ nodes ≡ before ++ n ∷ after → P before n (slice_index_or (x ∷ later.all) (length before) d)
    at x here later [] after n whole = let same : m ≡ n = cc whole in subst (λ (k : PlanNode). P [] k x) same here
    at x here later (b ∷ before) after n whole =
        let same : m ≡ b = cc whole in
        subst (λ (k : PlanNode). P (k ∷ before) n (slice_index_or later.all (length before) d)) same (later.each before after n (cc whole))

-- what a node gave before its first break
pub cut_at : (given : Lists) (k : ℕ) → list_at (map unbroken given) k ≡ unbroken (list_at given k)
cut_at given k = get_or-map unbroken given k []

-- what the nodes that a node reads gave before their first breaks
cut_inputs : (given : Lists) (inputs : List ℕ) → map unbroken (map (list_at given) inputs) ≡ map (list_at (map unbroken given)) inputs
cut_inputs given [] = refl
cut_inputs given (i ∷ inputs) = let a = cut_at given i in let b = cut_inputs given inputs in cc

module _ (nodes : List PlanNode) (given : Lists) where
  -- lists on the ports of a node that fit what the nodes gave before their first breaks
  record Fitting (before : List PlanNode) (n : PlanNode) (lists : Lists) : Type 0 where
    edges : ArePrefixes lists (input_lists (map unbroken given) n)
    lawful : is_source n.kind ≡ false → IsLawful (meaning_of n) (port_levels n) lists (list_at (map unbroken given) (length before))

  -- a node that can be cut has such lists, and so has a source
  fitting : (before : List PlanNode) (n : PlanNode) → (is_source n.kind ≡ false → IsCut (meaning_of n) (port_levels n) (input_lists given n) (list_at given (length before))) → (lists : Lists) × Fitting before n lists
  fitting before n cut = at (is_source n.kind) refl
    where
      at : (b : Bool) → is_source n.kind ≡ b → (lists : Lists) × Fitting before n lists
      at true is = (input_lists (map unbroken given) n, record { edges = prefixes_itself (input_lists (map unbroken given) n); lawful = λ isnt. absurd (cc (is, isnt)) })
      at false isnt =
          let c = cut isnt in (
            c.before,
            record {
              edges = subst (ArePrefixes c.before) (cut_inputs given n.inputs.items) (prefixes_before c.before (input_lists given n) c.prefixes c.sound);
              lawful = λ _. subst (IsLawful (meaning_of n) (port_levels n) c.before) (sym (cut_at given (length before))) c.lawful;
            },
          )

  -- a partial run over what each node gave before its first break
  pub record CutRun : Type 0 where
    pub ports : List Lists
    pub run : IsPartialRun nodes (sources_in nodes (map unbroken given)) ports (map unbroken given)

  -- Where each node that is no source can be cut, what they gave before their first breaks is a partial run.
  pub cut_run : ((before after : List PlanNode) (n : PlanNode) → nodes ≡ before ++ n ∷ after → is_source n.kind ≡ false → IsCut (meaning_of n) (port_levels n) (input_lists given n) (list_at given (length before))) → CutRun
  cut_run cut =
      let c = chosen Fitting [] nodes (λ before after n whole. fitting before n (cut before after n whole)) in
      record {
        ports = c.all;
        run = record {
          node = λ before after n whole. record {
            source = λ is. sym (ap (λ (ns : List PlanNode). list_at (sources_in ns (map unbroken given)) (source_count before)) whole ∙ source_at before after n (map unbroken given) is);
            lawful = λ isnt. (c.each before after n whole).lawful isnt;
          };
          edges = λ before after n whole. (c.each before after n whole).edges;
        };
      }

-- first messages of legal lists are legal
pub prefixes_legal : (ls ws : Lists) → ArePrefixes ls ws → ((port : ℕ) → IsLegal (list_at ws port)) → (port : ℕ) → IsLegal (list_at ls port)
prefixes_legal [] ws h legal port = tt
prefixes_legal (l ∷ ls) [] h legal port = absurd h
prefixes_legal (l ∷ ls) (w ∷ ws) h legal zero = let p = h.0 in legal_first [] l p.rest (subst IsLegal (sym p.all) (legal zero))
prefixes_legal (l ∷ ls) (w ∷ ws) h legal (suc port) = prefixes_legal ls ws h.1 (λ k. legal (suc k)) port

-- the lists that a node reads are legal where those before a place are
pub inputs_legal : (given : Lists) (n : ℕ) → ((k : ℕ) → k < n → IsLegal (list_at given k)) → (inputs : List ℕ) → All (λ (place : ℕ). place < n) inputs → (port : ℕ) → IsLegal (list_at (map (list_at given) inputs) port)
inputs_legal given n legal [] within port = tt
inputs_legal given n legal (i ∷ inputs) within zero = legal i (All-head (λ (place : ℕ). place < n) i inputs within)
inputs_legal given n legal (i ∷ inputs) within (suc port) = inputs_legal given n legal inputs (All-tail (λ (place : ℕ). place < n) i inputs within) port

module _ (nodes : List PlanNode) (given : Lists) (are : AreNodes [] (map node_of nodes))
    (each : (before after : List PlanNode) (n : PlanNode) → nodes ≡ before ++ n ∷ after → ((port : ℕ) → IsLegal (list_at (input_lists given n) port)) → IsLegal (list_at given (length before))) where
  -- by a bound on the place
  legal_below : (bound k : ℕ) → k < bound → k < length nodes → IsLegal (list_at given k)
  legal_below zero k below within = absurd (omega arith)
  legal_below (suc bound) k below within =
      let s = split nodes k within in
      let inputs = inputs_are s.before s.node (node_stands nodes s.before s.after s.node are s.whole) in
      subst (λ (j : ℕ). IsLegal (list_at given j)) s.place
      (each s.before s.after s.node s.whole (inputs_legal given (length s.before) (λ j earlier. legal_below bound j (let e = s.place in omega arith) (let e = s.place in omega arith)) s.node.inputs.items inputs))

  -- The list of each node is legal, where each node gives a legal list for legal lists.
  pub all_legal : (k : ℕ) → k < length nodes → IsLegal (list_at given k)
  all_legal k within = legal_below (suc k) k (omega arith) within

-- and hands on what comes
output_means : (k : NodeKind) (ports : ℕ) → is_output k ≡ true → node_meaning k ports ≡ handed_on
output_means kind.Output ports e = refl
output_means k ports e = cc

-- what passes on a legal list can be cut
passed_cut : (v : Level) (lists : Lists) (given : List Message) → length lists ≡ 1 → ((port : ℕ) → IsLegal (list_at lists port)) → given ≡ pass v (list_at lists 0) → IsCut handed_on (v ∷ []) lists given
passed_cut v [] given one legal is = absurd (omega arith)
passed_cut v (l ∷ k ∷ ls) given one legal is = absurd (omega arith)
passed_cut v (l ∷ []) given one legal is =
    let none = unbroken_none l in
    record {
      before = unbroken l ∷ [];
      prefixes = (unbroken_first l, tt);
      lawful = subst (IsLawful handed_on (v ∷ []) (unbroken l ∷ [])) (sym (ap unbroken is ∙ unbroken_passed v l (legal 0))) (passed_lawful v (unbroken l) (unbroken_legal l (legal 0)) none);
      sound = ap (λ (b : Bool). b || false) none;
    }

-- An output that gave what its port passes on of a legal list can be cut.
pub output_cut : (before : List PlanNode) (n : PlanNode) (lists : Lists) (given : List Message) → is_output n.kind ≡ true → IsNode (map node_of before) (node_of n) → length lists ≡ length n.inputs.items → ((port : ℕ) → IsLegal (list_at lists port)) → given ≡ pass n.level (list_at lists 0) → IsCut (meaning_of n) (port_levels n) lists given
output_cut before n lists given output stands count legal is =
    let one = output_ports n.kind (length n.inputs.items) output (node_ready (map node_of before) n stands) in
    subst (λ (m : Meaning). IsCut m (port_levels n) lists given) (sym (output_means n.kind (length n.inputs.items) output))
    (subst (λ (ports : ℕ). IsCut handed_on (replicate ports n.level) lists given) (sym one) (passed_cut n.level lists given (count ∙ one) legal is))
