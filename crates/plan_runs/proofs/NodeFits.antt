-- What a node of a run gave fits the lists of the nodes that it reads.
use Rattle.std.proofs.Common.{◌≡◌, ℕ, ◌<◌, List, [], ◌∷◌, ◌++◌, true, false, length, ap, subst, sym, ◌∙◌, refl}
use Rattle.std.specs.Prelude.{map, All}
use Rattle.std.proofs.lemmas.List.{length-replicate}
use Rattle.std.proofs.lemmas.List.Elements.{All-head, All-tail}
use Rattle.cedr_plan.specs.declared.plan.PlanNode.{PlanNode}
use Rattle.cedr_plan.specs.Drawn.{node_of}
use Rattle.cedr_plan.specs.Rules.{IsNode}
use Rattle.node_laws.specs.Lists.{Lists, list_at}
use Rattle.node_laws.specs.Pass.{has_end}
use Rattle.node_laws.specs.Lawful.{has_broken, any_broken, all_end, Fits}
use Rattle.op_node.specs.Meanings.{meaning_of, port_levels}
use Rattle.cedr_plan.specs.Places.{is_source}
use Rattle.op_node.specs.ReadyLaws.{node_ready}
use Rattle.plan_runs.specs.Runs.{lists_at, input_lists, IsRun}
use Rattle.op_node.specs.MeaningLaws.{MeaningLaws}
use Rattle.op_node.proofs.ReadyMeanings.{ready_meaning}
use Rattle.plan_runs.proofs.First.{lawful_fits_always}

-- where the first n lists aren't broken, none of those that a node reads of them is
pub all_unbroken : (n : ℕ) (given : Lists) → ((k : ℕ) → k < n → has_broken (list_at given k) ≡ false) → (inputs : List ℕ) → All (λ (place : ℕ). place < n) inputs → any_broken (map (list_at given) inputs) ≡ false
all_unbroken n given good [] within = refl
all_unbroken n given good (i ∷ inputs) within =
    let a = good i (All-head (λ (place : ℕ). place < n) i inputs within) in
    let b = all_unbroken n given good inputs (All-tail (λ (place : ℕ). place < n) i inputs within) in
    cc

-- where the first n lists have their ends, those of them that a node reads all have
pub all_ended : (n : ℕ) (given : Lists) → ((k : ℕ) → k < n → has_end (list_at given k) ≡ true) → (inputs : List ℕ) → All (λ (place : ℕ). place < n) inputs → all_end (map (list_at given) inputs) ≡ true
all_ended n given good [] within = refl
all_ended n given good (i ∷ inputs) within =
    let a = good i (All-head (λ (place : ℕ). place < n) i inputs within) in
    let b = all_ended n given good inputs (All-tail (λ (place : ℕ). place < n) i inputs within) in
    cc

-- the laws of a node that comes after others
pub laws_of_node : (before : List PlanNode) (n : PlanNode) → IsNode (map node_of before) (node_of n) → is_source n.kind ≡ false → MeaningLaws (meaning_of n) (length n.inputs.items)
laws_of_node before n is isnt = ready_meaning n.kind (length n.inputs.items) (node_ready (map node_of before) n is isnt)

-- in a run, what a node that is no source gave fits the lists of the nodes that it reads, where none of these
-- is broken
pub node_fits : (nodes : List PlanNode) (sources : Lists) (ports : List Lists) (given : Lists) → IsRun nodes sources ports given
    → (before after : List PlanNode) (n : PlanNode) → nodes ≡ before ++ n ∷ after → IsNode (map node_of before) (node_of n) → is_source n.kind ≡ false → any_broken (input_lists given n) ≡ false
    → Fits (meaning_of n) (port_levels n) (input_lists given n) (list_at given (length before))
node_fits nodes sources ports given run before after n whole is isnt unbroken =
    let lawful = (run.node before after n whole).lawful isnt in
    let edges = run.edges before after n whole in
    let laws : MeaningLaws (meaning_of n) (length (port_levels n)) = subst (λ (k : ℕ). MeaningLaws (meaning_of n) k) (sym (length-replicate (length n.inputs.items) n.level)) (laws_of_node before n is isnt) in
    subst (λ (ls : Lists). Fits (meaning_of n) (port_levels n) ls (list_at given (length before))) edges
    (lawful_fits_always (meaning_of n) (port_levels n) (lists_at ports (length before)) (list_at given (length before)) laws lawful (ap any_broken edges ∙ unbroken))
