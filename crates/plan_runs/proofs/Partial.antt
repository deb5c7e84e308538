-- A run is a partial run, and the lists of the sources among those of all nodes.
use Rattle.std.proofs.Common.{◌≡◌, ℕ, suc, ◌+◌, List, [], ◌∷◌, ◌++◌, Bool, true, false, cond, length, refl, ap, subst, ◌∙◌, arith}
use Rattle.std.proofs.lemmas.List.{append-nil}
use Rattle.std.proofs.lemmas.List.Sums.{sum_by-cons}
use Rattle.cedr_base.specs.declared.change.Message.{Message}
use Rattle.cedr_plan.specs.declared.plan.PlanNode.{PlanNode}
use Rattle.node_laws.specs.Lists.{Lists, list_at}
use Rattle.cedr_plan.specs.Places.{is_source, source_count}
use Rattle.plan_runs.specs.Runs.{lists_at, ArePrefixes, IsRun, IsPartialRun, sources_in}

-- each list is the first messages of itself
pub prefixes_itself : (ls : Lists) → ArePrefixes ls ls
prefixes_itself [] = tt
prefixes_itself (l ∷ ls) = (record { rest = []; all = append-nil l }, prefixes_itself ls)

-- a run is a partial run
pub partial_run : (nodes : List PlanNode) (sources : Lists) (ports : List Lists) (given : Lists) → IsRun nodes sources ports given → IsPartialRun nodes sources ports given
partial_run nodes sources ports given run = record {
  node = run.node;
  edges = λ before after n whole. subst (ArePrefixes (lists_at ports (length before))) (run.edges before after n whole) (prefixes_itself (lists_at ports (length before)));
}

-- one node more before a source
one_before : (b : Bool) (g : List Message) (rest : Lists) (k n : ℕ) (found : List Message) → n ≡ cond {A = ℕ} b 1 0 + k → list_at rest k ≡ found → list_at (cond b (g ∷ rest) rest) n ≡ found
one_before true g rest k n found e h = ap (λ (j : ℕ). list_at (g ∷ rest) j) (let s : n ≡ suc k = omega arith in s) ∙ h
one_before false g rest k n found e h = ap (λ (j : ℕ). list_at rest j) (let s : n ≡ k = omega arith in s) ∙ h

first_source : (b : Bool) (g : List Message) (rest : Lists) → b ≡ true → list_at (cond b (g ∷ rest) rest) 0 ≡ g
first_source true g rest e = refl
first_source false g rest e = cc

-- the list of a source is at its place among the sources' lists
pub source_at : (before after : List PlanNode) (n : PlanNode) (given : Lists) → is_source n.kind ≡ true → list_at (sources_in (before ++ n ∷ after) given) (source_count before) ≡ list_at given (length before)
source_at [] after n [] is = first_source (is_source n.kind) [] (sources_in after []) is
source_at [] after n (g ∷ given) is = first_source (is_source n.kind) g (sources_in after given) is
source_at (b ∷ before) after n [] is = one_before (is_source b.kind) [] (sources_in (before ++ n ∷ after) []) (source_count before) (source_count (b ∷ before)) [] (sum_by-cons (λ (x : PlanNode). cond {A = ℕ} (is_source x.kind) 1 0) b before) (source_at before after n [] is)
source_at (b ∷ before) after n (g ∷ given) is = one_before (is_source b.kind) g (sources_in (before ++ n ∷ after) given) (source_count before) (source_count (b ∷ before)) (list_at given (length before)) (sum_by-cons (λ (x : PlanNode). cond {A = ℕ} (is_source x.kind) 1 0) b before) (source_at before after n given is)
