-- The lists of a plan's sources among those of all nodes.
use Rattle.std.proofs.Common.{◌≡◌, ℕ, suc, ◌<◌, List, [], ◌∷◌, Bool, true, false, cond, length, get_or, refl, ap, ◌∙◌, arith}
use Rattle.cedr_base.specs.declared.change.Message.{Message}
use Rattle.node_laws.specs.Lists.{Lists, list_at}
use Rattle.cedr_plan.specs.declared.plan.PlanNode.{PlanNode}
use Rattle.cedr_plan.specs.Places.{is_source}
use Rattle.plan_runs.specs.Runs.{sources_in}

pick : (b : Bool) (x y : List Message) (xs ys : Lists) → (b ≡ true → x ≡ y) → xs ≡ ys → cond b (x ∷ xs) xs ≡ cond b (y ∷ ys) ys
pick true x y xs ys here rest = ap (λ (m : List Message). m ∷ xs) (here refl) ∙ ap (λ (ms : Lists). y ∷ ms) rest
pick false x y xs ys here rest = rest

-- lists that are the same at each source have the same lists of the sources
pub same_sources : (nodes : List PlanNode) (given whole : Lists) → ((k : ℕ) (d : PlanNode) → k < length nodes → is_source (get_or nodes k d).kind ≡ true → list_at given k ≡ list_at whole k) → sources_in nodes given ≡ sources_in nodes whole
same_sources [] given whole h = refl
same_sources (n ∷ nodes) [] [] h = refl
same_sources (n ∷ nodes) [] (w ∷ whole) h = pick (is_source n.kind) [] w (sources_in nodes []) (sources_in nodes whole) (λ is. h 0 n (omega arith) is) (same_sources nodes [] whole (λ k d within is. h (suc k) d (omega arith) is))
same_sources (n ∷ nodes) (g ∷ given) [] h = pick (is_source n.kind) g [] (sources_in nodes given) (sources_in nodes []) (λ is. h 0 n (omega arith) is) (same_sources nodes given [] (λ k d within is. h (suc k) d (omega arith) is))
same_sources (n ∷ nodes) (g ∷ given) (w ∷ whole) h = pick (is_source n.kind) g w (sources_in nodes given) (sources_in nodes whole) (λ is. h 0 n (omega arith) is) (same_sources nodes given whole (λ k d within is. h (suc k) d (omega arith) is))
