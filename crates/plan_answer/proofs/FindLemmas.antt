-- Sources that are found one after the other, and given back.
use Rattle.std.proofs.Common.{◌≡◌, ℕ, zero, suc, ◌+◌, ◌<◌, ◌≤◌, List, [], ◌∷◌, ◌++◌, Bool, true, false, cond, length, map, take, drop, get_or, refl, ap, sym, ◌∙◌, subst, arith}
use Rattle.std.specs.Prelude.{Option, Err, min, if◌then◌else◌}
use Rattle.std.specs.List.{All}
use Rattle.std.proofs.lemmas.List.{map-append, length-map}
use Rattle.std.proofs.lemmas.List.Sums.{sum_by-cons}
use Rattle.cedr_io.specs.Counts.{Counts, count_sum, last_count}
use Rattle.cedr_io.specs.declared.fault.OutsideFault.{OutsideFault}
use Rattle.cedr_io.specs.declared.fault.OutsideFault.TheVariants as outside
use Rattle.cedr_plan.specs.declared.plan.PlanNode.{PlanNode}
use Rattle.cedr_plan.specs.Places.{is_source, source_count}
use Rattle.plan_answer.specs.Sources.{AsksFirst, file_of, files_of, source_files}
use Rattle.plan_answer.proofs.SourceLemmas.{asks_on, files_more}
use Rattle.cedr_source.specs.declared.fault.Unread.TheVariants as unread
use Rattle.plan_answer.specs.Finds.{AreFound, count_with}

-- a list around one of its elements
split_at : {X : Type 0} (xs : List X) (k : ℕ) (d : X) → k < length xs → xs ≡ take k xs ++ get_or xs k d ∷ drop (suc k) xs
split_at [] k d within = absurd (omega (arith, within))
split_at (x ∷ xs) zero d within = refl
split_at (x ∷ xs) (suc k) d within = ap (λ ys. x ∷ ys) (split_at xs k d (omega (arith, within)))

-- ---- names

-- some of the names of one node more, after all of those before it
pub asks_more : (first now after : List (List ℕ)) (nodes : List PlanNode) (k : ℕ) (n : PlanNode) → k < length nodes → get_or nodes k n ≡ n → now ≡ first ++ source_files (take k nodes) → AsksFirst now after (files_of n) → AsksFirst first after (source_files nodes)
asks_more first now after nodes k n within here asked more =
    subst (λ (ns : List PlanNode). AsksFirst first after (source_files ns)) (ap (λ (m : PlanNode). take k nodes ++ m ∷ drop (suc k) nodes) (sym here) ∙ sym (split_at nodes k n within))
    (asks_on {T = Unit {0}} first now after (take k nodes) (drop (suc k) nodes) n (Err unread.OutOfMemory) asked more)

-- ---- contents

-- the same contents hold the same under each name
same_contents : (content content' : List ℕ → Option (List ℕ)) → ((n : List ℕ) → content' n ≡ content n) → (names : List (List ℕ)) → map content' names ≡ map content names
same_contents content content' same [] = refl
same_contents content content' same (n ∷ names) = ap (λ (o : Option (List ℕ)). o ∷ map content' names) (same n) ∙ ap (λ os. content n ∷ os) (same_contents content content' same names)

-- the sources of one node more were found
pub found_more : {S : Type 0} (rest : S → Option (List ℕ)) (content content' : List ℕ → Option (List ℕ)) (nodes : List PlanNode) (k : ℕ) (n : PlanNode) (old new : List S) → k < length nodes → get_or nodes k n ≡ n → ((m : List ℕ) → content' m ≡ content m)
    → AreFound rest content (take k nodes) old → map rest new ≡ map rest old ++ map content' (files_of n) → AreFound rest content (take (k + 1) nodes) new
found_more rest content content' nodes k n old new within here same found more =
    more ∙ (ap (λ os. os ++ map content' (files_of n)) found
    ∙ (ap (λ os. map content (source_files (take k nodes)) ++ os) (same_contents content content' same (files_of n))
    ∙ (sym (map-append content (source_files (take k nodes)) (files_of n))
    ∙ ap (map content) (sym (files_more nodes k n within here)))))

-- ---- how many

-- one node more, which counts where it is a source
pub count_more : (n : PlanNode) (nodes : List PlanNode) → source_count (n ∷ nodes) ≡ cond {A = ℕ} (is_source n.kind) 1 0 + source_count nodes
count_more n nodes = sum_by-cons (λ (x : PlanNode). cond {A = ℕ} (is_source x.kind) 1 0) n nodes

-- as many files as sources
file_count : (nodes : List PlanNode) → length (source_files nodes) ≡ source_count nodes
file_count [] = refl
file_count (n ∷ nodes) = counts (is_source n.kind) (file_count nodes) ∙ sym (count_more n nodes)
  where
    counts : (b : Bool) → length (source_files nodes) ≡ source_count nodes → length ((if b then file_of n.kind ∷ [] else []) ++ source_files nodes) ≡ cond {A = ℕ} b 1 0 + source_count nodes
    counts true e = omega (arith, e)
    counts false e = omega (arith, e)

-- as many sources were found as the plan has
pub found_count : {S : Type 0} (rest : S → Option (List ℕ)) (content : List ℕ → Option (List ℕ)) (nodes : List PlanNode) (sources : List S) → AreFound rest content nodes sources → length sources ≡ source_count nodes
found_count rest content nodes sources found = sym (length-map sources rest) ∙ (ap length found ∙ (length-map (source_files nodes) content ∙ file_count nodes))

-- ---- counts

-- sources without a fault leave a count as it is
pub count_kept : {S : Type 0} (faults : S → ℕ) (count : ℕ) (sources : List S) → count ≤ last_count → All (λ (s : S). faults s ≡ 0) sources → count_with faults count sources ≡ count
count_kept faults count [] few none = refl
count_kept faults count (s ∷ sources) few none =
    let here : faults s ≡ 0 = none 0 s (omega arith) in
    let same : count_sum count (faults s) ≡ count = omega (arith, here, few) in
    ap (λ (c : ℕ). count_with faults c sources) same ∙ count_kept faults count sources few (λ k d lt. none (suc k) d (omega (arith, lt)))

-- one that is past the last value stays there
count_full : {S : Type 0} (faults : S → ℕ) (count : ℕ) (sources : List S) → All (λ (s : S). faults s ≡ 0) sources → min count last_count ≤ count_with faults count sources
count_full faults count [] none = omega arith
count_full faults count (s ∷ sources) none =
    let here : faults s ≡ 0 = none 0 s (omega arith) in
    let later = count_full faults (count_sum count (faults s)) sources (λ k d lt. none (suc k) d (omega (arith, lt))) in
    omega (arith, here, later)

-- the count is that of a find that failed also once the sources found before are given back
pub counted_back : {S : Type 0} (T U : Type 0) (faults : S → ℕ) (fault : OutsideFault) (old now new : ℕ) (sources : List S) → old < last_count → All (λ (s : S). faults s ≡ 0) sources → Counts {T = T} (Err fault) old now → new ≡ count_with faults now sources → Counts {T = U} (Err fault) old new
counted_back T U faults outside.Failed old now new sources few none counted back =
    let full = count_full faults now sources none in
    record { kept = omega (arith, counted.kept, full, back, few); more = omega (arith, counted.more, full, back, few) }
counted_back T U faults outside.OutOfMemory old now new sources few none counted back =
    let within : now ≤ last_count = omega (arith, counted, few) in
    back ∙ (count_kept faults now sources within none ∙ counted)
