-- What the ends of a plan's sources say, one node after the other.
use Rattle.std.proofs.Common.{◌≡◌, ℕ, suc, ◌+◌, ◌<◌, ◌≤◌, List, [], ◌∷◌, ◌++◌, Bool, true, false, cond, ◌||◌, length, map, refl, ap, sym, ◌∙◌, subst, arith, inl, inr}
use Rattle.std.specs.Prelude.{Option, None, Some, ◌⊎◌, if◌then◌else◌, slice_index_or}
use Rattle.std.specs.List.{All, list_any}
use Rattle.std.specs.Io.KnownBytes.{Consumes, IsAtEnd}
use Rattle.std.proofs.lemmas.List.{append-nil}
use Rattle.std.proofs.lemmas.List.Elements.{All-cons, All-tail}
use Rattle.cedr_base.specs.declared.change.Message.{Message}
use Rattle.plan_workers.specs.Wents.{HaveClosed, SourceWent}
use Rattle.cedr_guard.specs.declared.refusal.Refusal.{Refusal}
use Rattle.cedr_guard.specs.Sources.{judged, messages_of}
use Rattle.cedr_io.specs.Counts.{count_sum, last_count}
use Rattle.node_laws.specs.Lists.{Lists, list_at}
use Rattle.cedr_plan.specs.declared.plan.PlanNode.{PlanNode}
use Rattle.cedr_plan.specs.Places.{is_source, source_count}
use Rattle.plan_runs.specs.Runs.{sources_in}
use Rattle.plan_answer.specs.Sources.{AllHaveGiven, AreRead, AreTold, HasGiven, fault_here, faulty_from, file_of, source_files}
use Rattle.plan_answer.specs.declared.faulty.FaultySource.{FaultySource}
use Rattle.cedr_text.specs.declared.event_line.Shape.{Shape}
use Rattle.cedr_worker.specs.declared.source.SourceEnd.{SourceEnd}
use Rattle.cedr_worker.specs.declared.stop.SourceStop.{SourceStop}
use Rattle.cedr_worker.specs.declared.stop.SourceStop.TheVariants as stop
use Rattle.cedr_worker.specs.Stops.{CountedSo, StoppedAs, meant}
use Rattle.plan_answer.specs.Finds.{AreFound, count_with}
use Rattle.plan_workers.specs.Stopping.{is_short, is_unread, stop_in}
use Rattle.plan_workers.specs.Tellings.{AreEnded, IsJudged, fault_of, is_faulty, refusal_in, node_faults, source_left_in, source_lists}
use Rattle.plan_answer.proofs.FindLemmas.{count_kept, count_more}

-- ---- lists by node

-- the lists after the first
behind : Lists → Lists
behind [] = []
behind (g ∷ given) = given

-- each stands one place earlier
behind_at : (given : Lists) (k : ℕ) → list_at (behind given) k ≡ list_at given (suc k)
unfolding behind
behind_at [] k = refl
behind_at (g ∷ given) k = refl

-- the list of a source is the first, and those of later nodes come after it
lists_source : (n : PlanNode) (nodes : List PlanNode) (given : Lists) → is_source n.kind ≡ true → source_lists (n ∷ nodes) given ≡ list_at given 0 ∷ source_lists nodes (behind given)
unfolding behind
lists_source n nodes [] is = refl
lists_source n nodes (g ∷ given) is = ap {B = Lists} (λ (b : Bool). (if b then g else []) ∷ source_lists nodes given) is

-- any other node has no list
lists_other : (n : PlanNode) (nodes : List PlanNode) (given : Lists) → is_source n.kind ≡ false → source_lists (n ∷ nodes) given ≡ [] ∷ source_lists nodes (behind given)
unfolding behind
lists_other n nodes [] isnt = refl
lists_other n nodes (g ∷ given) isnt = ap {B = Lists} (λ (b : Bool). (if b then g else []) ∷ source_lists nodes given) isnt

-- the fault of a source is the first, and those of later nodes come after it
pub faults_source : (n : PlanNode) (nodes : List PlanNode) (f : Option Refusal) (faults : List (Option Refusal)) → is_source n.kind ≡ true → node_faults (n ∷ nodes) (f ∷ faults) ≡ f ∷ node_faults nodes faults
faults_source n nodes f faults is = ap {B = List (Option Refusal)} (λ (b : Bool). if b then f ∷ node_faults nodes faults else None ∷ node_faults nodes (f ∷ faults)) is

-- any other node has no fault
pub faults_other : (n : PlanNode) (nodes : List PlanNode) (faults : List (Option Refusal)) → is_source n.kind ≡ false → node_faults (n ∷ nodes) faults ≡ None ∷ node_faults nodes faults
faults_other n nodes [] isnt = refl
faults_other n nodes (f ∷ faults) isnt = ap {B = List (Option Refusal)} (λ (b : Bool). if b then f ∷ node_faults nodes faults else None ∷ node_faults nodes (f ∷ faults)) isnt

-- the file of a source is the first, and those of later nodes come after it
pub files_source : (n : PlanNode) (nodes : List PlanNode) → is_source n.kind ≡ true → source_files (n ∷ nodes) ≡ file_of n.kind ∷ source_files nodes
files_source n nodes is = ap {B = List (List ℕ)} (λ (b : Bool). (if b then file_of n.kind ∷ [] else []) ++ source_files nodes) is

-- any other node has no file
pub files_other : (n : PlanNode) (nodes : List PlanNode) → is_source n.kind ≡ false → source_files (n ∷ nodes) ≡ source_files nodes
files_other n nodes isnt = ap {B = List (List ℕ)} (λ (b : Bool). (if b then file_of n.kind ∷ [] else []) ++ source_files nodes) isnt

-- a source counts as one more
pub count_source : (n : PlanNode) (nodes : List PlanNode) → is_source n.kind ≡ true → source_count (n ∷ nodes) ≡ suc (source_count nodes)
count_source n nodes is =
    let one : cond {A = ℕ} (is_source n.kind) 1 0 ≡ 1 = ap {B = ℕ} (λ (b : Bool). cond {A = ℕ} b 1 0) is in
    omega (arith, one, count_more n nodes)

-- any other node counts as none
pub count_other : (n : PlanNode) (nodes : List PlanNode) → is_source n.kind ≡ false → source_count (n ∷ nodes) ≡ source_count nodes
count_other n nodes isnt =
    let none : cond {A = ℕ} (is_source n.kind) 1 0 ≡ 0 = ap {B = ℕ} (λ (b : Bool). cond {A = ℕ} b 1 0) isnt in
    omega (arith, none, count_more n nodes)

-- the lists of the sources alone are the same among those of all nodes
pub same_sources : (nodes : List PlanNode) (given : Lists) → sources_in nodes (source_lists nodes given) ≡ sources_in nodes given
same_sources [] given = refl
same_sources (n ∷ nodes) [] = ap {B = Lists} (λ (ls : Lists). if is_source n.kind then [] ∷ ls else ls) (same_sources nodes [])
same_sources (n ∷ nodes) (g ∷ given) = here (is_source n.kind) (same_sources nodes given)
  where
    here : (b : Bool) → sources_in nodes (source_lists nodes given) ≡ sources_in nodes given → (if b then (if b then g else []) ∷ sources_in nodes (source_lists nodes given) else sources_in nodes (source_lists nodes given)) ≡ (if b then g ∷ sources_in nodes given else sources_in nodes given)
    here true e = ap (λ (ls : Lists). g ∷ ls) e
    here false e = e

-- ---- one source

-- what a stop says of all bytes of a source, where none but these were left after those read
stop_tells : (s : SourceStop) (shape : Shape) (all bytes more : List ℕ) (given : List Message) (ended : Bool) → all ≡ bytes ++ more → (ended ≡ true → more ≡ []) → StoppedAs s shape bytes given ended → IsJudged s
    → ((judged shape all).fault ≡ fault_of s) × (fault_of s ≡ None → meant given (Some s) ≡ messages_of shape all)
stop_tells stop.Closed shape all bytes more given ended parts at_end stopped judged_so =
    let whole : bytes ≡ all = sym (append-nil bytes) ∙ (ap (λ (xs : List ℕ). bytes ++ xs) (sym (at_end stopped.at_end)) ∙ sym parts) in
    (ap (λ (xs : List ℕ). (judged shape xs).fault) (sym whole) ∙ stopped.faultless, λ none. stopped.all ∙ ap (λ (xs : List ℕ). messages_of shape xs) whole)
stop_tells (stop.Refused line fault) shape all bytes more given ended parts at_end stopped judged_so =
    (ap (λ (xs : List ℕ). (judged shape xs).fault) parts ∙ stopped.first more at_end, λ none. absurd (cc none))
stop_tells stop.ReadFault shape all bytes more given ended parts at_end stopped judged_so = absurd judged_so
stop_tells stop.OutOfMemory shape all bytes more given ended parts at_end stopped judged_so = absurd judged_so

-- the bytes that were read, and those left, are all of a source's content
pub bytes_left : (left : Option (List ℕ)) (all bytes : List ℕ) (ended : Bool) → Consumes (Some all) left bytes → (ended ≡ true → IsAtEnd left) → (more : List ℕ) × ((all ≡ bytes ++ more) × (ended ≡ true → more ≡ []))
bytes_left None all bytes ended read at_end = absurd read
bytes_left (Some more) all bytes ended read at_end = (more, (read, at_end))

-- a source gave what its end says, where it is known what its file holds
source_tells : {S : Type 0} (rest : S → Option (List ℕ)) (faults : S → ℕ) (told : List ℕ → List ℕ) (n : PlanNode) (s : S) (e : SourceEnd S) (given : List Message) → is_source n.kind ≡ true → rest s ≡ Some (told (file_of n.kind)) → SourceWent rest faults n s e given → IsJudged e.stop → HasGiven told n given (fault_of e.stop)
source_tells rest faults told n s e given is known went judged_so =
    let all = told (file_of n.kind) in
    let ends = went.ends in
    let read : Consumes (Some all) (rest e.source) ends.bytes = subst (λ (o : Option (List ℕ)). Consumes o (rest e.source) ends.bytes) known ends.read in
    let left = bytes_left (rest e.source) all ends.bytes ends.ended read ends.at_end in
    let tells = stop_tells e.stop went.shape all ends.bytes left.0 ends.given ends.ended left.1.0 left.1.1 ends.stopped judged_so in
    record {
      source = λ really. (went.shape, went.types, tells.0, λ none. went.given_is ∙ tells.1 none);
      other = λ isnt. absurd (cc (is, isnt));
    }

-- ---- one node less

-- what the sources among some nodes gave
pub WentSo : {S : Type 0} → (S → Option (List ℕ)) → (S → ℕ) → List PlanNode → List S → Lists → List (SourceEnd S) → Type 0
WentSo {S = S} rest faults nodes sources given ends = (before after : List PlanNode) (n : PlanNode) → nodes ≡ before ++ n ∷ after → is_source n.kind ≡ true → (s : S) (e : SourceEnd S) → SourceWent rest faults n (slice_index_or sources (source_count before) s) (slice_index_or ends (source_count before) e) (list_at given (length before))

-- what went over the edges of the nodes after a source
went_behind : {S : Type 0} (rest : S → Option (List ℕ)) (faults : S → ℕ) (n : PlanNode) (nodes : List PlanNode) (s : S) (sources : List S) (given : Lists) (e : SourceEnd S) (ends : List (SourceEnd S)) → is_source n.kind ≡ true → WentSo rest faults (n ∷ nodes) (s ∷ sources) given (e ∷ ends) → WentSo rest faults nodes sources (behind given) ends
unfolding WentSo
went_behind rest faults n nodes s sources given e ends is went before after m whole source d f =
    let there = went (n ∷ before) after m (ap (λ (ns : List PlanNode). n ∷ ns) whole) source d f in
    let placed = subst (λ (k : ℕ). SourceWent rest faults m (slice_index_or (s ∷ sources) k d) (slice_index_or (e ∷ ends) k f) (list_at given (suc (length before)))) (count_source n before is) there in
    subst (λ (g : List Message). SourceWent rest faults m (slice_index_or sources (source_count before) d) (slice_index_or ends (source_count before) f) g) (sym (behind_at given (length before))) placed

-- what went over the edges of the nodes after any other node
went_other : {S : Type 0} (rest : S → Option (List ℕ)) (faults : S → ℕ) (n : PlanNode) (nodes : List PlanNode) (sources : List S) (given : Lists) (ends : List (SourceEnd S)) → is_source n.kind ≡ false → WentSo rest faults (n ∷ nodes) sources given ends → WentSo rest faults nodes sources (behind given) ends
unfolding WentSo
went_other rest faults n nodes sources given ends isnt went before after m whole source d f =
    let there = went (n ∷ before) after m (ap (λ (ns : List PlanNode). n ∷ ns) whole) source d f in
    let placed = subst (λ (k : ℕ). SourceWent rest faults m (slice_index_or sources k d) (slice_index_or ends k f) (list_at given (suc (length before)))) (count_other n before isnt) there in
    subst (λ (g : List Message). SourceWent rest faults m (slice_index_or sources (source_count before) d) (slice_index_or ends (source_count before) f) g) (sym (behind_at given (length before))) placed

-- what the first source gave
went_first : {S : Type 0} (rest : S → Option (List ℕ)) (faults : S → ℕ) (n : PlanNode) (nodes : List PlanNode) (s : S) (sources : List S) (given : Lists) (e : SourceEnd S) (ends : List (SourceEnd S)) → is_source n.kind ≡ true → WentSo rest faults (n ∷ nodes) (s ∷ sources) given (e ∷ ends) → SourceWent rest faults n s e (list_at given 0)
unfolding WentSo
went_first rest faults n nodes s sources given e ends is went = went [] nodes n refl is s e

-- what went over the edges of a plan whose sources ended
pub so_went : {S : Type 0} (rest : S → Option (List ℕ)) (faults : S → ℕ) (nodes : List PlanNode) (sources : List S) (given : Lists) (ends : List (SourceEnd S)) → AreEnded rest faults nodes sources given ends → WentSo rest faults nodes sources given ends
unfolding WentSo
so_went rest faults nodes sources given ends ended = ended.went

-- a node is a source, or any other node
by_kind : {X : Type 0} (b : Bool) → (b ≡ true → X) → (b ≡ false → X) → X
by_kind true one other = one refl
by_kind false one other = other refl

-- ---- all sources of a plan

module _ {S : Type 0} (rest : S → Option (List ℕ)) (faults : S → ℕ) where
  -- what is known of some nodes and of their sources
  abbrev Counted : List PlanNode → List S → List (SourceEnd S) → Type 0
  Counted nodes sources ends = (length sources ≡ source_count nodes) × (length ends ≡ source_count nodes)

  -- ---- what they gave

  -- it is known what the files of some nodes hold, so each gave its messages, or has its fault
  abbrev Tells : (List ℕ → Option (List ℕ)) → (List ℕ → List ℕ) → List PlanNode → Type 0
  Tells content told nodes = (sources : List S) (given : Lists) (ends : List (SourceEnd S)) → Counted nodes sources ends → WentSo rest faults nodes sources given ends → AreFound rest content nodes sources → AreTold content told (source_files nodes) → All (λ (e : SourceEnd S). IsJudged (stop_in e)) ends → AllHaveGiven told nodes (source_lists nodes given) (node_faults nodes (map refusal_in ends))

  -- a source and the nodes after it
  source_given : (content : List ℕ → Option (List ℕ)) (told : List ℕ → List ℕ) (n : PlanNode) (nodes : List PlanNode) → Tells content told nodes → is_source n.kind ≡ true → Tells content told (n ∷ nodes)
  source_given content told n nodes later is [] given ends count went found known judged_so = absurd (omega (arith, count.0, count_source n nodes is))
  source_given content told n nodes later is (s ∷ sources) given [] count went found known judged_so = absurd (omega (arith, count.1, count_source n nodes is))
  source_given content told n nodes later is (s ∷ sources) given (e ∷ ends) count went found known judged_so =
      let files = files_source n nodes is in
      let here : rest s ∷ map rest sources ≡ content (file_of n.kind) ∷ map content (source_files nodes) = found ∙ ap (map content) files in
      let known_here : AreTold content told (file_of n.kind ∷ source_files nodes) = subst (λ (ns : List (List ℕ)). AreTold content told ns) files known in
      let holds : rest s ≡ content (file_of n.kind) = cc here in
      let behind_it : map rest sources ≡ map content (source_files nodes) = cc here in
      let first = source_tells rest faults told n s e (list_at given 0) is (holds ∙ known_here.0) (went_first rest faults n nodes s sources given e ends is went) (judged_so 0 e (omega arith)) in
      let others = later sources (behind given) ends (omega (arith, count.0, count_source n nodes is), omega (arith, count.1, count_source n nodes is)) (went_behind rest faults n nodes s sources given e ends is went) behind_it known_here.1 (All-tail (λ (x : SourceEnd S). IsJudged (stop_in x)) e ends judged_so) in
      subst (λ (ls : Lists). AllHaveGiven told (n ∷ nodes) ls (node_faults (n ∷ nodes) (map refusal_in (e ∷ ends)))) (sym (lists_source n nodes given is))
      (subst (λ (fs : List (Option Refusal)). AllHaveGiven told (n ∷ nodes) (list_at given 0 ∷ source_lists nodes (behind given)) fs) (sym (faults_source n nodes (refusal_in e) (map refusal_in ends) is)) (first, others))

  -- any other node and the nodes after it
  other_given : (content : List ℕ → Option (List ℕ)) (told : List ℕ → List ℕ) (n : PlanNode) (nodes : List PlanNode) → Tells content told nodes → is_source n.kind ≡ false → Tells content told (n ∷ nodes)
  other_given content told n nodes later isnt sources given ends count went found known judged_so =
      let files = files_other n nodes isnt in
      let others = later sources (behind given) ends (count.0 ∙ count_other n nodes isnt, count.1 ∙ count_other n nodes isnt) (went_other rest faults n nodes sources given ends isnt went) (found ∙ ap (map content) files) (subst (λ (ns : List (List ℕ)). AreTold content told ns) files known) judged_so in
      let nothing : HasGiven told n [] None = record { source = λ is. absurd (cc (is, isnt)); other = λ so. (refl, refl) } in
      subst (λ (ls : Lists). AllHaveGiven told (n ∷ nodes) ls (node_faults (n ∷ nodes) (map refusal_in ends))) (sym (lists_other n nodes given isnt))
      (subst (λ (fs : List (Option Refusal)). AllHaveGiven told (n ∷ nodes) ([] ∷ source_lists nodes (behind given)) fs) (sym (faults_other n nodes (map refusal_in ends) isnt)) (nothing, others))

  -- each source gave its messages, or has its fault
  pub all_given : (content : List ℕ → Option (List ℕ)) (told : List ℕ → List ℕ) (nodes : List PlanNode) → Tells content told nodes
  all_given content told [] = λ sources given ends count went found known judged_so. tt
  all_given content told (n ∷ nodes) = by_kind (is_source n.kind) (source_given content told n nodes (all_given content told nodes)) (other_given content told n nodes (all_given content told nodes))

  -- ---- their faults

  -- a source has a fault, or one after it has
  some_here : (place : ℕ) (s : SourceStop) (later : Bool) (more : List FaultySource) → (is_faulty s || later) ≡ true → (later ≡ true → 0 < length more) → 0 < length (fault_here place (fault_of s) ++ more)
  some_here place stop.Closed later more is rest_is = rest_is is
  some_here place (stop.Refused line fault) later more is rest_is = omega arith
  some_here place stop.ReadFault later more is rest_is = rest_is is
  some_here place stop.OutOfMemory later more is rest_is = rest_is is

  -- where a source has a fault, some node has it
  abbrev SomeFaulty : List PlanNode → Type 0
  SomeFaulty nodes = (place : ℕ) (ends : List (SourceEnd S)) → length ends ≡ source_count nodes → list_any is_faulty (map stop_in ends) ≡ true → 0 < length (faulty_from place (node_faults nodes (map refusal_in ends)))

  -- the fault is that of a source, or of one after it
  faulty_source : (n : PlanNode) (nodes : List PlanNode) → SomeFaulty nodes → is_source n.kind ≡ true → SomeFaulty (n ∷ nodes)
  faulty_source n nodes later is place [] count some = absurd (cc some)
  faulty_source n nodes later is place (e ∷ ends) count some =
      subst (λ (fs : List (Option Refusal)). 0 < length (faulty_from place fs)) (sym (faults_source n nodes (refusal_in e) (map refusal_in ends) is))
      (some_here place e.stop (list_any is_faulty (map stop_in ends)) (faulty_from (place + 1) (node_faults nodes (map refusal_in ends))) some (later (place + 1) ends (omega (arith, count, count_source n nodes is))))

  -- the fault is that of a source after any other node
  faulty_other : (n : PlanNode) (nodes : List PlanNode) → SomeFaulty nodes → is_source n.kind ≡ false → SomeFaulty (n ∷ nodes)
  faulty_other n nodes later isnt place ends count some =
      subst (λ (fs : List (Option Refusal)). 0 < length (faulty_from place fs)) (sym (faults_other n nodes (map refusal_in ends) isnt)) (later (place + 1) ends (count ∙ count_other n nodes isnt) some)

  -- without a node there is no fault
  faulty_none : SomeFaulty []
  faulty_none place [] count some = absurd (cc some)
  faulty_none place (e ∷ ends) count some = absurd (omega (arith, count))

  -- a source that has a fault isn't accepted
  pub some_faulty : (nodes : List PlanNode) → SomeFaulty nodes
  some_faulty [] = faulty_none
  some_faulty (n ∷ nodes) = by_kind (is_source n.kind) (faulty_source n nodes (some_faulty nodes)) (faulty_other n nodes (some_faulty nodes))

  -- where each closed none is faulty
  none_faulty : (nodes : List PlanNode) (place : ℕ) (ends : List (SourceEnd S)) → HaveClosed ends → faulty_from place (node_faults nodes (map refusal_in ends)) ≡ []
  none_faulty [] place ends closed = refl
  none_faulty (n ∷ nodes) place [] closed = none_faulty nodes (place + 1) [] closed
  none_faulty (n ∷ nodes) place (e ∷ ends) closed =
      by_kind (is_source n.kind)
      (λ is. ap (faulty_from place) (faults_source n nodes (refusal_in e) (map refusal_in ends) is)
      ∙ (ap (λ (s : SourceStop). fault_here place (fault_of s) ++ faulty_from (place + 1) (node_faults nodes (map refusal_in ends))) (closed 0 e (omega arith))
      ∙ none_faulty nodes (place + 1) ends (All-tail (λ (x : SourceEnd S). x.stop ≡ stop.Closed) e ends closed)))
      (λ isnt. ap (faulty_from place) (faults_other n nodes (map refusal_in (e ∷ ends)) isnt) ∙ none_faulty nodes (place + 1) (e ∷ ends) closed)

  -- a source that closed was read far enough to judge its lines
  closed_judged : (ends : List (SourceEnd S)) → HaveClosed ends → All (λ (e : SourceEnd S). IsJudged (stop_in e)) ends
  closed_judged ends closed k d lt = subst IsJudged (sym (closed k d lt)) tt

  -- where each closed all are accepted
  pub all_read : (content : List ℕ → Option (List ℕ)) (told : List ℕ → List ℕ) (nodes : List PlanNode) (sources : List S) (given : Lists) (ends : List (SourceEnd S)) → Counted nodes sources ends → WentSo rest faults nodes sources given ends → AreFound rest content nodes sources → AreTold content told (source_files nodes) → HaveClosed ends → AreRead told nodes (source_lists nodes given) []
  all_read content told nodes sources given ends count went found known closed = record {
    faults = node_faults nodes (map refusal_in ends);
    given = all_given content told nodes sources given ends count went found known (closed_judged ends closed);
    faulty_are = sym (none_faulty nodes 0 ends closed);
  }

  -- ---- their counts

  -- the count of a source is what its stop says
  abbrev CountsSo : SourceEnd S → Type 0
  CountsSo e = CountedSo (Some e.stop) 0 (faults e.source)

  -- that of each source among some nodes
  abbrev CountsAll : List PlanNode → Type 0
  CountsAll nodes = (sources : List S) (given : Lists) (ends : List (SourceEnd S)) → Counted nodes sources ends → WentSo rest faults nodes sources given ends → All (λ (s : S). faults s ≡ 0) sources → All CountsSo ends

  -- of a source and those after it
  counts_source : (n : PlanNode) (nodes : List PlanNode) → CountsAll nodes → is_source n.kind ≡ true → CountsAll (n ∷ nodes)
  counts_source n nodes later is [] given ends count went fresh = absurd (omega (arith, count.0, count_source n nodes is))
  counts_source n nodes later is (s ∷ sources) given [] count went fresh = absurd (omega (arith, count.1, count_source n nodes is))
  counts_source n nodes later is (s ∷ sources) given (e ∷ ends) count went fresh =
      let first = went_first rest faults n nodes s sources given e ends is went in
      All-cons CountsSo e ends (subst (λ (k : ℕ). CountedSo (Some e.stop) k (faults e.source)) (fresh 0 s (omega arith)) first.ends.counted)
      (later sources (behind given) ends (omega (arith, count.0, count_source n nodes is), omega (arith, count.1, count_source n nodes is)) (went_behind rest faults n nodes s sources given e ends is went) (All-tail (λ (x : S). faults x ≡ 0) s sources fresh))

  -- of none
  counts_none : CountsAll []
  counts_none sources given [] count went fresh = λ k d lt. absurd (omega (arith, lt))
  counts_none sources given (e ∷ ends) count went fresh = absurd (omega (arith, count.1))

  -- of each source of a plan
  all_counts : (nodes : List PlanNode) → CountsAll nodes
  all_counts [] = counts_none
  all_counts (n ∷ nodes) =
      by_kind (is_source n.kind) (counts_source n nodes (all_counts nodes))
      (λ isnt sources given ends count went fresh. all_counts nodes sources (behind given) ends (count.0 ∙ count_other n nodes isnt, count.1 ∙ count_other n nodes isnt) (went_other rest faults n nodes sources given ends isnt went) fresh)

  -- where no read was refused a source has no fault, and those after it were read too
  calm_here : (s : SourceStop) (later : Bool) (now : ℕ) → (is_unread s || later) ≡ false → CountedSo (Some s) 0 now → (now ≡ 0) × (later ≡ false)
  calm_here stop.Closed later now calm counted = (counted, calm)
  calm_here (stop.Refused line fault) later now calm counted = (counted, calm)
  calm_here stop.ReadFault later now calm counted = absurd (cc calm)
  calm_here stop.OutOfMemory later now calm counted = (counted, calm)

  -- where no read was refused no source has a fault
  calm : (ends : List (SourceEnd S)) → All CountsSo ends → list_any is_unread (map stop_in ends) ≡ false → All (λ (s : S). faults s ≡ 0) (map source_left_in ends)
  calm [] counted none = λ k d lt. absurd (omega (arith, lt))
  calm (e ∷ ends) counted none =
      let here = calm_here e.stop (list_any is_unread (map stop_in ends)) (faults e.source) none (counted 0 e (omega arith)) in
      All-cons (λ (s : S). faults s ≡ 0) e.source (map source_left_in ends) here.0 (calm ends (All-tail CountsSo e ends counted) here.1)

  -- a count never falls
  count_grows : (count : ℕ) (sources : List S) → count ≤ last_count → count ≤ count_with faults count sources
  count_grows count [] few = omega arith
  count_grows count (s ∷ sources) few =
      let later = count_grows (count_sum count (faults s)) sources (omega arith) in
      omega (arith, later, few)

  -- a read of a source was refused, or of one after it
  rose_here : (s : SourceStop) (later : Bool) (now : ℕ) → (is_unread s || later) ≡ true → CountedSo (Some s) 0 now → (0 < now) ⊎ ((now ≡ 0) × (later ≡ true))
  rose_here stop.Closed later now some counted = inr (counted, some)
  rose_here (stop.Refused line fault) later now some counted = inr (counted, some)
  rose_here stop.ReadFault later now some counted = inl (omega (arith, counted.more))
  rose_here stop.OutOfMemory later now some counted = inr (counted, some)

  -- where a read was refused a count rises
  count_rose : (ends : List (SourceEnd S)) (count : ℕ) → All CountsSo ends → list_any is_unread (map stop_in ends) ≡ true → count < last_count → count < count_with faults count (map source_left_in ends)
  count_rose [] count counted some few = absurd (cc some)
  count_rose (e ∷ ends) count counted some few =
      elim (rose_here e.stop (list_any is_unread (map stop_in ends)) (faults e.source) some (counted 0 e (omega arith))) [
        | inl rose ↦ let grows = count_grows (count_sum count (faults e.source)) (map source_left_in ends) (omega arith) in omega (arith, grows, rose, few)
        | inr none ↦
            let same : count_sum count (faults e.source) ≡ count = omega (arith, none.0, few) in
            subst (λ (k : ℕ). count < count_with faults k (map source_left_in ends)) (sym same) (count_rose ends count (All-tail CountsSo e ends counted) none.1 few)
      ]

  -- so a count stays as it is
  pub ended_kept : (nodes : List PlanNode) (sources : List S) (given : Lists) (ends : List (SourceEnd S)) (count : ℕ) → AreEnded rest faults nodes sources given ends → list_any is_unread (map stop_in ends) ≡ false → count ≤ last_count → count_with faults count (map source_left_in ends) ≡ count
  ended_kept nodes sources given ends count ended none few = count_kept faults count (map source_left_in ends) few (calm ends (all_counts nodes sources given ends (ended.sources_count, ended.ends_count) (so_went rest faults nodes sources given ends ended) ended.fresh) none)

  -- or rises
  pub ended_rose : (nodes : List PlanNode) (sources : List S) (given : Lists) (ends : List (SourceEnd S)) (count : ℕ) → AreEnded rest faults nodes sources given ends → list_any is_unread (map stop_in ends) ≡ true → count < last_count → count < count_with faults count (map source_left_in ends)
  ended_rose nodes sources given ends count ended some few = count_rose ends count (all_counts nodes sources given ends (ended.sources_count, ended.ends_count) (so_went rest faults nodes sources given ends ended) ended.fresh) some few

  -- ---- how each was read

  -- a source was read far enough to judge its lines, and those after it were
  judged_here : (s : SourceStop) (short unread : Bool) → (is_short s || short) ≡ false → (is_unread s || unread) ≡ false → (short ≡ false) × (unread ≡ false) × IsJudged s
  judged_here stop.Closed short unread found calm = (found, calm, tt)
  judged_here (stop.Refused line fault) short unread found calm = (found, calm, tt)
  judged_here stop.ReadFault short unread found calm = absurd (cc calm)
  judged_here stop.OutOfMemory short unread found calm = absurd (cc found)

  -- where memory was found and no read was refused each was read far enough to judge its lines
  pub all_judged : (ends : List (SourceEnd S)) → list_any is_short (map stop_in ends) ≡ false → list_any is_unread (map stop_in ends) ≡ false → All (λ (e : SourceEnd S). IsJudged (stop_in e)) ends
  all_judged [] found none = λ k d lt. absurd (omega (arith, lt))
  all_judged (e ∷ ends) found none =
      let here = judged_here e.stop (list_any is_short (map stop_in ends)) (list_any is_unread (map stop_in ends)) found none in
      All-cons (λ (x : SourceEnd S). IsJudged (stop_in x)) e ends here.2 (all_judged ends here.0 here.1)
