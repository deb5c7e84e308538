-- What the sources of a plan gave so far, where it is known what their files hold.
use Rattle.std.proofs.Common.{◌≡◌, ℕ, inl, inr, List, [], ◌∷◌, ◌++◌, Bool, true, false, cond, length, map, refl, ap, sym, ◌∙◌, subst, arith, append_assoc}
use Rattle.std.specs.Prelude.{Option, Some, slice_index_or}
use Rattle.std.specs.Io.KnownBytes.{Consumes}
use Rattle.std.proofs.lemmas.Bool.{cases_Bool}
use Rattle.std.proofs.lemmas.List.{append-nil}
use Rattle.plan_answer.specs.Finds.{AreFound}
use Rattle.plan_workers.proofs.EndLemmas.{bytes_left, count_other, count_source, files_other, files_source}
use Rattle.cedr_base.specs.declared.change.Message.{Message}
use Rattle.cedr_base.specs.declared.change.Message.TheVariants as message
use Rattle.cedr_guard.specs.Messages.{messages_behind}
use Rattle.cedr_guard.specs.Sources.{ending, judged, messages_of}
use Rattle.node_laws.specs.Lists.{Lists, list_at}
use Rattle.worker_outlets.specs.Outgoing.{last_message}
use Rattle.cedr_plan.specs.declared.plan.PlanNode.{PlanNode}
use Rattle.plan_runs.specs.Runs.{IsPrefix, sources_in, IsPartialRun}
use Rattle.plan_answer.specs.Queries.{given_text, source_nodes, IsStrong}
use Rattle.cedr_plan.specs.Places.{is_source, output_place, source_count}
use Rattle.cedr_plan.proofs.PlaceLemmas.{sources_behind}
use Rattle.cedr_base.specs.Messages.{changes_of}
use Rattle.plan_answer.specs.Sources.{AreTold, file_of, source_files}
use Rattle.cedr_text.specs.declared.event_line.Shape.{Shape}
use Rattle.plan_report.specs.SoFar.{IsSoFar, SourceBegan, unbroken}
use Rattle.plan_report.proofs.CutLemmas.{unbroken_behind}
use Rattle.cedr_base.specs.declared.change.Change.{Change}
use Rattle.cedr_worker.specs.declared.source.SourceEnd.{SourceEnd}
use Rattle.cedr_worker.specs.declared.stop.SourceStop.{SourceStop}
use Rattle.cedr_worker.specs.declared.stop.SourceStop.TheVariants as stop
use Rattle.cedr_worker.specs.Stops.{IsGiven, StoppedAs, last_at}
use Rattle.cedr_commands.specs.Answers.{AllHaveBegun, HasBegun, StreamsSoFar, AddsInOrder}
use Rattle.cedr_worker.proofs.SourceLemmas.{open_unbroken}

-- ---- one source

-- what a source gave that was broken off is a front of the messages of its good lines
broken_off : (shape : Shape) (all bytes more : List ℕ) (given : List Message) (ended : Bool) → all ≡ bytes ++ more → (ended ≡ true → more ≡ []) → IsGiven shape bytes given ended → IsPrefix (unbroken (given ++ message.Broken ∷ [])) (messages_of shape all)
broken_off shape all bytes more given ended parts at_end is =
    let front = is.front more at_end in
    let lasting : unbroken (given ++ message.Broken ∷ []) ≡ given = unbroken_behind given (message.Broken ∷ []) (open_unbroken given is.goes) ∙ append-nil given in
    let rest = ending (judged shape all).fault in
    let good : given ++ front.rest ≡ messages_behind [] (judged shape all).good = front.begins ∙ ap (λ (bytes : List ℕ). messages_behind [] (judged shape bytes).good) (sym parts) in
    record {
      rest = front.rest ++ rest;
      all = ap (λ (ms : List Message). ms ++ (front.rest ++ rest)) lasting ∙ (sym (append_assoc given front.rest rest) ∙ ap (λ (ms : List Message). ms ++ rest) good);
    }

-- however it stopped
begun_by : (s : SourceStop) (shape : Shape) (all bytes more : List ℕ) (given : List Message) (ended : Bool) → all ≡ bytes ++ more → (ended ≡ true → more ≡ []) → IsGiven shape bytes given ended → StoppedAs s shape bytes given ended
    → IsPrefix (unbroken (given ++ last_message (last_at s) ∷ [])) (messages_of shape all)
begun_by stop.Closed shape all bytes more given ended parts at_end is stopped =
    let whole : bytes ≡ all = sym (append-nil bytes) ∙ (ap (λ (xs : List ℕ). bytes ++ xs) (sym (at_end stopped.at_end)) ∙ sym parts) in
    record {
      rest = [];
      all = append-nil (unbroken (given ++ message.End ∷ [])) ∙ (unbroken_behind given (message.End ∷ []) (open_unbroken given is.goes) ∙ (stopped.all ∙ ap (λ (xs : List ℕ). messages_of shape xs) whole));
    }
begun_by (stop.Refused line fault) shape all bytes more given ended parts at_end is stopped = broken_off shape all bytes more given ended parts at_end is
begun_by stop.ReadFault shape all bytes more given ended parts at_end is stopped = broken_off shape all bytes more given ended parts at_end is
begun_by stop.OutOfMemory shape all bytes more given ended parts at_end is stopped = broken_off shape all bytes more given ended parts at_end is

-- where it is known what its file holds
source_begun : {S : Type 0} (rest : S → Option (List ℕ)) (faults : S → ℕ) (told : List ℕ → List ℕ) (n : PlanNode) (s : S) (e : SourceEnd S) (given : List Message) → rest s ≡ Some (told (file_of n.kind)) → SourceBegan rest faults n s e given → HasBegun told n given
source_begun rest faults told n s e given known began =
    let all = told (file_of n.kind) in
    let went = began.went in
    let ends = went.ends in
    let read : Consumes (Some all) (rest e.source) ends.bytes = subst (λ (o : Option (List ℕ)). Consumes o (rest e.source) ends.bytes) known ends.read in
    let left = bytes_left (rest e.source) all ends.bytes ends.ended read ends.at_end in
    let first = begun_by e.stop went.shape all ends.bytes left.0 ends.given ends.ended left.1.0 left.1.1 ends.is_given ends.stopped in
    let same : unbroken (ends.given ++ last_message (last_at e.stop) ∷ []) ≡ given = sym (began.given_is ∙ ap unbroken went.given_is) in
    record { shape = went.shape; types = went.types; first = subst (λ (ms : List Message). IsPrefix ms (messages_of went.shape all)) same first }

-- ---- all sources of a plan

module _ {S : Type 0} (rest : S → Option (List ℕ)) (content : List ℕ → Option (List ℕ)) (told : List ℕ → List ℕ) where
  -- the source of a node after a source has what its file holds, where that is so among the sources after that one
  found_behind : (b : PlanNode) (before after : List PlanNode) (n : PlanNode)
      → ((sources : List S) → AreFound rest content (before ++ n ∷ after) sources → AreTold content told (source_files (before ++ n ∷ after)) → (s : S) → rest (slice_index_or sources (source_count before) s) ≡ Some (told (file_of n.kind)))
      → (sources : List S) → AreFound rest content (b ∷ (before ++ n ∷ after)) sources → AreTold content told (source_files (b ∷ (before ++ n ∷ after))) → (s : S) → is_source b.kind ≡ true → rest (slice_index_or sources (source_count (b ∷ before)) s) ≡ Some (told (file_of n.kind))
  found_behind b before after n later [] found known s one =
      let here : [] ≡ content (file_of b.kind) ∷ map content (source_files (before ++ n ∷ after)) = found ∙ ap (map content) (files_source b (before ++ n ∷ after) one) in
      absurd (cc here)
  found_behind b before after n later (x ∷ sources) found known s one =
      let files = files_source b (before ++ n ∷ after) one in
      let here : rest x ∷ map rest sources ≡ content (file_of b.kind) ∷ map content (source_files (before ++ n ∷ after)) = found ∙ ap (map content) files in
      let known_here : AreTold content told (file_of b.kind ∷ source_files (before ++ n ∷ after)) = subst (λ (ns : List (List ℕ)). AreTold content told ns) files known in
      let behind_it : map rest sources ≡ map content (source_files (before ++ n ∷ after)) = cc here in
      subst (λ (k : ℕ). rest (slice_index_or (x ∷ sources) k s) ≡ Some (told (file_of n.kind))) (sym (count_source b before one)) (later sources behind_it known_here.1 s)

  -- the source of a node has what its file holds
  found_at : (before after : List PlanNode) (n : PlanNode) (sources : List S) → AreFound rest content (before ++ n ∷ after) sources → AreTold content told (source_files (before ++ n ∷ after)) → is_source n.kind ≡ true → (s : S) → rest (slice_index_or sources (source_count before) s) ≡ Some (told (file_of n.kind))
  found_at [] after n [] found known is s =
      let here : [] ≡ content (file_of n.kind) ∷ map content (source_files after) = found ∙ ap (map content) (files_source n after is) in
      absurd (cc here)
  found_at [] after n (x ∷ sources) found known is s =
      let here : rest x ∷ map rest sources ≡ content (file_of n.kind) ∷ map content (source_files after) = found ∙ ap (map content) (files_source n after is) in
      let known_here : AreTold content told (file_of n.kind ∷ source_files after) = subst (λ (ns : List (List ℕ)). AreTold content told ns) (files_source n after is) known in
      let holds : rest x ≡ content (file_of n.kind) = cc here in
      holds ∙ known_here.0
  found_at (b ∷ before) after n sources found known is s = elim (cases_Bool (is_source b.kind)) [
    | inl one ↦ found_behind b before after n (λ xs held told_so d. found_at before after n xs held told_so is d) sources found known s one
    | inr other ↦
        (let files = files_other b (before ++ n ∷ after) other in
        let later = found_at before after n sources (found ∙ ap (map content) files) (subst (λ (ns : List (List ℕ)). AreTold content told ns) files known) is s in
        subst (λ (k : ℕ). rest (slice_index_or sources k s) ≡ Some (told (file_of n.kind))) (sym (count_other b before other)) later)
  ]

-- what one node more gave, which is a source or not
begun_more : (told : List ℕ → List ℕ) (b : Bool) (n : PlanNode) (nodes : List PlanNode) (l : List Message) (lists : Lists) → (b ≡ true → HasBegun told n l) → AllHaveBegun told nodes lists → AllHaveBegun told (cond b (n ∷ nodes) nodes) (cond b (l ∷ lists) lists)
begun_more told true n nodes l lists here all = (here refl, all)
begun_more told false n nodes l lists here all = all

-- where each source has begun so, all have
begun_each : (told : List ℕ → List ℕ) (nodes : List PlanNode) (given : Lists) → ((before after : List PlanNode) (n : PlanNode) → nodes ≡ before ++ n ∷ after → is_source n.kind ≡ true → HasBegun told n (list_at given (length before))) → AllHaveBegun told (source_nodes nodes) (sources_in nodes given)
begun_each told [] given each = tt
begun_each told (n ∷ nodes) [] each =
    begun_more told (is_source n.kind) n (source_nodes nodes) [] (sources_in nodes []) (each [] nodes n refl)
    (begun_each told nodes [] (λ before after m whole. each (n ∷ before) after m (ap (λ (ns : List PlanNode). n ∷ ns) whole)))
begun_each told (n ∷ nodes) (g ∷ given) each =
    begun_more told (is_source n.kind) n (source_nodes nodes) g (sources_in nodes given) (each [] nodes n refl)
    (begun_each told nodes given (λ before after m whole. each (n ∷ before) after m (ap (λ (ns : List PlanNode). n ∷ ns) whole)))

-- what a strong output gives in a partial run over the first messages of these sources
abbrev pub AllOrdered : (List ℕ → List ℕ) → List PlanNode → Type 0
AllOrdered told nodes = (begun : Lists) (ports : List Lists) (given : Lists) → AllHaveBegun told (source_nodes nodes) begun → IsPartialRun nodes begun ports given → IsStrong nodes → AddsInOrder (changes_of (list_at given (output_place nodes)))

-- the changes of a run so far are those of a partial run over the first messages of the sources
pub streams_so_far : {S : Type 0} (rest : S → Option (List ℕ)) (faults : S → ℕ) (content : List ℕ → Option (List ℕ)) (told : List ℕ → List ℕ) (nodes : List PlanNode) (sources : List S) (ends : List (SourceEnd S)) (list : List Change)
    → AllOrdered told nodes → length ends ≡ source_count nodes → AreFound rest content nodes sources → AreTold content told (source_files nodes) → (so_far : IsSoFar rest faults nodes sources ends list) → StreamsSoFar told nodes (given_text nodes so_far.given)
streams_so_far {S = S} rest faults content told nodes sources ends list ordered count found known so_far = record {
  begun = sources_in nodes so_far.given;
  first = begun_each told nodes so_far.given (each ends count so_far);
  ports = so_far.ports;
  given = so_far.given;
  run = so_far.run;
  ordered = ordered (sources_in nodes so_far.given) so_far.ports so_far.given (begun_each told nodes so_far.given (each ends count so_far)) so_far.run;
  text_is = refl;
}
  where
    each : (ends : List (SourceEnd S)) → length ends ≡ source_count nodes → (so_far : IsSoFar rest faults nodes sources ends list) → (before after : List PlanNode) (n : PlanNode) → nodes ≡ before ++ n ∷ after → is_source n.kind ≡ true → HasBegun told n (list_at so_far.given (length before))
    each [] count so_far before after n whole is = absurd (omega (arith, count, sources_behind nodes before after n whole is))
    each (e ∷ ends) count so_far before after n whole is =
        source_begun rest faults told n (slice_index_or sources (source_count before) e.source) (slice_index_or (e ∷ ends) (source_count before) e) (list_at so_far.given (length before))
        (found_at rest content told before after n sources (subst (λ (ns : List PlanNode). AreFound rest content ns sources) whole found) (subst (λ (ns : List PlanNode). AreTold content told (source_files ns)) whole known) is e.source)
        (so_far.source before after n whole is e.source e)
