-- What was published of a run's result begins what the run had come to before any break.
use Rattle.std.proofs.Common.{◌≡◌, ℕ, ◌<◌, Bool, true, false, List, [], ◌∷◌, ◌++◌, Option, length, map, refl, sym, ap, ◌∙◌, subst, arith}
use mathlib.Core.List.{IsPrefix}
use Rattle.std.proofs.lemmas.Bool.{or_parts}
use Rattle.std.proofs.lemmas.List.{length-map}
use Rattle.logbook.specs.Pages.{Book}
use Rattle.cedr_base.specs.declared.change.Change.{Change}
use Rattle.cedr_base.specs.declared.change.Message.{Message}
use Rattle.cedr_base.specs.declared.change.Message.TheVariants as message
use Rattle.cedr_base.specs.Messages.{changes_of, IsLegal}
use Rattle.change_laws.proofs.Legal.{changes-append, legal-push}
use Rattle.cedr_history.proofs.Fronts.{prefix_trans}
use Rattle.node_laws.specs.Lawful.{has_broken, is_over, IsLawful}
use Rattle.node_laws.specs.Lists.{Lists, list_at}
use Rattle.node_laws.specs.Pass.{has_end, pass}
use Rattle.node_laws.proofs.Ends.{open_from}
use Rattle.node_laws.proofs.Giving.{lawful_legal}
use Rattle.node_laws.proofs.Passes.{passes}
use Rattle.plan_runs.proofs.PlanNodes.{split, node_stands, place_within as node_within}
use Rattle.worker_outlets.specs.declared.last.Last.{Last}
use Rattle.worker_outlets.specs.declared.last.Last.TheVariants as last
use Rattle.worker_outlets.specs.Outgoing.{last_message}
use Rattle.cedr_plan.specs.declared.plan.Plan.{Plan}
use Rattle.cedr_plan.specs.declared.plan.PlanNode.{PlanNode}
use Rattle.cedr_plan.specs.Drawn.{node_of}
use Rattle.cedr_plan.specs.Rules.{AreNodes, IsNode, IsPlan}
use Rattle.cedr_plan.specs.Places.{is_output, is_source, output_place}
use Rattle.cedr_plan.proofs.PlaceLemmas.{inputs_are, output_stands, place_within}
use Rattle.plan_runs.specs.Runs.{input_lists, lists_at}
use Rattle.plan_edges.specs.Wires.{carried, ports_of}
use Rattle.cedr_edge.specs.Ends.{taken_of}
use Rattle.cedr_worker.specs.declared.source.SourceEnd.{SourceEnd}
use Rattle.cedr_worker.specs.Stops.{last_at}
use Rattle.op_node.specs.Meanings.{meaning_of, port_levels}
use Rattle.plan_workers.specs.declared.ending.Closed.{Closed}
use Rattle.plan_workers.specs.declared.held.HeldWriter.{HeldWriter}
use Rattle.plan_workers.specs.Sortings.{source_ends_in, writers_in}
use Rattle.plan_workers.specs.Wents.{LostWent, Went, lacked_at, sources_left, takers_left}
use Rattle.plan_workers.proofs.LeftLemmas.{ports_left}
use Rattle.plan_workers.proofs.SortingLemmas.{sources_sorted, writer_begun}
use Rattle.plan_workers.proofs.WentLemmas.{AllGave, all_gave, all_went}
use Rattle.plan_report.specs.Reports.{HaveEnded}
use Rattle.plan_report.specs.SoFar.{IsSoFar, unbroken}
use Rattle.plan_report.proofs.CutLemmas.{IsCut, cut_of, prefixes_along, unbroken_changes, unbroken_pushed}
use Rattle.plan_report.proofs.CutRunLemmas.{all_legal, cut_at, cut_run, inputs_legal, output_cut, prefixes_legal}

-- the first messages have the first changes
changes_first : (ms whole : List Message) → IsPrefix ms whole → IsPrefix (changes_of ms) (changes_of whole)
changes_first ms whole h = (changes_of h.0, sym (changes-append ms h.0) ∙ ap changes_of h.1)

-- a legal list that goes on may end or break
last_legal : (ms : List Message) (l : Last) → IsLegal ms → is_over ms ≡ false → IsLegal (ms ++ last_message l ∷ [])
last_legal ms last.End legal goes = let parts = or_parts (has_end ms) (has_broken ms) goes in legal-push ms message.End legal (open_from ms parts.0 parts.1, tt)
last_legal ms last.Broken legal goes = let parts = or_parts (has_end ms) (has_broken ms) goes in legal-push ms message.Broken legal (open_from ms parts.0 parts.1, tt)

-- what a node gave of legal lists for which memory was lacking is legal
lost_legal : (n : PlanNode) (lists : Lists) (given : List Message) → LostWent n lists given → ((port : ℕ) → IsLegal (list_at lists port)) → IsLegal given
lost_legal n lists given h legal = subst IsLegal (sym h.given_is) (last_legal h.first last.Broken (lawful_legal (meaning_of n) (port_levels n) h.before h.first h.lawful (prefixes_legal h.before lists h.prefixes legal)) h.goes)

-- and such a node can be cut
lost_cut : (n : PlanNode) (lists : Lists) (given : List Message) → LostWent n lists given → IsCut (meaning_of n) (port_levels n) lists given
lost_cut n lists given h =
    let c = cut_of (meaning_of n) (port_levels n) h.before h.first h.lawful in
    record {
      before = c.before;
      prefixes = prefixes_along c.before h.before lists c.prefixes h.prefixes;
      lawful = subst (IsLawful (meaning_of n) (port_levels n) c.before) (sym (ap unbroken h.given_is ∙ unbroken_pushed h.first)) c.lawful;
      sound = c.sound;
    }

module _ {S : Type 0} (rest : S → Option (List ℕ)) (faults : S → ℕ) (nodes : List PlanNode) (sources : List S) (ports : List Lists) (given : Lists) (lacked : ℕ → Bool) (ends : List (SourceEnd S)) (are : AreNodes [] (map node_of nodes)) (went : Went rest faults nodes sources ports given lacked ends)
    (sources_legal : (before after : List PlanNode) (n : PlanNode) → nodes ≡ before ++ n ∷ after → is_source n.kind ≡ true → IsLegal (list_at given (length before))) where
  -- an output gave what its port passes on
  passed : (before after : List PlanNode) (n : PlanNode) → nodes ≡ before ++ n ∷ after → is_output n.kind ≡ true → list_at given (length before) ≡ pass n.level (list_at (input_lists given n) 0)
  passed before after n whole output = went.passed before after n whole output ∙ ap (λ (ls : Lists). pass n.level (list_at ls 0)) (went.edges before after n whole)

  -- a node gave a legal list of legal lists
  each_legal : (before after : List PlanNode) (n : PlanNode) → nodes ≡ before ++ n ∷ after → ((port : ℕ) → IsLegal (list_at (input_lists given n) port)) → IsLegal (list_at given (length before))
  each_legal before after n whole legal = by (is_source n.kind) (is_output n.kind) (lacked (length before)) refl refl refl
    where
      here : (port : ℕ) → IsLegal (list_at (lists_at ports (length before)) port)
      here = subst (λ (ls : Lists). (port : ℕ) → IsLegal (list_at ls port)) (sym (went.edges before after n whole)) legal

      by : (s o l : Bool) → is_source n.kind ≡ s → is_output n.kind ≡ o → lacked (length before) ≡ l → IsLegal (list_at given (length before))
      by true o l source output lack = sources_legal before after n whole source
      by false true l source output lack = subst IsLegal (sym (passed before after n whole output)) (passes n.level (list_at (input_lists given n) 0) (legal 0)).legal
      by false false true source output lack = lost_legal n (lists_at ports (length before)) (list_at given (length before)) (went.lost before after n whole source output lack) here
      by false false false source output lack = lawful_legal (meaning_of n) (port_levels n) (lists_at ports (length before)) (list_at given (length before)) (went.sound before after n whole source lack) here

  -- each node gave a legal list
  went_legal : (k : ℕ) → k < length nodes → IsLegal (list_at given k)
  went_legal = all_legal nodes given are each_legal

  -- each node that is no source can be cut
  node_cut : (before after : List PlanNode) (n : PlanNode) → nodes ≡ before ++ n ∷ after → is_source n.kind ≡ false → IsCut (meaning_of n) (port_levels n) (input_lists given n) (list_at given (length before))
  node_cut before after n whole source = by (is_output n.kind) (lacked (length before)) refl refl
    where
      stands : IsNode (map node_of before) (node_of n)
      stands = node_stands nodes before after n are whole

      inputs : (port : ℕ) → IsLegal (list_at (input_lists given n) port)
      inputs = inputs_legal given (length before) (λ k earlier. went_legal k (omega (arith, earlier, node_within nodes before after n whole))) n.inputs.items (inputs_are before n stands)

      here : IsCut (meaning_of n) (port_levels n) (lists_at ports (length before)) (list_at given (length before)) → IsCut (meaning_of n) (port_levels n) (input_lists given n) (list_at given (length before))
      here cut = subst (λ (ls : Lists). IsCut (meaning_of n) (port_levels n) ls (list_at given (length before))) (went.edges before after n whole) cut

      by : (o l : Bool) → is_output n.kind ≡ o → lacked (length before) ≡ l → IsCut (meaning_of n) (port_levels n) (input_lists given n) (list_at given (length before))
      by true l output lack = output_cut before n (input_lists given n) (list_at given (length before)) output stands (length-map n.inputs.items (list_at given)) inputs (passed before after n whole output)
      by false true output lack = here (lost_cut n (lists_at ports (length before)) (list_at given (length before)) (went.lost before after n whole source output lack))
      by false false output lack = here (cut_of (meaning_of n) (port_levels n) (lists_at ports (length before)) (list_at given (length before)) (went.sound before after n whole source lack))

  -- What begins the changes of the output's list begins what the run had come to before any break.
  so_far : (place : ℕ) → place ≡ output_place nodes → place < length nodes → (list : List Change) → IsPrefix list (changes_of (list_at given place)) → IsSoFar rest faults nodes sources ends list
  so_far place at within list first =
      let c = cut_run nodes given node_cut in
      let same : changes_of (list_at given place) ≡ changes_of (list_at (map unbroken given) (output_place nodes)) =
      sym (unbroken_changes (list_at given place) (went_legal place within)) ∙ (ap changes_of (sym (cut_at given place)) ∙ ap (λ (k : ℕ). changes_of (list_at (map unbroken given) k)) at) in
      record {
        ports = c.ports;
        given = map unbroken given;
        run = c.run;
        source = λ before after n whole is s e. record { whole = list_at given (length before); went = went.source before after n whole is s e; given_is = cut_at given (length before) };
        first = subst (IsPrefix list) same first;
      }

module _ {S R : Type 0} (rest : S → Option (List ℕ)) (faults : S → ℕ) (plan : Plan) (sources : List S) (history : Book) (closed : Closed S R) (is : IsPlan plan) (h : HaveEnded rest faults plan.nodes.items sources history closed) where
  -- the list that a source gave is legal
  source_legal : (all : AllGave rest faults h.roles h.ends) (before after : List PlanNode) (n : PlanNode) → plan.nodes.items ≡ before ++ n ∷ after → is_source n.kind ≡ true → IsLegal (list_at all.given (length before))
  source_legal all before after n whole source =
      let here = all.each before after n (h.roles_are.nodes_are ∙ whole) in
      let left = here.gave.source (ap (λ (x : PlanNode). is_source x.kind) here.node_is ∙ source) in
      let given = left.gave.ends.is_given in
      subst IsLegal (sym (here.given_is ∙ left.gave.given_is)) (last_legal left.gave.ends.given (last_at left.end.stop) given.legal given.goes)

  -- What begins the published list of a run's result begins what the run had come to before any break, however it ended.
  pub began : (held : HeldWriter R) → writers_in closed.parts.items ≡ held ∷ [] → (list : List Change) → IsPrefix list held.writer.published.changes → IsSoFar rest faults plan.nodes.items sources (source_ends_in closed.parts.items) list
  began held alone list first =
      let all = all_gave rest faults h.roles h.ends h.ended in
      let went = all_went rest faults plan.nodes.items h.takers h.putters sources history h.roles h.ends closed.edges.items h.wired h.roles_are h.ended h.edges all in
      let left : sources_left h.ends ≡ source_ends_in closed.parts.items = sources_sorted h.ends ∙ ap source_ends_in (sym h.parts) in
      let s = split plan.nodes.items (output_place plan.nodes.items) (place_within plan is) in
      let output = output_stands plan s.before s.after s.node is s.whole s.place in
      let within = subst (λ (k : ℕ). k < length plan.nodes.items) (sym s.place) (place_within plan is) in
      let taken = ports_left rest faults plan.nodes.items h.takers h.putters sources history h.roles h.ends h.wired h.roles_are h.ended closed.edges.items h.edges in
      let published = writer_begun rest faults h.roles h.ends s.before s.after s.node held h.ended (h.roles_are.nodes_are ∙ s.whole) output (sym (ap writers_in h.parts) ∙ alone) in
      let given : pass s.node.level (list_at (lists_at (map (map taken_of) (map takers_left h.ends)) (length s.before)) 0) ≡ list_at all.given (length s.before) =
      ap (λ (ls : List Lists). pass s.node.level (list_at (lists_at ls (length s.before)) 0)) (sym taken) ∙ sym (went.passed s.before s.after s.node s.whole output) in
      let begins = changes_first published.given (list_at all.given (length s.before)) (subst (IsPrefix published.given) given published.first) in
      subst (λ (ends : List (SourceEnd S)). IsSoFar rest faults plan.nodes.items sources ends list) left
      (so_far rest faults plan.nodes.items sources (ports_of plan.nodes.items (carried closed.edges.items)) all.given (lacked_at h.ends) (sources_left h.ends) is.nodes went (source_legal all) (length s.before) s.place within list
      (prefix_trans list held.writer.published.changes (changes_of (list_at all.given (length s.before))) first (subst (λ (cs : List Change). IsPrefix cs (changes_of (list_at all.given (length s.before)))) (sym published.begun) begins)))
