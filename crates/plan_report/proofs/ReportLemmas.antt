-- What is reported of a run, by what is left of its workers and of its edges.
use Rattle.std.proofs.Common.{◌≡◌, ℕ, ◌≤◌, Bool, false, ◌||◌, List, [], ◌∷◌, Option, length, map, sym, ap, ◌∙◌, subst, arith}
use Rattle.std.specs.Prelude.{Vec}
use Rattle.std.specs.Global.{Global}
use Rattle.std.specs.List.{list_any}
use Rattle.std.proofs.lemmas.List.{length-map}
use Rattle.logbook.specs.Pages.{Book}
use Rattle.cedr_base.specs.declared.change.Change.{Change}
use Rattle.cedr_base.specs.Messages.{changes_of}
use Rattle.node_laws.specs.Lists.{Lists, list_at}
use Rattle.node_laws.specs.Pass.{pass}
use Rattle.plan_runs.proofs.PlanNodes.{split}
use Rattle.cedr_plan.specs.declared.plan.Plan.{Plan}
use Rattle.cedr_plan.specs.Rules.{IsPlan}
use Rattle.cedr_plan.specs.Places.{output_place, source_count}
use Rattle.cedr_plan.proofs.PlaceLemmas.{output_stands, place_within}
use Rattle.plan_runs.specs.Runs.{lists_at}
use Rattle.plan_runs.specs.Without.{forgot_in}
use Rattle.plan_edges.specs.Wires.{carried, froms, ports_of}
use Rattle.cedr_edge.specs.Ends.{Carried, taken_of}
use Rattle.cedr_worker.specs.declared.ran.Ran.{Ran}
use Rattle.cedr_worker.specs.declared.source.SourceEnd.{SourceEnd}
use Rattle.plan_workers.specs.declared.ended.Part.{Part}
use Rattle.plan_workers.specs.declared.ending.Closed.{Closed}
use Rattle.plan_answer.specs.declared.forgotten.PortForgotten.{PortForgotten}
use Rattle.plan_workers.specs.declared.held.HeldWriter.{HeldWriter}
use Rattle.plan_workers.specs.Crews.{node_in}
use Rattle.plan_workers.specs.Ends.{EndsAs}
use Rattle.plan_workers.specs.Forgettings.{AllTook}
use Rattle.plan_answer.specs.Forgettings.{nodes_forgot, port_forgot}
use Rattle.plan_workers.specs.Sortings.{source_ends_in, writers_in}
use Rattle.plan_workers.specs.Wents.{AreRan, Went, lacked_at, part_lacked, part_left, sources_left, takers_left}
use Rattle.plan_workers.proofs.AllLemmas.{all_count}
use Rattle.plan_workers.proofs.CountLemmas.{left_count}
use Rattle.plan_workers.proofs.LeftLemmas.{ports_left}
use Rattle.plan_workers.proofs.RanLemmas.{all_ran}
use Rattle.plan_workers.proofs.SortingLemmas.{none_lacked, one_writer, sources_most, sources_sorted, writer_published, writer_untold}
use Rattle.plan_workers.proofs.TookLemmas.{left_took}
use Rattle.plan_workers.proofs.WentLemmas.{all_gave, all_went, went_run}
use Rattle.plan_report.specs.declared.report.Outcome.{Outcome}
use Rattle.plan_report.specs.Reports.{HasOutcome, HaveEnded, IsReport}
use Rattle.plan_report.proofs.OutcomeLemmas.{left_false, right_false}

-- edges over which went a list for each of some places are as many as these
one_each : (edges : List Carried) (places : List ℕ) (given : Lists) → map (λ (e : Carried). e.sent) edges ≡ map (list_at given) places → length edges ≡ length places
one_each edges places given same = sym (length-map edges (λ (e : Carried). e.sent)) ∙ (ap length same ∙ length-map places (list_at given))

module _ {S R : Type 0} (rest : S → Option (List ℕ)) (faults : S → ℕ) (plan : Plan) (sources : List S) (history : Book) (closed : Closed S R) (is : IsPlan plan) (h : HaveEnded rest faults plan.nodes.items sources history closed) where
  -- the lists on the ports are those that the workers took
  taken : ports_of plan.nodes.items (carried closed.edges.items) ≡ map (map taken_of) (map takers_left h.ends)
  taken = ports_left rest faults plan.nodes.items h.takers h.putters sources history h.roles h.ends h.wired h.roles_are h.ended closed.edges.items h.edges

  -- one writer is left
  pub one : length (writers_in closed.parts.items) ≡ 1
  one = ap (λ ps. length (writers_in ps)) h.parts ∙ one_writer rest faults plan h.takers h.putters sources history h.roles h.ends is h.roles_are h.ended

  -- there are at most as many sources as nodes
  pub sources_few : length (source_ends_in closed.parts.items) ≤ length plan.nodes.items
  sources_few =
      let left : length closed.parts.items ≡ length h.ends = ap length h.parts ∙ length-map h.ends part_left in
      let ends = all_count (EndsAs rest faults) h.roles h.ends h.ended in
      let nodes : length h.roles ≡ length plan.nodes.items = sym (length-map h.roles node_in) ∙ ap length h.roles_are.nodes_are in
      omega (arith, sources_most closed.parts.items, left, ends, nodes)

  -- there is an end for each source
  pub sources_count : length (source_ends_in closed.parts.items) ≡ source_count plan.nodes.items
  sources_count =
      ap (λ (ps : List (Part S R)). length (source_ends_in ps)) h.parts ∙ (ap length (sym (sources_sorted h.ends)) ∙ (left_count rest faults h.roles h.ends h.ended ∙ ap source_count h.roles_are.nodes_are))

  -- the writer is that of the history, and made no last note
  pub writer_of : (held : HeldWriter R) → writers_in closed.parts.items ≡ held ∷ [] → (held.writer.history ≡ history) × (held.writer.concluded ≡ false)
  writer_of held alone = writer_untold rest faults plan.nodes.items h.takers h.putters sources history h.roles h.ends held h.roles_are h.ended (sym (ap writers_in h.parts) ∙ alone)

  -- where memory was found for each node, each stands for the lists on its ports
  pub took : list_any part_lacked closed.parts.items ≡ false → AllTook plan.nodes.items (ports_of plan.nodes.items (carried closed.edges.items)) closed.parts.items
  took found =
      subst (λ (ps : List (Part S R)). AllTook plan.nodes.items (ports_of plan.nodes.items (carried closed.edges.items)) ps) (sym h.parts)
      (subst (λ (ls : List Lists). AllTook plan.nodes.items ls (map part_left h.ends)) (sym taken)
      (left_took rest faults plan.nodes.items h.takers h.putters sources history h.roles h.ends h.roles_are h.ended (sym (ap (list_any part_lacked) h.parts) ∙ found)))

  -- no memory was lacking for the node at a place
  found_at : list_any part_lacked closed.parts.items ≡ false → (k : ℕ) → lacked_at h.ends k ≡ false
  found_at found = none_lacked h.ends (sym (ap (list_any part_lacked) h.parts) ∙ found)

  -- where memory was found, what was published are the changes that the output gave
  published : (given : Lists) (lacked : ℕ → Bool) (ends : List (SourceEnd S)) → Went rest faults plan.nodes.items sources (ports_of plan.nodes.items (carried closed.edges.items)) given lacked ends → list_any part_lacked closed.parts.items ≡ false → (held : HeldWriter R) → writers_in closed.parts.items ≡ held ∷ []
      → held.writer.published.changes ≡ changes_of (list_at given (output_place plan.nodes.items))
  published given lacked ends went found held alone =
      let s = split plan.nodes.items (output_place plan.nodes.items) (place_within plan is) in
      let output = output_stands plan s.before s.after s.node is s.whole s.place in
      writer_published rest faults plan.nodes.items h.takers h.putters sources history h.roles h.ends s.before s.after s.node held h.roles_are h.ended s.whole output (found_at found (length s.before)) (sym (ap writers_in h.parts) ∙ alone)
      ∙ (ap (λ (ls : List Lists). changes_of (pass s.node.level (list_at (lists_at ls (length s.before)) 0))) (sym taken)
      ∙ (ap changes_of (sym (went.passed s.before s.after s.node s.whole output)) ∙ ap (λ k. changes_of (list_at given k)) s.place))

  -- The report of a run: what is left of it, and what it lists where memory was found for that.
  pub reported : (o : Outcome) (forgotten : Vec PortForgotten Global) (changes : Vec Change Global) (ends : Vec (SourceEnd S) Global) (a b : Bool) (held : HeldWriter R) → ends.items ≡ source_ends_in closed.parts.items → HasOutcome plan.nodes.items ends.items (a || b) o
      → (a ≡ false → list_any part_lacked closed.parts.items ≡ false) → (a ≡ false → (lists : List Lists) → AllTook plan.nodes.items lists closed.parts.items → map port_forgot forgotten.items ≡ nodes_forgot 0 (forgot_in plan.nodes.items lists))
      → writers_in closed.parts.items ≡ held ∷ [] → (b ≡ false → changes.items ≡ held.writer.published.changes)
      → IsReport rest faults plan.nodes.items sources (record { outcome = o; forgotten = forgotten; edges = closed.edges; ran = closed.ran; changes = changes; sources = ends })
  reported o forgotten changes ends a b held sorted came found listed alone read =
      let all = all_gave rest faults h.roles h.ends h.ended in
      let first = all_went rest faults plan.nodes.items h.takers h.putters sources history h.roles h.ends closed.edges.items h.wired h.roles_are h.ended h.edges all in
      let left : sources_left h.ends ≡ ends.items = sources_sorted h.ends ∙ (ap source_ends_in (sym h.parts) ∙ sym sorted) in
      let went = subst (λ (es : List (SourceEnd S)). Went rest faults plan.nodes.items sources (ports_of plan.nodes.items (carried closed.edges.items)) all.given (lacked_at h.ends) es) left first in
      let ran = all_ran rest faults plan.nodes.items h.takers h.putters sources history h.roles h.ends closed.edges.items h.wired h.roles_are h.ended h.edges all in
      record {
        given = all.given;
        lacks = lacked_at h.ends;
        count = ap length sorted ∙ sources_count;
        edges = one_each closed.edges.items (froms plan.nodes.items) all.given (h.edges.sent all.given all.sent);
        went = went;
        ran = subst (λ (rs : List Ran). AreRan plan.nodes.items closed.edges.items rs) (sym h.ran) ran;
        short = a || b;
        came = came;
        found = λ none. found_at (found (left_false a b none));
        done = λ is_done.
            let closes = subst (λ (x : Outcome). HasOutcome plan.nodes.items ends.items (a || b) x) is_done came in
            let enough = found (left_false a b closes.0) in
            record {
              run = went_run rest faults plan.nodes.items sources (ports_of plan.nodes.items (carried closed.edges.items)) all.given (lacked_at h.ends) ends.items went (λ k within. found_at enough k);
              closed = closes.1;
              forgotten = listed (left_false a b closes.0) (ports_of plan.nodes.items (carried closed.edges.items)) (took enough);
              changes = read (right_false a b closes.0) ∙ published all.given (lacked_at h.ends) ends.items went enough held alone;
            };
      }
