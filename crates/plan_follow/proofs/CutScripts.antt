-- A script that is followed, cut, saved at the cut, and followed on.
use Rattle.std.proofs.Common.{◌≡◌, ℕ, ◌+◌, List, [], ◌++◌, length, None, refl, ap, sym, ◌∙◌, subst, arith}
use Rattle.std.specs.Prelude.{map}
use Rattle.std.proofs.lemmas.List.{length-map, map-append}
use Rattle.cedr_base.proofs.Bags.{count_of-append}
use Rattle.cedr_base.specs.Changes.{all_puts, all_takes}
use Rattle.cedr_base.specs.Messages.{changes_of, mark_of, IsTableOf}
use Rattle.cedr_base.specs.Rows.{count_of, SameRows}
use Rattle.cedr_base.specs.declared.change.Change.{Change}
use Rattle.cedr_base.specs.declared.change.Message.{Message}
use Rattle.cedr_base.specs.declared.row.Row.{Row}
use Rattle.cedr_guard.proofs.SourceLemmas.{Law}
use Rattle.cedr_guard.proofs.SpeltLemmas.{spelt_same}
use Rattle.cedr_guard.proofs.StateHistories.{spelt_history}
use Rattle.cedr_guard.specs.History.{history_of}
use Rattle.cedr_guard.specs.Judging.{guarantee_of, AreAccepted}
use Rattle.cedr_guard.specs.Messages.{messages_behind}
use Rattle.cedr_guard.specs.Spelt.{state_of, lines_of}
use Rattle.cedr_guard.specs.States.{SameState}
use Rattle.cedr_plan.proofs.PlaceLemmas.{planned_nodes, place_among}
use Rattle.cedr_plan.specs.Places.{output_place, source_count}
use Rattle.cedr_plan.specs.Rules.{ArePlanned}
use Rattle.cedr_plan.specs.declared.plan.PlanNode.{PlanNode}
use Rattle.cedr_script.specs.Cutting.{line_answer, script_answers}
use Rattle.cedr_table.specs.Operators.{Tables}
use Rattle.cedr_text.specs.Lines.{raw_lines}
use Rattle.cedr_text.specs.declared.event_line.EventLine.{EventLine}
use Rattle.cedr_text.specs.declared.event_line.Shape.{Shape}
use Rattle.change_laws.proofs.Legal.{changes-append, mark-append}
use Rattle.change_laws.proofs.RepairLemmas.{takes-append, puts-append}
use Rattle.node_laws.proofs.Passes.{one_table}
use Rattle.node_laws.specs.Lists.{Lists, list_at}
use Rattle.plan_follow.proofs.AlikeLemmas.{KnowsOpen, left_knows}
use Rattle.plan_follow.proofs.CutSources.{CutScript, script_cut, lines_joined, sent_sources, sources_accepted, sources_same, spelt_sources, from_count}
use Rattle.plan_follow.proofs.CutSteps.{StandTogether, EndTogether, none_before, lines_on}
use Rattle.plan_follow.proofs.SiftLemmas.{sifted-append}
use Rattle.plan_follow.proofs.StateLemmas.{left_at}
use Rattle.plan_follow.specs.Cut.{followed_whole, lines_saved, followed_on, MayBeCut, GaveParts}
use Rattle.plan_follow.specs.Following.{GaveMore}
use Rattle.plan_follow.specs.Sifted.{Sifted, sifted, sifted_behind, left_of}
use Rattle.plan_live.proofs.GuardLemmas.{no_line, no_lines_count}
use Rattle.plan_live.proofs.ShownLemmas.{messages_at}
use Rattle.plan_live.proofs.SoFarLemmas.{all_go, tables_so_far, marks_so_far}
use Rattle.plan_live.specs.Resumed.{states_so_far, lines_from}
use Rattle.plan_live.specs.Scripts.{Accepted, lines_at, no_lines, messages_so_far, Played, played_behind, played}
use Rattle.plan_live.specs.SoFar.{AreLines, source_lines, histories_so_far, guarantees_so_far}
use Rattle.plan_runs.proofs.NowRuns.{StandsAs, stands_as}
use Rattle.plan_runs.specs.Now.{Standing, standing_at, standings, AllCanSave, SourcesStand}
use Rattle.plan_runs.specs.Runs.{sources_in, IsRun}

-- ---- before the first line

-- what is remembered and was sent behind some accepted lines
first_knows : (before : Accepted) (k : ℕ) → AreAccepted (lines_at before k) → KnowsOpen (lines_at (map left_of before) k) (lines_at before k)
first_knows before k accepted = subst (λ (kept : List EventLine). KnowsOpen kept (lines_at before k)) (sym (left_at before k)) (left_knows (lines_at before k) accepted)

-- before the first line of the script both are the same
none_stand : (nodes : List PlanNode) → StandTogether nodes (sifted_behind (no_lines nodes)) (sifted_behind (no_lines nodes)) (no_lines nodes) (no_lines nodes)
none_stand nodes =
    let before = no_lines nodes in
    let count = no_lines_count nodes in
    let knows : (k : ℕ) → KnowsOpen (lines_at (map left_of before) k) (lines_at before k) = λ k. first_knows before k (subst AreAccepted (sym (no_line nodes k)) tt) in
    record {
      each = λ k within source. record {
        mine = knows k;
        sent_mine = messages_at before k;
        theirs = knows k;
        sent_theirs = messages_at before k;
        state = record { mark = refl; events = λ id. refl };
        history = refl;
      };
      kept_count = length-map before left_of ∙ count;
      sent_count = length-map before (messages_behind []) ∙ count;
      lines_count = count;
      their_kept_count = length-map before left_of ∙ count;
      their_sent_count = length-map before (messages_behind []) ∙ count;
      their_lines_count = count;
      quiet = refl;
    }

-- behind the states of some lines the others stand beside what was followed until then
states_stand : (nodes : List PlanNode) (s : Sifted) (lines : Accepted) → StandTogether nodes s s lines lines → StandTogether nodes s (sifted_behind (lines_from nodes (states_so_far nodes lines))) lines (lines_from nodes (states_so_far nodes lines))
states_stand nodes s lines at =
    let saved = lines_from nodes (states_so_far nodes lines) in
    let count = from_count nodes (states_so_far nodes lines) in
    record {
      each = λ k within source.
          let b = at.each k within source in
          let here : List EventLine = lines_at lines k in
          let is : lines_at saved k ≡ lines_of (state_of here) = spelt_sources nodes lines at.lines_count k within source in
          let spelt = spelt_same here b.mine.theirs in
          record {
            mine = b.mine;
            sent_mine = b.sent_mine;
            theirs = first_knows saved k (subst AreAccepted (sym is) spelt.0);
            sent_theirs = messages_at saved k;
            state = subst (λ (l : List EventLine). SameState here l) (sym is) spelt.1;
            history = sym (ap history_of is ∙ spelt_history here b.mine.theirs);
          };
      kept_count = at.kept_count;
      sent_count = at.sent_count;
      lines_count = at.lines_count;
      their_kept_count = length-map saved left_of ∙ count;
      their_sent_count = length-map saved (messages_behind []) ∙ count;
      their_lines_count = count;
      quiet = refl;
    }

-- ---- what the sources were sent

-- what was sent are the messages of these lines, which are accepted
pub record SentLines (nodes : List PlanNode) (sent : Lists) (lines : Accepted) : Type 0 where
  pub sources : sources_in nodes sent ≡ messages_so_far (source_lines nodes lines)
  pub accepted : AreLines (source_lines nodes lines)

-- the lines of two have the same histories and the same guarantees
pub record SameSoFar (nodes : List PlanNode) (lines others : Accepted) : Type 0 where
  pub histories : histories_so_far nodes lines ≡ histories_so_far nodes others
  pub guarantees : guarantees_so_far nodes lines ≡ guarantees_so_far nodes others

mine_sent : (nodes : List PlanNode) (s t : Sifted) (lines others : Accepted) → StandTogether nodes s t lines others → SentLines nodes s.sent lines
mine_sent nodes s t lines others at = record {
  sources = sent_sources nodes s.sent lines (λ k within source. (at.each k within source).sent_mine);
  accepted = sources_accepted nodes lines (λ k within source. (at.each k within source).mine.theirs);
}

theirs_sent : (nodes : List PlanNode) (s t : Sifted) (lines others : Accepted) → StandTogether nodes s t lines others → SentLines nodes t.sent others
theirs_sent nodes s t lines others at = record {
  sources = sent_sources nodes t.sent others (λ k within source. (at.each k within source).sent_theirs);
  accepted = sources_accepted nodes others (λ k within source. (at.each k within source).theirs.theirs);
}

same_so_far : (nodes : List PlanNode) (s t : Sifted) (lines others : Accepted) → StandTogether nodes s t lines others → SameSoFar nodes lines others
same_so_far nodes s t lines others at = record {
  histories = sources_same history_of nodes lines others (λ k within source. (at.each k within source).history);
  guarantees = sources_same guarantee_of nodes lines others (λ k within source. (at.each k within source).state.mark);
}

-- What the four were sent: the whole, its first part, the states, and the rest behind them.
pub record AllSent (nodes : List PlanNode) (shapes : List Shape) (first more : List ℕ) : Type 0 where
  pub whole_lines : Accepted
  pub first_lines : Accepted
  pub rest_lines : Accepted
  pub whole : SentLines nodes (followed_whole nodes shapes (first ++ more)).sent whole_lines
  pub front : SentLines nodes (followed_whole nodes shapes first).sent first_lines
  pub saved : SentLines nodes (sifted_behind (lines_saved nodes shapes first)).sent (lines_saved nodes shapes first)
  pub rest : SentLines nodes (followed_on nodes shapes first more).sent rest_lines
  pub front_same : SameSoFar nodes first_lines (lines_saved nodes shapes first)
  pub whole_same : SameSoFar nodes whole_lines rest_lines

module _ (law : Law) (nodes : List PlanNode) (shapes : List Shape) (first more : List ℕ) (may : MayBeCut nodes shapes first more) where
  abbrev front : Sifted
  front = followed_whole nodes shapes first

  abbrev saved : Accepted
  saved = lines_saved nodes shapes first

  script : CutScript nodes shapes first more
  script = script_cut nodes shapes first more may.ends may.accepted

  -- the whole is followed as its first part and then its rest
  whole_is : followed_whole nodes shapes (first ++ more) ≡ sifted nodes shapes front (script_answers more)
  whole_is =
      ap (λ (lines : List (List ℕ)). sifted nodes shapes (sifted_behind (no_lines nodes)) (map line_answer lines)) (lines_joined first more may.ends)
      ∙ (ap (sifted nodes shapes (sifted_behind (no_lines nodes))) (map-append line_answer (raw_lines first) (raw_lines more))
      ∙ sifted-append nodes shapes (sifted_behind (no_lines nodes)) (script_answers first) (script_answers more))

  rest_quiet : (sifted nodes shapes front (script_answers more)).refusals ≡ []
  rest_quiet = ap (λ (s : Sifted). s.refusals) (sym whole_is) ∙ may.taken

  -- no line of the first part is refused
  front_quiet : front.refusals ≡ []
  front_quiet = none_before nodes shapes front (script_answers more) rest_quiet

  front_stands : StandTogether nodes front front (played nodes shapes first).lines (played nodes shapes first).lines
  front_stands =
      let begun : (played_behind nodes shapes 0 (no_lines nodes) (raw_lines first)).fault ≡ None = ap (λ (p : Played). p.fault) (sym script.first_is) ∙ script.cut.begun in
      let e = lines_on nodes shapes law (raw_lines first) 0 0 (sifted_behind (no_lines nodes)) (sifted_behind (no_lines nodes)) (no_lines nodes) (no_lines nodes) (none_stand nodes) front_quiet begun in
      subst (λ (p : Played). StandTogether nodes front front p.lines p.lines) (sym script.first_is) e.at

  begin_stands : StandTogether nodes front (sifted_behind saved) (played nodes shapes first).lines saved
  begin_stands = states_stand nodes front (played nodes shapes first).lines front_stands

  rest_stands : EndTogether nodes shapes (sifted nodes shapes front (script_answers more)) (followed_on nodes shapes first more) (played_behind nodes shapes script.cut.count (played nodes shapes first).lines (raw_lines more)) (played_behind nodes shapes 0 saved (raw_lines more))
  rest_stands = lines_on nodes shapes law (raw_lines more) script.cut.count 0 front (sifted_behind saved) (played nodes shapes first).lines saved begin_stands rest_quiet script.cut.ended

  -- nor is one of the rest behind the states
  pub none_refused : ((followed_whole nodes shapes first).refusals ≡ []) × ((followed_on nodes shapes first more).refusals ≡ [])
  none_refused = (front_quiet, rest_stands.at.quiet)

  pub all_sent : AllSent nodes shapes first more
  all_sent =
      let whole = sifted nodes shapes front (script_answers more) in
      let on = followed_on nodes shapes first more in
      let lines = (played_behind nodes shapes script.cut.count (played nodes shapes first).lines (raw_lines more)).lines in
      let others = (played_behind nodes shapes 0 saved (raw_lines more)).lines in
      record {
        whole_lines = lines;
        first_lines = (played nodes shapes first).lines;
        rest_lines = others;
        whole = subst (λ (s : Sifted). SentLines nodes s.sent lines) (sym whole_is) (mine_sent nodes whole on lines others rest_stands.at);
        front = mine_sent nodes front front (played nodes shapes first).lines (played nodes shapes first).lines front_stands;
        saved = theirs_sent nodes front (sifted_behind saved) (played nodes shapes first).lines saved begin_stands;
        rest = theirs_sent nodes whole on lines others rest_stands.at;
        front_same = same_so_far nodes front (sifted_behind saved) (played nodes shapes first).lines saved begin_stands;
        whole_same = same_so_far nodes whole on lines others rest_stands.at;
      }

-- ---- what the output gave

-- what stands at the output, over these lines
abbrev stands_over : List PlanNode → Accepted → Standing
stands_over nodes lines = standing_at (standings (histories_so_far nodes lines) (guarantees_so_far nodes lines) nodes) (output_place nodes)

same_over : (nodes : List PlanNode) (lines others : Accepted) → SameSoFar nodes lines others → stands_over nodes lines ≡ stands_over nodes others
same_over nodes lines others same =
    ap (λ (ts : Tables). standing_at (standings ts (guarantees_so_far nodes lines) nodes) (output_place nodes)) same.histories
    ∙ ap (λ (ms : List ℕ). standing_at (standings (histories_so_far nodes others) ms nodes) (output_place nodes)) same.guarantees

module _ (nodes : List PlanNode) (planned : ArePlanned nodes) (save : AllCanSave (length nodes) nodes) where
  run_stands : (sent : Lists) (lines : Accepted) (ports : List Lists) (given : Lists) → SentLines nodes sent lines → IsRun nodes (sources_in nodes sent) ports given → StandsAs (list_at given (output_place nodes)) (stands_over nodes lines)
  run_stands sent lines ports given are run =
      let sources = messages_so_far (source_lines nodes lines) in
      let stand : SourcesStand nodes sources (histories_so_far nodes lines) (guarantees_so_far nodes lines) = record {
        going = all_go (source_count nodes) (source_lines nodes lines) are.accepted;
        tables_are = tables_so_far (source_lines nodes lines) are.accepted;
        marks_are = marks_so_far (source_count nodes) (source_lines nodes lines) are.accepted;
      } in
      stands_as nodes (length nodes) sources (histories_so_far nodes lines) (guarantees_so_far nodes lines) ports given (planned_nodes nodes planned) (subst (λ (gave : Lists). IsRun nodes gave ports given) are.sources run) stand save (output_place nodes)
      (place_among nodes planned) (place_among nodes planned)

  gave_stands : (sent : Lists) (lines : Accepted) (start : Lists) (more : List Message) → SentLines nodes sent lines → GaveMore nodes start sent more → StandsAs (list_at start (output_place nodes) ++ more) (stands_over nodes lines)
  gave_stands sent lines start more are gave = subst (λ (ms : List Message). StandsAs ms (stands_over nodes lines)) gave.all (run_stands sent lines gave.ports gave.given are gave.run)

  module _ (shapes : List Shape) (first more : List ℕ) (sent : AllSent nodes shapes first more) (whole front rest : List Message) (gave : GaveParts nodes shapes first more whole front rest) where
    abbrev start : List Message
    start = list_at gave.start (output_place nodes)

    whole_stands : StandsAs whole (stands_over nodes sent.whole_lines)
    whole_stands = gave_stands (followed_whole nodes shapes (first ++ more)).sent sent.whole_lines [] whole sent.whole gave.all

    front_gave : StandsAs front (stands_over nodes sent.first_lines)
    front_gave = gave_stands (followed_whole nodes shapes first).sent sent.first_lines [] front sent.front gave.begun

    start_stands : StandsAs start (stands_over nodes sent.first_lines)
    start_stands =
        subst (StandsAs start) (sym (same_over nodes sent.first_lines (lines_saved nodes shapes first) sent.front_same))
        (run_stands (sifted_behind (lines_saved nodes shapes first)).sent (lines_saved nodes shapes first) gave.saved.ports gave.start sent.saved gave.saved.run)

    rest_gave : StandsAs (start ++ rest) (stands_over nodes sent.whole_lines)
    rest_gave =
        subst (StandsAs (start ++ rest)) (sym (same_over nodes sent.whole_lines sent.rest_lines sent.whole_same))
        (gave_stands (followed_on nodes shapes first more).sent sent.rest_lines gave.start rest sent.rest gave.goes_on)

    count_puts : (r : Row) → count_of r (all_puts (changes_of (start ++ rest))) ≡ count_of r (all_puts (changes_of start)) + count_of r (all_puts (changes_of rest))
    count_puts r = ap (λ (cs : List Change). count_of r (all_puts cs)) (changes-append start rest) ∙ puts-append r (changes_of start) (changes_of rest)

    count_takes : (r : Row) → count_of r (all_takes (changes_of (start ++ rest))) ≡ count_of r (all_takes (changes_of start)) + count_of r (all_takes (changes_of rest))
    count_takes r = ap (λ (cs : List Change). count_of r (all_takes cs)) (changes-append start rest) ∙ takes-append r (changes_of start) (changes_of rest)

    -- with the first table, the changes of the rest make that of the whole
    pub tables_meet : (rows first_rows : List Row) → IsTableOf whole rows → IsTableOf front first_rows → SameRows (rows ++ all_takes (changes_of rest)) (first_rows ++ all_puts (changes_of rest))
    tables_meet rows first_rows is first_is = record {
      each = λ r.
          let now : List Row = (stands_over nodes sent.whole_lines).table in
          let then : List Row = (stands_over nodes sent.first_lines).table in
          omega (
            arith,
            count_of-append r rows (all_takes (changes_of rest)),
            count_of-append r first_rows (all_puts (changes_of rest)),
            (one_table whole rows now is whole_stands.table).each r,
            (one_table front first_rows then first_is front_gave.table).each r,
            rest_gave.table.sums.each r,
            start_stands.table.sums.each r,
            count_of-append r now (all_takes (changes_of (start ++ rest))),
            count_of-append r then (all_takes (changes_of start)),
            count_puts r,
            count_takes r,
          );
    }

    -- and the marks go on to that of the whole
    pub marks_meet : mark_of whole ≡ mark_of (front ++ rest)
    marks_meet = omega (arith, whole_stands.mark_is, front_gave.mark_is, start_stands.mark_is, rest_gave.mark_is, mark-append front rest, mark-append start rest)
