-- What is shown at a `?`: the plan as it stands, over the histories and the guarantees so far.
use Rattle.std.proofs.Common.{◌≡◌, ℕ, ◌+◌, ◌<◌, List, [], ◌∷◌, ◌++◌, length, ap, ◌∙◌, subst, arith}
use Rattle.std.specs.Prelude.{None}
use Rattle.cedr_base.specs.declared.row.Row.{Row}
use Rattle.cedr_base.specs.Messages.{mark_of}
use Rattle.node_laws.specs.Lists.{Lists, list_at}
use Rattle.node_laws.proofs.Order.{one_canonical}
use Rattle.node_laws.proofs.Passes.{one_table}
use Rattle.cedr_plan.specs.declared.plan.PlanNode.{PlanNode}
use Rattle.cedr_plan.specs.Rules.{ArePlanned}
use Rattle.cedr_plan.specs.Places.{output_place, source_count}
use Rattle.cedr_plan.proofs.PlaceLemmas.{place_among}
use Rattle.plan_runs.specs.Middle.{AreMiddle}
use Rattle.plan_runs.specs.Now.{Standing, AllCanSave, SourcesStand}
use Rattle.plan_runs.specs.Runs.{lists_at, IsRun}
use Rattle.plan_runs.proofs.NowCases.{middle_output, strong_output, middle_saves, strong_saves}
use Rattle.plan_runs.proofs.NowOutput.{shown_table, shown_mark}
use Rattle.cedr_text.specs.Texts.{rows_text}
use Rattle.plan_live.specs.Scripts.{Accepted, messages_so_far}
use Rattle.plan_live.specs.Shown.{reach_text, IsShown, AreShown}
use Rattle.plan_live.specs.SoFar.{AreLines, AllAreLines, source_lines, histories_so_far, guarantees_so_far, rows_so_far, reach_so_far, ending_before, text_so_far, now_so_far, text_now, texts_now}
use Rattle.plan_live.proofs.SoFarLemmas.{sources_gave, source_are, all_go, tables_so_far, marks_so_far}

-- a standing as text
abbrev standing_text : Standing → List ℕ
standing_text s = text_so_far s.table s.mark

module _ (nodes : List PlanNode) (before : Lists) (lines : Accepted) (given : Lists) (text : List ℕ) (planned : ArePlanned nodes) (are : AreLines lines) (shown : IsShown nodes before lines given text) where
  abbrev sources : Lists
  sources = messages_so_far (source_lines nodes lines)

  run : IsRun nodes sources shown.ports given
  run = subst (λ (gave : Lists). IsRun nodes gave shown.ports given) (sources_gave nodes lines) shown.run

  stand : SourcesStand nodes sources (histories_so_far nodes lines) (guarantees_so_far nodes lines)
  stand =
      let mine = source_are nodes lines are in
      record {
        going = all_go (source_count nodes) (source_lines nodes lines) mine;
        tables_are = tables_so_far (source_lines nodes lines) mine;
        marks_are = marks_so_far (source_count nodes) (source_lines nodes lines) mine;
      }

  -- the text of the plan as it stands
  pub shown_text : (count : ℕ) → AllCanSave count nodes → output_place nodes < count → text ≡ text_now nodes lines
  shown_text count save among =
      let table = shown_table nodes count sources (histories_so_far nodes lines) (guarantees_so_far nodes lines) shown.ports given planned run stand save among in
      let mark = shown_mark nodes count sources (histories_so_far nodes lines) (guarantees_so_far nodes lines) shown.ports given planned run stand save among in
      shown.text_is
      ∙ (ap (λ (ordered : List Row). rows_text ordered ++ reach_text (mark_of (list_at (lists_at shown.ports (output_place nodes)) 0)))
      (one_canonical shown.rows (now_so_far nodes lines).table (one_table (list_at given (output_place nodes)) shown.rows (now_so_far nodes lines).table shown.table table))
      ∙ ap (λ (reach : ℕ). text_so_far (now_so_far nodes lines).table reach) mark)

  -- over middle levels: the query, and how far it reaches
  pub middle_text : AreMiddle (length nodes) nodes → text ≡ text_so_far (rows_so_far nodes lines) (reach_so_far nodes lines)
  middle_text middle =
      shown_text (length nodes) (middle_saves (length nodes) nodes middle) (place_among nodes planned)
      ∙ ap standing_text (middle_output nodes (length nodes) (histories_so_far nodes lines) (guarantees_so_far nodes lines) planned middle (place_among nodes planned))

  -- where the output alone is strong: its rows that end before that
  pub strong_text : (front after : List PlanNode) (output : PlanNode) → nodes ≡ front ++ output ∷ after → length front ≡ output_place nodes → AreMiddle (length front) nodes → output.level.block ≡ None → output.level.memory ≡ None
      → text ≡ text_so_far (ending_before (reach_so_far nodes lines) (rows_so_far nodes lines)) (reach_so_far nodes lines)
  strong_text front after output whole here middle block memory =
      shown_text (length front + 1) (strong_saves nodes front after output whole middle block memory) (omega (arith, here))
      ∙ ap standing_text (strong_output nodes (histories_so_far nodes lines) (guarantees_so_far nodes lines) planned front after output whole here middle block)

-- the texts of all `?`
pub shown_texts : (nodes : List PlanNode) (before : Lists) (asks : List Accepted) (text : List ℕ) → ArePlanned nodes → AllCanSave (length nodes) nodes → AllAreLines asks → AreShown nodes before asks text → text ≡ texts_now nodes asks
shown_texts nodes before [] text planned save are shown = shown
shown_texts nodes before (lines ∷ asks) text planned save are shown =
    let given = shown.0 in
    let first = shown.1 in
    let rest = shown.2 in
    shown.4
    ∙ (ap (λ (t : List ℕ). t ++ rest) (shown_text nodes before lines given first planned are.0 shown.3 (length nodes) save (place_among nodes planned))
    ∙ ap (λ (t : List ℕ). text_now nodes lines ++ t) (shown_texts nodes given asks rest planned save are.1 shown.5))
