use Rattle.std.proofs.Common.{ℕ, ◌≡◌, ◌≤◌, ◌++◌, List, length, refl, ap, sym, ◌∙◌, subst}
use Rattle.cedr_guard.specs.Spelt.{State}
use Rattle.cedr_save.specs.Checkpoints.{plan_sources, checkpoint_text, IsCheckpoint}
use Rattle.cedr_save.specs.declared.reader.TheConstants.{CHECKPOINT_LIMIT}
use Rattle.plan_live.specs.Resumed.{lines_from, states_so_far}
use Rattle.plan_live.specs.Scripts.{Played, no_lines, played, played_after}
use Rattle.plan_live.specs.SoFar.{texts_now}
use Rattle.plan_live.proofs.ShapeLemmas.{played_alike}
use Rattle.cedr_commands.proofs.ResumeLemmas.{all_can}
use Rattle.cedr_commands.proofs.law.resumed_commands.Goals as goal

pub returns-clause-accepts : goal.returns-clause-accepts
returns-clause-accepts c = λ nodes shapes first more saved planned types ends accepted saves.
    let states = states_so_far nodes (played nodes shapes first).lines in
    let left = c.saved_scripts.ensures.saved nodes shapes first types in
    let fits = c.saved_scripts.ensures.fits nodes shapes first planned types in
    let text = saves.text_is ∙ ap (checkpoint_text (plan_sources nodes)) (saves.comes.states_are ∙ ap (λ (p : Played). states_so_far nodes p.lines) (played_alike nodes saves.comes.shapes shapes saves.comes.types types (no_lines nodes) first)) in
    let whole = c.resumed_scripts.ensures.whole nodes shapes first more ends accepted in (
      texts_now nodes (played_after nodes shapes (lines_from nodes states) more).asks,
      record {
        states = states;
        from = record { can = saves.can; spelt = record { saved = left.0; bare = left.1; text = text; short = subst (λ (bytes : List ℕ). length bytes ≤ CHECKPOINT_LIMIT) (sym text) fits } };
        shapes = shapes;
        types = types;
        fault_is = sym whole.2;
        text_is = refl;
      },
      whole.0,
    )

pub returns-clause-same : goal.returns-clause-same
returns-clause-same c = λ nodes first more saved text begun all planned ends saves resumes one both.
    let shapes = both.shapes in
    let types = both.types in
    let states = states_so_far nodes (played nodes shapes first).lines in
    let left = c.saved_scripts.ensures.saved nodes shapes first types in
    let fits = c.saved_scripts.ensures.fits nodes shapes first planned types in
    let spelt_text = saves.text_is ∙ ap (checkpoint_text (plan_sources nodes)) (saves.comes.states_are ∙ ap (λ (p : Played). states_so_far nodes p.lines) (played_alike nodes saves.comes.shapes shapes saves.comes.types types (no_lines nodes) first)) in
    let spelt : IsCheckpoint (plan_sources nodes) states saved = record { saved = left.0; bare = left.1; text = spelt_text; short = subst (λ (bytes : List ℕ). length bytes ≤ CHECKPOINT_LIMIT) (sym spelt_text) fits } in
    let same_states : resumes.states ≡ states = c.checkpoint_law.ensures.one nodes resumes.states states saved planned resumes.from.spelt spelt in
    let can = all_can nodes saves.can in
    let shown : all ≡ texts_now nodes (played nodes shapes (first ++ more)).asks = c.shown_rows.ensures.all_now nodes _ (played nodes shapes (first ++ more)).asks all planned can (c.shown_rows.ensures.accepted nodes shapes (first ++ more)) both.shown in
    let shown_first : begun ≡ texts_now nodes (played nodes shapes first).asks =
    c.shown_rows.ensures.all_now nodes _ (played nodes one.shapes first).asks begun planned can (c.shown_rows.ensures.accepted nodes one.shapes first) one.shown
    ∙ ap (λ (p : Played). texts_now nodes p.asks) (played_alike nodes one.shapes shapes one.types types (no_lines nodes) first) in
    let resumed : text ≡ texts_now nodes (played_after nodes shapes (lines_from nodes states) more).asks =
    resumes.text_is
    ∙ (ap (λ (p : Played). texts_now nodes p.asks) (played_alike nodes resumes.shapes shapes resumes.types types (lines_from nodes resumes.states) more)
    ∙ ap (λ (given : List State). texts_now nodes (played_after nodes shapes (lines_from nodes given) more).asks) same_states) in
    let whole = c.resumed_scripts.ensures.whole nodes shapes first more ends (sym both.fault_is) in
    shown ∙ (whole.0 ∙ (ap (λ (t : List ℕ). t ++ texts_now nodes (played_after nodes shapes (lines_from nodes states) more).asks) (sym shown_first) ∙ ap (λ (t : List ℕ). begun ++ t) (sym resumed)))

pub returns-clause-can : goal.returns-clause-can
returns-clause-can c = all_can
