use Rattle.std.proofs.Common.{ℕ, List, ◌++◌, ◌∙◌, ap, sym}
use Rattle.cedr_base.specs.Rows.{in_order}
use Rattle.cedr_text.specs.Texts.{rows_text}
use Rattle.plan_live.specs.Shown.{reach_text}
use Rattle.plan_live.proofs.player.shown_text.Goals as goal

pub returns : goal.returns
returns c = λ nodes ports given h.
    let rows = c.in_ok-rows.rows.items in
    let are = c.in_ok-rows.ensures nodes ports given h in (
      rows,
      are.table,
      c.in_ok-write_reach.ensures
          ∙ (ap (λ (t : List ℕ). t ++ reach_text c.reach.result)
          (c.in_ok-write_rows.ensures.ok ∙ (ap (λ (t : List ℕ). t ++ rows_text c.as_slice.result.now) c.new-text.ensures.items ∙ ap rows_text (c.as_slice.ensures.value ∙ sym are.ordered)))
          ∙ ap (λ (mark : ℕ). rows_text (in_order rows) ++ reach_text mark) (c.reach.ensures nodes ports given h)),
    )
