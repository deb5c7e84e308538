use Rattle.std.proofs.Common.{◌++◌, ◌∙◌, List, ℕ, ap, refl}
use Rattle.cedr_base.specs.declared.row.Row.{Row}
use Rattle.cedr_base.specs.Rows.{in_order}
use Rattle.plan_answer.specs.Answers.{tail_text}
use Rattle.plan_answer.proofs.TextLemmas.{with_the_tail}
use Rattle.cedr_text.specs.Texts.{rows_text}
use Rattle.plan_answer.proofs.ListedLemmas.{behind_both}
use Rattle.plan_answer.proofs.text.write_report.Goals as goal

pub returns : goal.returns
returns c = λ given listed legal changes forgotten same.
    let nodes = c.args.nodes.now in
    let first = c.args.out.now.items in
    let made = c.in_ok-rows.ensures given legal changes in
    let rows = in_order made.0 in
    let text = c.in_ok-write_rows.ensures.ok ∙ ap (λ (rs : List Row). first ++ rows_text rs) (c.as_slice.ensures.value ∙ made.2) in (
      made.0,
      made.1,
      behind_both first (rows_text rows) (tail_text nodes listed) c.write_rows.new.out.items c.write_tail.new.out.items (tail_text nodes listed) text (c.in_ok-write_tail.ensures listed forgotten same) refl
          ∙ ap (λ (t : List ℕ). first ++ t) (with_the_tail c.args.with_tail nodes rows listed c.if-not-with_tail.false),
    )
