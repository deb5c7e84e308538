use Rattle.std.proofs.Common.{◌≡◌, ◌++◌, List, ℕ, ap, ◌∙◌, append_assoc, rules}
use Rattle.cedr_base.specs.Rows.{in_order}
use Rattle.cedr_text.specs.Texts.{rows_text}
use Rattle.plan_runs.specs.Without.{forgot_in}
use Rattle.plan_answer.specs.Answers.{tail_text}
use Rattle.plan_answer.proofs.TextLemmas.{without_tail, with_the_tail}
use Rattle.plan_serial.proofs.answer.write_answer.Goals as goal

pub returns-then-not-with_tail : goal.returns-then-not-with_tail
returns-then-not-with_tail c = λ ports given h.
    let nodes = c.args.nodes.now in
    let first = c.args.out.now.items in
    let written = c.in_ok-write_table.ensures nodes ports given h in (
      written.0,
      written.1,
      written.2 ∙ ap (λ (t : List ℕ). first ++ t) (without_tail c.args.with_tail nodes (in_order written.0) (forgot_in nodes ports) c.if-not-with_tail.true),
    )

pub returns : goal.returns
returns c = λ ports given h.
    let nodes = c.args.nodes.now in
    let first = c.args.out.now.items in
    let told = tail_text nodes (forgot_in nodes ports) in
    let written = c.in_ok-write_table-2.ensures nodes ports given h in
    let rows = rows_text (in_order written.0) in
    let tail : c.write_tail.new.out.items ≡ told = c.in_ok-write_tail.ensures ports given h ∙ ap (λ (t : List ℕ). t ++ told) c.new-tail.ensures.items in
    let both : c.append.new.self.items ≡ c.write_table-2.new.out.items ++ c.write_tail.new.out.items = search rules in (
      written.0,
      written.1,
      both
          ∙ (ap (λ (t : List ℕ). t ++ c.write_tail.new.out.items) written.2
          ∙ (ap (λ (t : List ℕ). (first ++ rows) ++ t) tail
          ∙ (append_assoc first rows told ∙ ap (λ (t : List ℕ). first ++ t) (with_the_tail c.args.with_tail nodes (in_order written.0) (forgot_in nodes ports) c.if-not-with_tail.false)))),
    )
