use Rattle.std.proofs.Common.{◌≡◌, ◌∷◌, ℕ, [], List, sym, subst, arith}
use Rattle.std.proofs.lemmas.Result.{IfOk-weaker}
use Rattle.cedr_base.specs.declared.row.Row.{Row}
use Rattle.cedr_base.specs.Rows.{SameRows}
use Rattle.cedr_expr.specs.Tags.{left_tag, right_tag}
use Rattle.pat_state.specs.Steps.{matches}
use Rattle.pat_state.specs.Tags.{IsTagged}
use Rattle.pat_state.specs.Tied.{left_rows, right_rows}
use Rattle.pat_state.proofs.BagLemmas.{are_tagged}
use Rattle.pat_state.proofs.pairs.find_pairs.Goals as goal

pub returns-then-changed-eq0 : goal.returns-then-changed-eq0
returns-then-changed-eq0 c =
    let tied = c.args.tied.now in
    let tag = right_tag tied.width c.args.tests.now in
    let tagged = subst (λ (tags : List Row). IsTagged tag (right_rows tied) tags) (sym c.tags.ensures) (are_tagged tag tied.right.tags c.requires.tags.right_are) in
    IfOk-weaker c.find_seconds.result _ _
    (λ rows found. subst (λ (n : ℕ). SameRows rows.items (matches c.args.scope c.args.tests.now c.args.row.now n (left_rows tied ∷ right_rows tied ∷ []))) (sym c.if-changed-eq0.true) (found (left_rows tied) (right_rows tied) tagged))
    c.find_seconds.ensures

pub returns-else-changed-eq0 : goal.returns-else-changed-eq0
returns-else-changed-eq0 c =
    let tied = c.args.tied.now in
    let tag = left_tag tied.width c.args.tests.now in
    let tagged = subst (λ (tags : List Row). IsTagged tag (left_rows tied) tags) (sym c.tags-else-changed-eq0.ensures) (are_tagged tag tied.left.tags c.requires.tags.left_are) in
    let within = c.requires.changed in
    let other = c.if-changed-eq0.false in
    let one : c.args.changed ≡ 1 = omega arith in
    IfOk-weaker c.find_firsts.result _ _
    (λ rows found. subst (λ (n : ℕ). SameRows rows.items (matches c.args.scope c.args.tests.now c.args.row.now n (left_rows tied ∷ right_rows tied ∷ []))) (sym one) (found (left_rows tied) (right_rows tied) tagged))
    c.find_firsts.ensures
