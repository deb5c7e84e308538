use Rattle.std.proofs.Common.{[], ◌++◌, subst, arith}
use Rattle.std.proofs.lemmas.Result.{on_ok_weaker}
use Rattle.std.proofs.lemmas.List.Sums.{sum_by-append}
use Rattle.cedr_base.specs.Changes.{remnant}
use Rattle.cedr_base.specs.declared.change.Change.{Change}
use Rattle.change_laws.specs.Repairs.{IsMoved}
use Rattle.op_group.specs.Bags.{lives_of, field_lives, indexed}
use Rattle.op_group.proofs.FieldMoves.{moved_lives}
use Rattle.op_group.proofs.bags.change_fields.Goals as goal

pub returns-in-Add-clause-keeps : goal.returns-in-Add-clause-keeps
returns-in-Add-clause-keeps c = on_ok_weaker c.add_row_fields.result
    (λ comes old new keeps moved.
    let came = subst (λ (d : Change). IsMoved d old new) c.in-Add.is moved in
    comes.keeps (lives_of c.args.asked.now old) (lives_of c.args.asked.now new) keeps
    (λ w. omega (arith, moved_lives c.args.asked.now _ old new came w, sum_by-append w (field_lives (indexed c.args.asked.now) c.in-Add.row) [])))
    c.add_row_fields.ensures

pub returns-in_ok-add_left-in-Cut-clause-keeps : goal.returns-in_ok-add_left-in-Cut-clause-keeps
returns-in_ok-add_left-in-Cut-clause-keeps c = on_ok_weaker c.take_row_fields.result
    (λ goes old new keeps moved.
    let went = subst (λ (d : Change). IsMoved d old new) c.in-Cut.is moved in
    let left = lives_of c.args.asked.now (remnant c.in-Cut.row c.in-Cut.end) in
    goes.keeps (lives_of c.args.asked.now (remnant c.in-Cut.row c.in-Cut.end) ++ lives_of c.args.asked.now old) (lives_of c.args.asked.now new)
    (c.in_ok-add_left-in-Cut.ensures.keeps (lives_of c.args.asked.now old) (lives_of c.args.asked.now (remnant c.in-Cut.row c.in-Cut.end) ++ lives_of c.args.asked.now old) keeps (λ w. sum_by-append w (lives_of c.args.asked.now (remnant c.in-Cut.row c.in-Cut.end)) (lives_of c.args.asked.now old)))
    (λ w. omega (
      arith,
      moved_lives c.args.asked.now _ old new went w,
      sum_by-append w (field_lives (indexed c.args.asked.now) c.in-Cut.row) [],
      sum_by-append w (lives_of c.args.asked.now (remnant c.in-Cut.row c.in-Cut.end)) (lives_of c.args.asked.now old),
    )))
    c.take_row_fields.ensures
