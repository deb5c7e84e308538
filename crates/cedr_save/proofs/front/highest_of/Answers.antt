use Rattle.std.proofs.Common.{ℕ, Option, sym, subst, arith}
use Rattle.cedr_save.specs.Fronts.{FindsHighest}
use Rattle.cedr_save.proofs.HighestFronts.{empty_highest, not_empty, unread_highest, read_highest}
use Rattle.cedr_save.proofs.front.highest_of.Goals as goal

pub returns-then-is_empty-clause-all : goal.returns-then-is_empty-clause-all
returns-then-is_empty-clause-all c = empty_highest c.args.text.now c.args.last c.if-is_empty.ensures

pub returns-in_err-number-clause-all : goal.returns-in_err-number-clause-all
returns-in_err-number-clause-all c =
    subst (λ (o : Option ℕ). FindsHighest o c.args.text.now c.args.last) (sym c.from_residual.ensures)
    (unread_highest c.args.text.now c.args.last c.cut_number.result.0 _ (omega (arith, c.ranges.last.fits)) (not_empty c.args.text.now c.if-is_empty.ensures) c.cut_number.ensures c.in_err-number.was)

pub returns-then-number-last-clause-all : goal.returns-then-number-last-clause-all
returns-then-number-last-clause-all c =
    read_highest c.args.text.now c.args.last c.cut_number.result.0 _ (omega (arith, c.ranges.last.fits)) (not_empty c.args.text.now c.if-is_empty.ensures) c.cut_number.ensures c.in_ok-number.number c.highest.result c.in_ok-number.was c.highest.ensures
