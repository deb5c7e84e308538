use Rattle.std.proofs.Common.{◌≡◌, rules}
use Rattle.std.specs.Prelude.{codes}
use Rattle.cedr_save.proofs.HighestFronts.{not_empty}
use Rattle.cedr_save.proofs.TextFronts.{is_nothing, ends_nothing, ends_minus, ends_digits}
use Rattle.cedr_save.proofs.front.number_rest.Goals as goal

pub returns-then-is_empty-clause-goes_on : goal.returns-then-is_empty-clause-goes_on
returns-then-is_empty-clause-goes_on c = ends_nothing c.args.text.now (is_nothing c.args.text.now c.if-is_empty.ensures)

pub returns-then-eq-clause-goes_on : goal.returns-then-eq-clause-goes_on
returns-then-eq-clause-goes_on c = let same : c.args.text.now ≡ codes "-" = search rules in ends_minus c.args.text.now same

pub returns-else-eq-clause-goes_on : goal.returns-else-eq-clause-goes_on
returns-else-eq-clause-goes_on c = ends_digits c.args.text.now (not_empty c.args.text.now c.if-is_empty.ensures) (λ same. search rules)
