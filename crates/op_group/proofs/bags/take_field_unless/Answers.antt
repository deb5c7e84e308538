use Rattle.std.proofs.Common.{◌∙◌, ◌∷◌, [], sym, subst, cond}
use Rattle.std.specs.Prelude.{not}
use Rattle.op_group.specs.Bags.{GoesFrom, field_lives}
use Rattle.op_group.proofs.BagLemmas.{nothing_goes}
use Rattle.op_group.proofs.bags.take_field_unless.Goals as goal

pub returns : goal.returns
returns c = subst (λ b. Rattle.std.specs.Prelude.OnOk c.take_field.result (GoesFrom c.args.living.now c.take_field.new.living (field_lives (cond (not b) (c.args.column ∷ []) []) c.args.row.now))) (sym c.if-contains.false ∙ c.contains.ensures.value) c.take_field.ensures

pub returns-then-contains : goal.returns-then-contains
returns-then-contains c = subst (λ b. GoesFrom c.args.living.now c.args.living.now (field_lives (cond (not b) (c.args.column ∷ []) []) c.args.row.now)) (sym c.if-contains.true ∙ c.contains.ensures.value) (nothing_goes c.args.living.now)
