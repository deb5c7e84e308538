use Rattle.std.proofs.Common.{◌∙◌, ◌∷◌, [], sym, subst, cond}
use Rattle.std.specs.Prelude.{not}
use Rattle.op_group.specs.Bags.{ComesTo, field_lives}
use Rattle.op_group.proofs.BagLemmas.{nothing_comes}
use Rattle.op_group.proofs.bags.add_field_unless.Goals as goal

pub returns : goal.returns
returns c = subst (λ b. Rattle.std.specs.Prelude.OnOk c.add_field.result (ComesTo c.args.living.now c.add_field.new.living (field_lives (cond (not b) (c.args.column ∷ []) []) (record c.args.row.now { end = c.args.end })))) (sym c.if-contains.false ∙ c.contains.ensures.value) c.add_field.ensures

pub returns-then-contains : goal.returns-then-contains
returns-then-contains c = subst (λ b. ComesTo c.args.living.now c.args.living.now (field_lives (cond (not b) (c.args.column ∷ []) []) (record c.args.row.now { end = c.args.end }))) (sym c.if-contains.true ∙ c.contains.ensures.value) (nothing_comes c.args.living.now)
