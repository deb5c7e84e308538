use Rattle.std.proofs.Common.{sym, subst, arith}
use Rattle.change_laws.proofs.Moves.{remnant_none}
use Rattle.op_group.specs.Bags.{ComesTo, lives_of}
use Rattle.op_group.proofs.BagLemmas.{nothing_comes}
use Rattle.op_group.proofs.bags.add_left.Goals as goal

pub returns : goal.returns
returns c = subst (λ rows. ComesTo c.args.living.now c.args.living.now (lives_of c.args.asked.now rows)) (sym (remnant_none c.args.row.now c.args.earlier (omega (arith, c.if-row-earlier.false)))) (nothing_comes c.args.living.now)
