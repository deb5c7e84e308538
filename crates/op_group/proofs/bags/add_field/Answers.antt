use Rattle.std.proofs.Common.{◌∙◌, sym, ap, Some}
use Rattle.std.proofs.lemmas.Result.{on_ok_weaker}
use Rattle.op_group.proofs.BagLemmas.{comes_some, comes_none}
use Rattle.op_group.proofs.bags.add_field.Goals as goal

pub returns-in_ok-copied-in-Some : goal.returns-in_ok-copied-in-Some
returns-in_ok-copied-in-Some c =
    let found = sym c.field.ensures ∙ (c.in-Some.is ∙ ap (λ f. Some f) (sym c.in_ok-copied-in-Some.ensures)) in
    on_ok_weaker c.add.result (λ taken. comes_some c.args.living.now c.add.new.self (record c.args.row.now { end = c.args.end }) c.args.column c.in_ok-copied-in-Some.copied found c.add.ensures.from taken) c.add.ensures.keeps

pub returns-in-None : goal.returns-in-None
returns-in-None c = comes_none c.args.living.now (record c.args.row.now { end = c.args.end }) c.args.column (sym c.field.ensures ∙ c.in-None.is)
