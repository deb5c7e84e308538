use Rattle.std.proofs.Common.{◌∙◌, sym, ap, Some}
use Rattle.std.proofs.lemmas.Result.{on_ok_weaker}
use Rattle.op_group.proofs.BagLemmas.{goes_some, goes_none}
use Rattle.op_group.proofs.bags.take_field.Goals as goal

pub returns-in_ok-copied-in-Some : goal.returns-in_ok-copied-in-Some
returns-in_ok-copied-in-Some c =
    let found = sym c.field.ensures ∙ (c.in-Some.is ∙ ap (λ f. Some f) (sym c.in_ok-copied-in-Some.ensures)) in
    on_ok_weaker c.take.result (λ taken. goes_some c.args.living.now c.take.new.self c.args.row.now c.args.column c.in_ok-copied-in-Some.copied found c.take.ensures.from taken) c.take.ensures.keeps

pub returns-in-None : goal.returns-in-None
returns-in-None c = goes_none c.args.living.now c.args.row.now c.args.column (sym c.field.ensures ∙ c.in-None.is)
