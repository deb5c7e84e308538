use Rattle.std.proofs.Common.{true, sym, ◌∙◌, subst}
use borrow.Author.Tests.{ltb-true}
use Rattle.std.proofs.lemmas.Result.{on_ok_weaker}
use Rattle.cedr_living.specs.declared.ending.Ending.{Ending}
use Rattle.cedr_living.specs.Counts.{CountsOne}
use Rattle.cedr_living.specs.Ends.{ending_cmp, life_of}
use Rattle.cedr_living.specs.Indexes.{Changes}
use Rattle.cedr_living.proofs.LivingLemmas.{added_late}
use Rattle.cedr_living.proofs.living.LivingFields.add.Goals as goal

pub returns-clause-keeps : goal.returns-clause-keeps
returns-clause-keeps c =
    let old = c.args.self.now in
    let is = c.in_ok-life.ensures in
    let one = subst (λ (e : Ending). CountsOne true ending_cmp e old.ends.entries c.raise.new.counts.entries) (c.in_ok-copied.ensures ∙ is) c.in_ok-raise.ensures in
    on_ok_weaker c.add.result
    (λ change. added_late old.index c.add.new.self old.ends.entries c.raise.new.counts.entries old.from (record { column = c.args.column; begin = c.args.begin; end = c.args.end; field = c.args.field.now }) (ltb-true old.from c.args.end (sym c.keeps.ensures ∙ c.if-not-keeps.false)) one
    (subst (λ (e : Ending). Changes true old.index c.add.new.self (life_of e)) is change))
    c.add.ensures
