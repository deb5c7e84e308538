use Rattle.std.proofs.Common.{false, sym, ◌∙◌, subst}
use borrow.Author.Tests.{ltb-true, ltb-false}
use Rattle.cedr_living.specs.declared.ending.Ending.{Ending}
use Rattle.cedr_living.specs.Counts.{CountsOne}
use Rattle.cedr_living.specs.Ends.{ending_cmp, life_of}
use Rattle.cedr_living.specs.Indexes.{Loses}
use Rattle.cedr_living.proofs.LivingLemmas.{taken_ended, taken_late}
use Rattle.cedr_living.proofs.living.LivingFields.take.Goals as goal

pub returns-then-not-keeps-clause-keeps : goal.returns-then-not-keeps-clause-keeps
returns-then-not-keeps-clause-keeps c =
    let bag = c.args.self.now in
    taken_ended bag.index bag.ends.entries bag.from (record { column = c.args.column; begin = c.args.begin; end = c.args.end; field = c.args.field.now }) (ltb-false bag.from c.args.end (sym c.keeps.ensures ∙ c.if-not-keeps.true))

pub returns-clause-keeps : goal.returns-clause-keeps
returns-clause-keeps c =
    let old = c.args.self.now in
    let is = c.in_ok-life.ensures in
    taken_late old.index c.take.new.self old.ends.entries c.lower.new.counts.entries old.from (record { column = c.args.column; begin = c.args.begin; end = c.args.end; field = c.args.field.now }) (ltb-true old.from c.args.end (sym c.keeps.ensures ∙ c.if-not-keeps.false))
    (subst (λ (e : Ending). CountsOne false ending_cmp e old.ends.entries c.lower.new.counts.entries) is c.lower.ensures)
    (subst (λ (e : Ending). Loses 1 old.index c.take.new.self (life_of e)) is c.take.ensures)
