use Rattle.std.proofs.Common.{get_or, rules, subst}
use Rattle.cedr_parts.specs.Reading.{ReadsFound}
use Rattle.cedr_parts.proofs.ReadingLemmas.{read_all}
use Rattle.cedr_parts.proofs.reading.read_each.Goals as goal

pub returns-clause-read : goal.returns-clause-read
returns-clause-read g c = λ content nodes count found.
    let old = c.args.found.now in
    let new = c.for_each_mut.new.s in
    read_all g.S.Source.rest g.S.Source.faults content nodes old new (search rules) count
    (λ k d h. let at = (c.for_each_mut.ensures k d h).1 in subst (λ x. ReadsFound g.S.Source.rest g.S.Source.faults x (get_or new k d)) at.argument_is (subst (λ y. ReadsFound g.S.Source.rest g.S.Source.faults at.argument.now y) at.left at.call)) found
