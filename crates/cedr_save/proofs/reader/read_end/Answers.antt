use Rattle.std.proofs.Common.{◌≡◌, ◌≢◌, [], true, false, length, sym, ◌∙◌, rules}
use Rattle.std.proofs.lemmas.Bool.{eqb-true}
use Rattle.cedr_save.specs.Reading.{is_ended_spot}
use Rattle.cedr_save.proofs.ReaderLemmas.{none_there, end_reads, end_stops, end_goes_on, end_refuses}
use Rattle.cedr_save.proofs.reader.read_end.Goals as goal

pub returns-then-is_ended : goal.returns-then-is_ended
returns-then-is_ended c = λ bytes before stands parts count.
    let none : c.args.rest.now ≡ [] = none_there c.args.rest.now (eqb-true (length c.args.rest.now) 0 (sym c.is_empty.ensures ∙ c.if-is_empty.true)) in
    let all : is_ended_spot c.args.reader.now.spot ≡ true = search rules in
    end_reads c.args.reader.now c.args.nodes.now bytes before c.args.rest.now stands parts none all

pub returns-else-is_ended : goal.returns-else-is_ended
returns-else-is_ended c = λ bytes before stands parts count.
    let none : c.args.rest.now ≡ [] = none_there c.args.rest.now (eqb-true (length c.args.rest.now) 0 (sym c.is_empty.ensures ∙ c.if-is_empty.true)) in
    let open_spot : is_ended_spot c.args.reader.now.spot ≡ false = search rules in
    end_stops c.args.reader.now c.args.nodes.now bytes before c.args.rest.now c.args.number c.requires.named stands parts count none open_spot

pub returns-then-branch : goal.returns-then-branch
returns-then-branch c = λ bytes before stands parts count.
    let some : c.args.rest.now ≢ [] = λ is. search rules in
    end_goes_on c.args.reader.now c.args.nodes.now bytes before c.args.rest.now c.args.number c.in_ok-may_begin.field-0 c.requires.named stands parts count some (c.in_ok-may_begin.ensures before stands) (search rules)

pub returns-else-branch : goal.returns-else-branch
returns-else-branch c = λ bytes before stands parts count.
    let some : c.args.rest.now ≢ [] = λ is. search rules in
    end_refuses c.args.reader.now c.args.nodes.now bytes before c.args.rest.now c.args.number c.in_ok-may_begin.field-0 c.requires.named stands parts count some (c.in_ok-may_begin.ensures before stands) (search rules)
