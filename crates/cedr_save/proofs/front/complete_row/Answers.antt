use Rattle.cedr_save.proofs.CompletedFronts.{row_last, row_cut}
use Rattle.cedr_save.proofs.front.complete_row.Goals as goal

pub returns-in_default-clause-goes_on : goal.returns-in_default-clause-goes_on
returns-in_default-clause-goes_on c =
    row_last c.complete_begin.result c.args.types.now c.args.text.now c.args.line.now.items c.complete_begin.new.line.items c.in_default.ensures c.complete_begin.ensures.goes_on

pub returns-clause-goes_on : goal.returns-clause-goes_on
returns-clause-goes_on c =
    row_cut c.complete_end.result c.args.types.now c.args.text.now c.in-Some.begin.now c.in-Some.rest.now c.args.line.now.items c.extend_from_slice.new.self.items c.push.new.self.items c.complete_end.new.line.items
    c.in-Some.ensures c.in_ok-extend_from_slice.ensures.items c.in_ok-push.ensures.items c.complete_end.ensures.goes_on
