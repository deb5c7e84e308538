use Rattle.cedr_save.proofs.CompletedFronts.{end_last, end_cut}
use Rattle.cedr_save.proofs.front.complete_end.Goals as goal

pub returns-in_default-clause-goes_on : goal.returns-in_default-clause-goes_on
returns-in_default-clause-goes_on c =
    end_last c.complete_last.result c.args.types.now c.cut_number-begin.result.0 c.args.begin.now c.args.text.now c.args.line.now.items c.complete_last.new.line.items _ c.in_default.ensures c.cut_number-begin.ensures c.complete_last.ensures.goes_on

pub returns-clause-goes_on : goal.returns-clause-goes_on
returns-clause-goes_on c =
    end_cut c.complete_fields.result c.args.types.now c.args.begin.now c.args.text.now c.in-Some.end.now c.in-Some.rest.now c.args.line.now.items c.extend_from_slice.new.self.items c.complete_fields.new.line.items
    c.in-Some.ensures c.in_ok-extend_from_slice.ensures.items c.complete_fields.ensures.goes_on
