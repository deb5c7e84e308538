use Rattle.cedr_save.proofs.CompletedFronts.{begin_whole, begin_completed}
use Rattle.cedr_save.proofs.front.complete_begin.Goals as goal

pub returns-clause-whole : goal.returns-clause-whole
returns-clause-whole c =
    begin_whole c.put_defaults.result c.args.text.now c.args.line.now.items c.write_number.new.out.items c.extend_from_slice.new.self.items c.put_defaults.new.line.items c.args.types.now c.in-Some.begin c.in-Some.ensures.low
    c.in_ok-write_number.ensures.ok c.in_ok-extend_from_slice.ensures.items c.put_defaults.ensures

pub returns-clause-goes_on : goal.returns-clause-goes_on
returns-clause-goes_on c =
    begin_completed c.put_defaults.result c.args.text.now c.args.line.now.items c.write_number.new.out.items c.extend_from_slice.new.self.items c.put_defaults.new.line.items c.args.types.now c.in-Some.begin c.in-Some.ensures.low c.in-Some.ensures.all
    c.in_ok-write_number.ensures.ok c.in_ok-extend_from_slice.ensures.items c.put_defaults.ensures
