use Rattle.std.proofs.Common.{◌≡◌, rules, arith}
use Rattle.std.specs.Prelude.{decimal}
use Rattle.cedr_save.proofs.CompletedFronts.{id_whole, id_completed}
use Rattle.cedr_save.proofs.front.complete_id.Goals as goal

pub returns-clause-whole : goal.returns-clause-whole
returns-clause-whole c =
    let digits : c.write_number.new.out.items ≡ decimal c.in-Some.id = search rules in
    id_whole c.write_number.new.out.items c.extend_from_slice.new.self.items c.put_defaults.new.line.items c.args.types.now c.in-Some.id (omega (arith, c.in-Some.ensures.low)) digits c.in_ok-extend_from_slice.ensures.items c.in_ok-put_defaults.ensures

pub returns-clause-goes_on : goal.returns-clause-goes_on
returns-clause-goes_on c =
    let digits : c.write_number.new.out.items ≡ decimal c.in-Some.id = search rules in
    id_completed c.args.text.now c.write_number.new.out.items c.extend_from_slice.new.self.items c.put_defaults.new.line.items c.args.types.now c.in-Some.id (omega (arith, c.in-Some.ensures.low)) c.in-Some.ensures.all
    digits c.in_ok-extend_from_slice.ensures.items c.in_ok-put_defaults.ensures
