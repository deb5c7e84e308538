use Rattle.std.proofs.Common.{◌≡◌, refl, true, false, Some, rules, arith, ap, ◌∙◌}
use Rattle.std.specs.Prelude.{codes, decimal, nat_eq}
use Rattle.std.specs.List.{starts_with}
use Rattle.cedr_text.specs.Lines.{has_line_feed}
use Rattle.cedr_save.proofs.WholeFronts.{whole_append, number_whole}
use Rattle.cedr_save.proofs.CompletedFronts.{end_whole, never_completed, end_completed, withdrawn_completed}
use Rattle.cedr_save.proofs.front.complete_last.Goals as goal

pub returns-then-starts_with-clause-whole : goal.returns-then-starts_with-clause-whole
returns-then-starts_with-clause-whole c =
    end_whole c.put_defaults.result c.args.text.now c.args.line.now.items c.extend_from_slice.new.self.items c.put_defaults.new.line.items (codes "inf") c.args.types.now refl c.in_ok-extend_from_slice.ensures.items c.put_defaults.ensures

pub returns-then-starts_with-clause-goes_on : goal.returns-then-starts_with-clause-goes_on
returns-then-starts_with-clause-goes_on c =
    let starts : starts_with nat_eq (codes "inf") c.args.text.now ≡ true = search rules in
    never_completed c.put_defaults.result c.args.begin c.args.text.now c.args.line.now.items c.extend_from_slice.new.self.items c.put_defaults.new.line.items c.args.types.now starts c.in_ok-extend_from_slice.ensures.items c.put_defaults.ensures

pub returns-then-eq-clause-whole : goal.returns-then-eq-clause-whole
returns-then-eq-clause-whole c = λ whole none.
    ap has_line_feed c.in_ok-write_number.ensures.ok ∙ whole_append c.args.line.now.items (decimal c.in-Some.end) none (number_whole c.in-Some.end (omega (arith, c.in-Some.ensures.low)))

pub returns-then-eq-clause-goes_on : goal.returns-then-eq-clause-goes_on
returns-then-eq-clause-goes_on c =
    let starts : starts_with nat_eq (codes "inf") c.args.text.now ≡ false = search rules in
    let same : c.args.begin ≡ Some c.in-Some.end = search rules in
    withdrawn_completed c.args.begin c.in-Some.end c.args.text.now c.args.line.now.items c.write_number.new.out.items c.args.types.now starts c.in-Some.ensures.low c.in-Some.ensures.all same c.in_ok-write_number.ensures.ok

pub returns-else-eq-clause-whole : goal.returns-else-eq-clause-whole
returns-else-eq-clause-whole c =
    end_whole c.put_defaults-else-eq.result c.args.text.now c.args.line.now.items c.write_number.new.out.items c.put_defaults-else-eq.new.line.items (decimal c.in-Some.end) c.args.types.now (number_whole c.in-Some.end (omega (arith, c.in-Some.ensures.low)))
    c.in_ok-write_number.ensures.ok c.put_defaults-else-eq.ensures

pub returns-else-eq-clause-goes_on : goal.returns-else-eq-clause-goes_on
returns-else-eq-clause-goes_on c =
    let starts : starts_with nat_eq (codes "inf") c.args.text.now ≡ false = search rules in
    end_completed c.put_defaults-else-eq.result c.args.begin c.in-Some.end c.args.text.now c.args.line.now.items c.write_number.new.out.items c.put_defaults-else-eq.new.line.items c.args.types.now starts c.in-Some.ensures.low c.in-Some.ensures.all (λ same. search rules)
    c.in_ok-write_number.ensures.ok c.put_defaults-else-eq.ensures
