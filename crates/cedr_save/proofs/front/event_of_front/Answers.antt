use Rattle.std.proofs.Common.{◌≡◌, List, true, false, ap, sym, ◌∙◌, subst, rules}
use Rattle.std.specs.Prelude.{nat_eq}
use Rattle.std.specs.List.{starts_with}
use Rattle.cedr_base.specs.declared.field.FieldType.{FieldType}
use Rattle.cedr_text.specs.Lines.{has_line_feed}
use Rattle.cedr_save.specs.Fronts.{CompletesEvent}
use Rattle.cedr_save.proofs.EventFronts.{none_begins, shape_types, result_read}
use Rattle.cedr_save.proofs.front.event_of_front.Goals as goal

pub read_event-requires : goal.read_event-requires
read_event-requires c = ap has_line_feed c.deref-then-starts_with.ensures.value ∙ c.in_ok-line.ensures.whole

pub returns-then-starts_with : goal.returns-then-starts_with
returns-then-starts_with c =
    let starts : starts_with nat_eq c.in_ok-line.line.items c.args.front.now ≡ true = search rules in
    result_read c.read_event.result c.args.shape.now c.args.front.now c.in_ok-line.line.items c.deref-then-starts_with.result.now (sym c.deref-then-starts_with.ensures.value) starts
    (λ types has. subst (λ (ts : List FieldType). CompletesEvent ts c.args.front.now c.in_ok-line.line.items) (c.deref.ensures.value ∙ shape_types c.args.shape.now c.in-Fields.types types c.in-Fields.is has) c.in_ok-line.ensures.goes_on)
    c.read_event.ensures

pub returns : goal.returns
returns c = λ types has.
    let starts : starts_with nat_eq c.in_ok-line.line.items c.args.front.now ≡ false = search rules in
    none_begins types c.args.front.now c.in_ok-line.line.items
    (subst (λ (ts : List FieldType). CompletesEvent ts c.args.front.now c.in_ok-line.line.items) (c.deref.ensures.value ∙ shape_types c.args.shape.now c.in-Fields.types types c.in-Fields.is has) c.in_ok-line.ensures.goes_on)
    starts
