use Rattle.std.proofs.Common.{◌∙◌, refl}
use Rattle.csv.specs.Records.{fields_of}
use Rattle.cedr_text.proofs.JoinLemmas.{joins_first, joins_next, joins_all, none_joined}
use Rattle.cedr_text.proofs.quoting.join.Goals as goal

pub returns-in_default : goal.returns-in_default
returns-in_default c =
    let none = rw (c.iter-fields.ensures.row, c.iter-fields.ensures.at) at c.in_default.ensures.steps.1 in
    c.new-joined.ensures.items ∙ none_joined 13 (fields_of c.args.row.now) none

pub loop-field-init : goal.loop-field-init
loop-field-init c =
    let step = rw (c.iter-fields.ensures.row, c.iter-fields.ensures.at) at c.in-Some.ensures.steps in
    let start = c.into_iter-field-iterator.ensures.into_iter_gives in
    let items = rw c.new-joined.ensures.items at c.in_ok-extend_from_slice.ensures.items in
    record {
      can_next = tt;
      is_finite = tt;
      same = rw (start, step.0) refl;
      all = rw start (joins_first 13 (fields_of c.args.row.now) c.in-Some.first.now c.extend_from_slice.new.self.items c.next.new.self.at step.1 step.2 items);
    }

pub loop-field-preserved : goal.loop-field-preserved
loop-field-preserved c =
    let before = c.loop-field.invariant in
    let step = rw before.same at c.in-Some-field.ensures.steps in
    record {
      can_next = tt;
      is_finite = tt;
      same = rw step.0 refl;
      all = joins_next 13 (fields_of c.args.row.now) c.in-Some-field.field.now c.loop-field.joined.items c.push.new.self.items c.extend_from_slice-in-loop-field.new.self.items
          c.loop-field.field-iterator.at c.next-in-loop-field.new.self.at step.1 step.2 c.in_ok-push.ensures.items c.in_ok-extend_from_slice-2.ensures.items before.all;
    }

pub returns : goal.returns
returns c =
    let none = rw c.loop-field.invariant.same at c.in-None.ensures.steps.1 in
    joins_all 13 (fields_of c.args.row.now) c.loop-field.joined.items c.loop-field.field-iterator.at none c.loop-field.invariant.all
