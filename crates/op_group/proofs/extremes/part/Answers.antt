use Rattle.std.proofs.Common.{◌≡◌, ◌∙◌, true, false, sym, ap}
use Rattle.std.specs.Ordering.{is_eq, eq_by_cmp}
use Rattle.std.proofs.lemmas.Cmp.{tied_itself}
use Rattle.cedr_base.specs.declared.field.Field.{Field}
use Rattle.cedr_base.specs.Order.{field_cmp}
use Rattle.cedr_base.specs.OrderLaws.{field_total}
use Rattle.op_group.specs.Sides.{side_cmp, extreme_at}
use Rattle.op_group.proofs.SideLemmas.{other_stays}
use Rattle.op_group.proofs.extremes.part.Goals as goal
use Rattle.op_group.proofs.extremes.part.Goals.{in-Some, in-None}

pub returns-else-was_first : goal.returns-else-was_first
returns-else-was_first c = λ lives keeps low met. elim c.match-extreme.branch [
  | in-Some w ↦ w.extreme-is ∙ (sym w.in-Some.is ∙ other_stays (side_cmp c.args.side) c.args.field.now c.args.extreme.now (extreme_at c.args.side c.args.at lives) met
      (λ same.
      let is : w.in-Some.first ≡ c.args.field.now = (let e = sym w.in-Some.is ∙ same in cc) in
      let e : true ≡ false = sym (ap is_eq (tied_itself field_total c.args.field.now)) ∙ (ap (λ (f : Field). eq_by_cmp field_cmp f c.args.field.now) (sym is) ∙ (sym w.eq-was_first.ensures ∙ (sym w.was_first-is ∙ c.if-was_first.false))) in
      cc))
  | in-None w ↦ w.extreme-is ∙ other_stays (side_cmp c.args.side) c.args.field.now c.args.extreme.now (extreme_at c.args.side c.args.at lives) met (λ same. let e = sym w.in-None.is ∙ same in cc)
]
