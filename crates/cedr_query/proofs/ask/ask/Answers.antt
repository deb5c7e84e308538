use Rattle.std.proofs.Common.{ap, ◌∙◌, sym, subst, ℕ, ◌≤◌}
use Rattle.std.specs.Prelude.{map}
use Rattle.cedr_base.specs.declared.time.TheConstants.{FOREVER}
use Rattle.cedr_table.specs.Operators.{Meaning, table_at}
use Rattle.cedr_query.proofs.Feeding.{stands_at, same_tables_itself, works_answer}
use Rattle.cedr_query.proofs.ask.ask.Goals as goal

pub bound-mark-requires : goal.bound-mark-requires
bound-mark-requires g c =
    let ports = c.requires.marks ∙ (c.requires.ports ∙ sym (ap (λ (m : Meaning). m.ports) c.in_ok-add_tables.ensures.meaning)) in (
      map (table_at c.args.tables.now) c.args.inputs.now,
      stands_at (g.O.Operator.meaning c.add_tables.new.op) (g.O.Operator.stands c.add_tables.new.op) (map (table_at c.args.tables.now) c.args.inputs.now) c.args.marks.now c.add_tables.new.made (g.met.O.Operator.lawful c.add_tables.new.op)
          (c.in_ok-add_tables.ensures.works (map (table_at c.args.tables.now) c.args.inputs.now) (same_tables_itself (map (table_at c.args.tables.now) c.args.inputs.now))) ports,
      c.requires.times,
    )

pub returns : goal.returns
returns g c = λ others same.
    let op = g.O.Operator in
    let new = c.add_tables.new.op in
    let laws = g.met.O.Operator.lawful new in
    let marks = c.args.marks.now in
    let ports = c.requires.marks ∙ (c.requires.ports ∙ sym (ap (λ (m : Meaning). m.ports) c.in_ok-add_tables.ensures.meaning)) in
    let works = c.in_ok-add_tables.ensures.works others same in
    let stands = stands_at (op.meaning new) (op.stands new) others marks c.add_tables.new.made laws works ports in
    let is = c.bound-mark.ensures others stands in
    works_answer (op.meaning c.args.op) (op.meaning new) (op.stands new) others marks c.add_tables.new.made c.bound-mark.result c.in_ok-add_tables.ensures.meaning works is
    (subst (λ (n : ℕ). n ≤ FOREVER) (sym is) (laws.bound_is_time others marks stands c.requires.times))
