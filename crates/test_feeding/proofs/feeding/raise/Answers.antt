use Rattle.std.proofs.Common.{◌≤◌, List, ℕ, sym, subst, set, arith}
use Rattle.std.proofs.lemmas.Grind.{common_steps}
use Rattle.cedr_table.specs.Operators.{AllRise, AreTimes, mark_at}
use Rattle.cedr_table.specs.PortLaws.{rise_set, times_set}
use Rattle.test_feeding.proofs.feeding.raise.Goals as goal

pub trim-requires : goal.trim-requires
trim-requires g c =
    let marks = c.args.marks.now.items in
    let port = c.args.port in
    let rises : mark_at marks port ≤ c.args.mark = grind (arith, common_steps) in (
      c.args.tables.now,
      marks,
      c.requires.stands,
      subst (λ (ms : List ℕ). AllRise marks ms) (sym c.as_slice.ensures.value) (rise_set port marks c.args.mark rises),
      subst (λ (ms : List ℕ). AreTimes ms) (sym c.as_slice.ensures.value) (times_set port marks c.args.mark c.requires.times c.if-mark-gt-FOREVER.false),
    )

pub returns-clause-stands : goal.returns-clause-stands
returns-clause-stands g c =
    let marks = c.args.marks.now.items in
    let port = c.args.port in
    let rises : mark_at marks port ≤ c.args.mark = grind (arith, common_steps) in
    let up : AllRise marks c.as_slice.result.now = subst (λ (ms : List ℕ). AllRise marks ms) (sym c.as_slice.ensures.value) (rise_set port marks c.args.mark rises) in
    subst (λ (ms : List ℕ). g.O.Operator.stands c.trim.new.self c.args.tables.now ms) c.as_slice.ensures.value (c.trim.ensures.stands c.args.tables.now marks c.requires.stands up)

pub returns-clause-times : goal.returns-clause-times
returns-clause-times g c = times_set c.args.port c.args.marks.now.items c.args.mark c.requires.times c.if-mark-gt-FOREVER.false
