use Rattle.std.proofs.Common.{refl, sym, ◌<◌, subst, List, ◌++◌}
use Rattle.cedr_base.specs.declared.change.Change.{Change}
use Rattle.cedr_base.specs.Changes.{takes, puts, all_takes, all_puts}
use Rattle.cedr_base.specs.Rows.{SameRows, count_of}
use Rattle.cedr_base.specs.declared.row.Row.{Row}
use Rattle.op_except.specs.Lives.{bares}
use Rattle.op_except.proofs.LifeLemmas.{next_there, noted_next, take_all}
use Rattle.op_except.proofs.lives.Lives.note_all.Goals as goal

pub loop-change-init : goal.loop-change-init
loop-change-init c = λ were there. (were, record { each = λ r. refl })

pub loop-change-preserved : goal.loop-change-preserved
loop-change-preserved c = λ were there.
    let so_far = c.loop-change.invariant were there in
    let step = c.in_ok-note.ensures so_far.0 (subst (λ (x : Change). (r : Row) → 0 < count_of r (bares (takes x)) → 0 < count_of r c.loop-change.self.by_end) (sym c.change-item.is)
    (next_there c.args.self.now.by_end c.loop-change.self.by_end c.note.new.self.by_end c.args.changes.now c.loop-change.change-index c.change-item.result c.loop-change-test.true there so_far.1)) in (
      step.0,
      noted_next c.args.self.now.by_end c.loop-change.self.by_end c.note.new.self.by_end c.args.changes.now c.loop-change.change-index c.change-item.result c.loop-change-test.true there so_far.1
          (subst (λ (x : Change). SameRows (c.note.new.self.by_end ++ bares (takes x)) (c.loop-change.self.by_end ++ bares (puts x))) c.change-item.is step.1),
    )

pub returns : goal.returns
returns c = λ were there.
    let so_far = c.loop-change.invariant were there in
    (so_far.0, subst (λ (cs : List Change). SameRows (c.loop-change.self.by_end ++ bares (all_takes cs)) (c.args.self.now.by_end ++ bares (all_puts cs))) (take_all c.args.changes.now c.loop-change.change-index c.loop-change-test.false) so_far.1)
