use Rattle.std.proofs.Common.{subst, sym, List, filter}
use Rattle.cedr_base.specs.declared.row.Row.{Row}
use Rattle.cedr_base.specs.Rows.{SameRows}
use Rattle.cedr_align.specs.Aligner.{must_remember}
use Rattle.cedr_align.proofs.SettledLemmas.{none_kept, none_at_end, none_without}
use Rattle.cedr_align.proofs.aligner.Aligner.forget.Goals as goal
use Rattle.cedr_align.proofs.aligner.Aligner.forget.Goals.{in_default-via-in-Some+else-not-self, in_default-via-in_default}

pub returns-in_default-clause-passed : goal.returns-in_default-clause-passed
returns-in_default-clause-passed c =
    let me = c.args.self.now in
    subst (λ (rows : List Row). SameRows rows (filter (must_remember c.args.self.now) c.args.self.now.passed)) (sym c.new.ensures)
    (none_kept (must_remember c.args.self.now) me.passed (elim c.in_default.branch [
      | in_default-via-in-Some+else-not-self w ↦ none_at_end me.level.memory me.ended me.mark me.high w.if-not-self.false
      | in_default-via-in_default w ↦ none_without me.level.memory me.ended me.mark me.high w.in_default.not-Some
    ]))
