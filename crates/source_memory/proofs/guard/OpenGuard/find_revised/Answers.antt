use Rattle.std.proofs.Common.{Option, ap, sym, ◌∙◌}
use Rattle.cedr_base.specs.declared.row.Row.{Row}
use Rattle.cedr_guard.specs.Judging.{revision_fault}
use Rattle.source_memory.proofs.OpenLemmas.{judged_revise}
use Rattle.source_memory.proofs.guard.OpenGuard.find_revised.Goals as goal

pub returns-in_default-clause-judged : goal.returns-in_default-clause-judged
returns-in_default-clause-judged c = λ kept row recalls begins.
    judged_revise c.args.self.now kept c.args.id row recalls ∙ ap (λ (o : Option Row). revision_fault o row.begin c.args.self.now.mark) (sym c.in_default.ensures)
