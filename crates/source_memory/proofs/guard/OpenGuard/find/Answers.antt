use Rattle.std.proofs.Common.{Option, ap, sym, ◌∙◌}
use Rattle.cedr_base.specs.declared.row.Row.{Row}
use Rattle.cedr_guard.specs.Judging.{retraction_fault}
use Rattle.source_memory.proofs.OpenLemmas.{judged_retract}
use Rattle.source_memory.proofs.guard.OpenGuard.find.Goals as goal

pub returns-in_default-clause-judged : goal.returns-in_default-clause-judged
returns-in_default-clause-judged c = λ kept recalls.
    judged_retract c.args.self.now kept c.args.id c.args.end recalls ∙ ap (λ (o : Option Row). retraction_fault o c.args.end c.args.self.now.mark) (sym c.in_default.ensures)
