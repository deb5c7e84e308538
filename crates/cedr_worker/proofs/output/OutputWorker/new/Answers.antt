use Rattle.std.proofs.Common.{List, sym, subst}
use Rattle.cedr_base.specs.declared.change.Message.{Message}
use Rattle.cedr_worker.specs.Outputs.{Writes}
use Rattle.cedr_worker.proofs.OutputLemmas.{outputs_new}
use Rattle.cedr_worker.proofs.output.OutputWorker.new.Goals as goal
use Rattle.std.proofs.Common.{false, ◌∙◌}

pub returns-clause-works : goal.returns-clause-works
returns-clause-works c =
    let r = c.requires in
    record {
      outputs = subst (λ (ms : List Message). Writes c.args.node ms c.args.writer false false) (sym r.taken) (outputs_new c.args.node c.args.writer r.kind r.stands r.writer);
      published = λ e. r.writer.0 ∙ sym r.writer.1;
      noted = record { some = tt; none = r.writer.0 };
    }
