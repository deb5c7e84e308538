use Rattle.std.proofs.Common.{Ok, Err}
use Rattle.cedr_plan.specs.Drawn.{drawn}
use Rattle.cedr_commands.proofs.FileLemmas.{opened_front, fault_found}
use Rattle.cedr_commands.proofs.plan.open_plan.Goals as goal

pub returns-in-Ok-read_plan-clause-opened : goal.returns-in-Ok-read_plan-clause-opened
returns-in-Ok-read_plan-clause-opened g c =
    opened_front (g.F.Files.content c.args.files.now c.args.file.now) c.in-Ok.bytes.items c.deref.result.now (Ok (drawn c.in-Ok-read_plan.plan)) c.in-Ok.ensures.bytes c.deref.ensures.value c.in-Ok-read_plan.ensures.plan

pub returns-in-Err-Refused-clause-opened : goal.returns-in-Err-Refused-clause-opened
returns-in-Err-Refused-clause-opened g c =
    opened_front (g.F.Files.content c.args.files.now c.args.file.now) c.in-Ok.bytes.items c.deref.result.now (Err (record { kind = c.in-Err-Refused.kind; node = c.in-Err-Refused.node })) c.in-Ok.ensures.bytes c.deref.ensures.value
    (fault_found c.deref.result.now c.in-Err-Refused.field-0 c.in-Err-Refused.kind c.in-Err-Refused.node c.in-Err-Refused.field-0-is c.in-Err-Refused.ensures.fault)
