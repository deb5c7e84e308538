use Rattle.std.proofs.Common.{subst}
use Rattle.std.proofs.lemmas.Result.{on_ok_weaker}
use Rattle.cedr_base.specs.declared.change.Message.{Message as Sent}
use Rattle.cedr_base.specs.declared.change.Message.TheVariants as message
use Rattle.cedr_base.specs.Messages.{MayCome}
use Rattle.cedr_worker.proofs.OutputLists.{change_told, mark_told, end_told, broken_told, may_tell, writer_told}
use Rattle.cedr_worker.proofs.telling.tell.Goals as goal

pub append-requires : goal.append-requires
append-requires c = record { «open» = may_tell c.args.writer.now.all c.requires.0 c.requires.1 c.args.message c.requires.2 }

pub mark-requires-clause-open : goal.mark-requires-clause-open
mark-requires-clause-open c = may_tell c.args.writer.now.all c.requires.0 c.requires.1 c.args.message c.requires.2

pub close-requires : goal.close-requires
close-requires c = record { «open» = may_tell c.args.writer.now.all c.requires.0 c.requires.1 c.args.message c.requires.2 }

pub close-requires-in-Broken : goal.close-requires-in-Broken
close-requires-in-Broken c = record { «open» = may_tell c.args.writer.now.all c.requires.0 c.requires.1 c.args.message c.requires.2 }

pub returns-in-Change-clause-ok : goal.returns-in-Change-clause-ok
returns-in-Change-clause-ok c =
    let w = c.args.writer.now in
    on_ok_weaker c.append.result
    (λ e given is may. writer_told w c.append.new.self given c.args.message (message.Change c.in-Change.change) _ c.in-Change.is (change_told w.all given is c.in-Change.change (subst (λ (m : Sent). MayCome given m) c.in-Change.is may)) e)
    c.append.ensures.ok

pub returns-in-Mark-clause-ok : goal.returns-in-Mark-clause-ok
returns-in-Mark-clause-ok c =
    let w = c.args.writer.now in
    on_ok_weaker c.mark.result
    (λ e given is may. writer_told w c.mark.new.self given c.args.message (message.Mark c.in-Mark.time) _ c.in-Mark.is (mark_told w.all given is c.in-Mark.time (subst (λ (m : Sent). MayCome given m) c.in-Mark.is may)) e)
    c.mark.ensures.ok

pub returns-in-End-clause-ok : goal.returns-in-End-clause-ok
returns-in-End-clause-ok c =
    let w = c.args.writer.now in
    on_ok_weaker c.close.result
    (λ e given is may. writer_told w c.close.new.self given c.args.message message.End _ c.in-End.is (end_told w.all given is (subst (λ (m : Sent). MayCome given m) c.in-End.is may)) e)
    c.close.ensures.ok

pub returns-in-Broken-clause-ok : goal.returns-in-Broken-clause-ok
returns-in-Broken-clause-ok c =
    let w = c.args.writer.now in
    on_ok_weaker c.close-in-Broken.result
    (λ e given is may. writer_told w c.close-in-Broken.new.self given c.args.message message.Broken _ c.in-Broken.is (broken_told w.all given is (subst (λ (m : Sent). MayCome given m) c.in-Broken.is may)) e)
    c.close-in-Broken.ensures.ok
