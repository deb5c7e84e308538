use Rattle.std.proofs.Common.{◌≡◌, ◌<◌, List, take, length}
use Rattle.cedr_base.specs.declared.change.Message.{Message}
use Rattle.cedr_base.specs.Messages.{IsLegalBehind}
use Rattle.node_laws.specs.Lists.{Lists, list_at}
use Rattle.op_driver.specs.Driving.{DriverWorks, IsFed}
use Rattle.op_driver.proofs.driver.feed_all.Given as goal

abbrev pub invariant-loop-message : goal.invariant-loop-message
invariant-loop-message g l =
    let op = g.O.Operator in
    let old = l.initial.op in
    record {
      fed : (lists : Lists) (given : List Message) → DriverWorks (op.meaning old) (op.stands old) l.initial.marks.items lists given → l.port < length lists → IsLegalBehind (list_at lists l.port) l.fn.taken.items
          → IsFed (op.meaning old) (op.stands l.op) l.marks.items lists l.port l.yielded given l.initial.out.items l.out.items;
      meaning : op.meaning l.op ≡ op.meaning old;
      kept : take (length l.initial.out.items) l.out.items ≡ l.initial.out.items;
    }
