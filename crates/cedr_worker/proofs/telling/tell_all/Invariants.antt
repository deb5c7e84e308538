use Rattle.std.proofs.Common.{◌≡◌, ◌≢◌, ◌++◌, List, []}
use Rattle.std.specs.Prelude.{MatchBool}
use Rattle.cedr_base.specs.declared.change.Message.{Message}
use Rattle.cedr_base.specs.Messages.{IsLegal}
use Rattle.cedr_worker.specs.Outputs.{list_from}
use Rattle.cedr_worker.proofs.telling.tell_all.Given as goal

abbrev pub invariant-loop-message : goal.invariant-loop-message
invariant-loop-message l =
    ((given : List Message) → l.initial.writer.all ≡ list_from given → IsLegal (given ++ l.fn.piece.items) → l.writer ≡ record l.initial.writer { all = list_from (given ++ l.yielded) })
    × MatchBool l.pending (l.yielded ≢ []) (l.yielded ≡ [])
