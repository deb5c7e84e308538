-- A seat may go to another thread where its workers may.
use denote.RattleType.{RattleType}
use denote.Param.Send.{IsSend, recorded_send, struct_send, sendable}
use denote.Struct.Declared as declared
use denote.Struct.Struct.{Struct}
use Rattle.std.proofs.Crossing.{crosses}
use Rattle.pool_queue.proofs.pass.TaskPass.TheSendSync as pass
use Rattle.cedr_pool.specs.declared.task.Works.{Ghosts}
use Rattle.cedr_pool.specs.contracts.seat.Seat as Seat
use Rattle.cedr_pool.specs.contracts.task.Task as Task

task_send : (W : RattleType) (works : Ghosts W.Denot) → IsSend W → IsSend (Task.the_row W works)
task_send W works s = search (sendable, crosses) depth 20

pub seat_send : (W : RattleType) (works : Ghosts W.Denot) → IsSend W → IsSend (Seat.the_row W works)
seat_send W works s =
    let T = Seat.the_type W works in
    recorded_send (Struct (declared.shape T)) T.D T.to T.to_one (struct_send (declared.shape T) (pass.the_send (Task.the_row W works) W _ (task_send W works s), (search (sendable, crosses) depth 20, tt)))
