-- What holds of the worker of an output at every moment.
use Rattle.std.specs.Prelude.{◌≡◌, ◌≢◌, Bool, false, List, [], ◌∷◌, ◌++◌, MatchBool}
use mathlib.Core.List.{IsPrefix}
use Rattle.cedr_base.specs.declared.change.Message.{Message}
use Rattle.cedr_base.specs.declared.change.Message.TheVariants as message
use Rattle.cedr_base.specs.Messages.{changes_of, mark_of, IsLegal}
use Rattle.cedr_history.specs.declared.close.Close.{Close}
use Rattle.cedr_history.specs.declared.close.Close.TheVariants as close
use Rattle.cedr_history.specs.declared.listed.Listed.{Listed}
use Rattle.cedr_history.specs.Ends.{Writing}
use Rattle.cedr_history.specs.Lists.{Extends}
use Rattle.node_laws.specs.Pass.{pass}
use Rattle.cedr_node.specs.declared.node.Node.{Node}
use Rattle.cedr_node.specs.Nodes.{made_of, NodeStands}
use Rattle.cedr_plan.specs.declared.plan.NodeKind.TheVariants as kind

-- how messages end
abbrev pub close_of : List Message → Close
close_of [] = close.Open
close_of (message.Change c ∷ ms) = close_of ms
close_of (message.Mark t ∷ ms) = close_of ms
close_of (message.End ∷ ms) = close.Ended
close_of (message.Broken ∷ ms) = close.Broken

-- the list that messages come to: their changes in order, their greatest mark, and how they end
abbrev pub list_from : List Message → Listed
list_from ms = record { changes = changes_of ms; mark = mark_of ms; close = close_of ms }

-- what the port of an output passes on of the messages that were taken
abbrev pub passed_by : Node → List Message → List Message
passed_by node taken = pass (made_of node).level taken

-- The list of an output: the changes that its port passes on, in order, and the greatest mark among them. It is closed as
-- the messages end that were taken.
abbrev pub output_list : Node → List Message → Listed
output_list node taken = record { changes = changes_of (passed_by node taken); mark = mark_of (passed_by node taken); close = close_of taken }

-- a list is that of the first messages of what the port passes on
pub record IsBeginning (node : Node) (taken : List Message) (list : Listed) : Type 0 where
  pub given : List Message
  pub first : IsPrefix given (passed_by node taken)
  pub list_is : list ≡ list_from given

-- Memory was found: the node stands between what was taken and what its port passes on, and the list is the output's.
pub record WholeOutput (node : Node) (taken : List Message) (list : Listed) : Type 0 where
  pub stands : NodeStands node (taken ∷ []) (passed_by node taken)
  pub list_is : list ≡ output_list node taken

-- What holds of an output's node, of the messages that were taken, and of its writer, which made no last note. Its list
-- with what is pending is the output's where memory was found. Where memory was lacking it is a beginning, as the
-- published list always is: no mark is in it without the changes before that mark, and it isn't closed before its end.
pub record Writes (node : Node) (taken : List Message) (w : Writing) (lacked pending : Bool) : Type 0 where
  pub kind : (made_of node).kind ≡ kind.Output
  pub legal : IsLegal taken
  pub found : lacked ≡ false → WholeOutput node taken w.all
  pub all : IsBeginning node taken w.all
  pub shown : IsBeginning node taken w.published
  pub later : Extends w.published w.all
  pub waits : MatchBool pending (w.published ≢ w.all) (w.published ≡ w.all)
  pub unconcluded : w.concluded ≡ false

-- a writer was handed the first messages of a piece, and all of them where memory was found. Something is pending where
-- it was handed some
pub record IsTold (given piece : List Message) (old new : Writing) (lacked pending : Bool) : Type 0 where
  pub done : List Message
  pub first : IsPrefix done piece
  pub writer : new ≡ record old { all = list_from (given ++ done) }
  pub whole : lacked ≡ false → done ≡ piece
  pub some : MatchBool pending (done ≢ []) (done ≡ [])
