-- What the turns of an output's worker come to.
use Rattle.std.specs.Prelude.{◌≡◌, ◌≢◌, ◌⊎◌, true, false, Option, IfSome, IfNone}
use Rattle.cedr_history.specs.declared.close.Close.TheVariants as close
use Rattle.cedr_history.specs.Ends.{NoteSeen, Writing}
use Rattle.cedr_history.specs.Lists.{nothing}
use Rattle.node_laws.specs.Lawful.{is_over}
use Rattle.cedr_node.specs.Nodes.{made_of}
use Rattle.cedr_worker.specs.declared.output.OutputWorker.{OutputWorker}
use Rattle.cedr_worker.specs.Inputs.{Asked, Took}
use Rattle.cedr_worker.specs.Outputs.{Writes}

-- the note says the published list, and isn't the last one; where there is no note, nothing was published
pub record IsNoted (note : Option NoteSeen) (w : Writing) : Type 0 where
  pub some : IfSome note (λ n. n ≡ record { history = w.history; list = w.published; last = false })
  pub none : IfNone note (w.published ≡ nothing)

-- What holds at every moment. Where memory was found, all is published.
pub record OutputWorks (worker : OutputWorker) : Type 0 where
  pub outputs : Writes worker.node worker.input.taken worker.writer worker.lacked worker.pending
  pub published : worker.lacked ≡ false → worker.writer.published ≡ worker.writer.all
  pub noted : IsNoted worker.note worker.writer

-- the worker has the same number, works as the same node of the plan, takes from the same edge and writes the same history
pub record SameOutput (old new : OutputWorker) : Type 0 where
  pub number : new.number ≡ old.number
  pub made : made_of new.node ≡ made_of old.node
  pub input : new.input.edge ≡ old.input.edge
  pub history : new.writer.history ≡ old.writer.history

-- the list is published with its close, or memory was lacking and the input is over
abbrev pub OutputHasEnded : OutputWorker → Type 0
OutputHasEnded worker = (worker.writer.published.close ≢ close.Open) ⊎ ((worker.lacked ≡ true) × (is_over worker.input.taken ≡ true))

-- a message was taken, or more was published
abbrev pub MovedOutput : OutputWorker → OutputWorker → Type 0
MovedOutput old new = Took old.input new.input ⊎ (new.writer.published ≢ old.writer.published)

-- nothing was taken, added or published: the input, which is open, was found empty
pub record IdleOutput (old new : OutputWorker) : Type 0 where
  pub goes : is_over new.input.taken ≡ false
  pub asked : Asked old.input new.input
  pub writer : new.writer ≡ old.writer

-- Where memory was lacking it is so for good, and nothing is added.
pub record StaysLost (old new : OutputWorker) : Type 0 where
  pub lacked : new.lacked ≡ true
  pub all : new.writer.all ≡ old.writer.all
