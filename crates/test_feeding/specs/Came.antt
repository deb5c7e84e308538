-- What is known of the messages that came on a port.
use Rattle.std.specs.Prelude.{◌≡◌, List, true}
use Rattle.cedr_base.specs.declared.change.Message.{Message}
use Rattle.cedr_base.specs.Messages.{mark_of, IsOpen, IsTableOf}
use Rattle.test_feeding.specs.declared.came.Came.{Came}

-- it has their table and their mark, and nothing more may come where it isn't open
pub record CameFor (came : Came) (ms : List Message) : Type 0 where
  pub table_is : IsTableOf ms came.table
  pub mark_is : came.mark ≡ mark_of ms
  pub opened : came.open ≡ true → IsOpen ms
