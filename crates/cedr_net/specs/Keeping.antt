-- What a network keeps of the messages that its output gave.
use Rattle.std.specs.Prelude.{ℕ, Bool, true, false, nat_eq}
use Rattle.cedr_net.specs.declared.keeping.Keeping.{Keeping}
use Rattle.cedr_net.specs.declared.keeping.Keeping.TheVariants as keeping

-- the changes are kept
abbrev pub keeps_all : Keeping → Bool
keeps_all keeping.Rows = false
keeps_all keeping.Changes = true
keeps_all (keeping.Messages first) = false

-- messages are handed on, and neither rows nor changes are kept
abbrev pub hands_on : Keeping → Bool
hands_on keeping.Rows = false
hands_on keeping.Changes = false
hands_on (keeping.Messages first) = true

-- how many messages were taken, where they are handed on
abbrev pub taken_number : Keeping → ℕ
taken_number keeping.Rows = 0
taken_number keeping.Changes = 0
taken_number (keeping.Messages first) = first

-- messages are handed on, and the one of a number is the first that wasn't taken
abbrev pub is_next : Keeping → ℕ → Bool
is_next keeping.Rows number = false
is_next keeping.Changes number = false
is_next (keeping.Messages first) number = nat_eq first number
