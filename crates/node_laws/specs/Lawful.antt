-- When a node is lawful: what it owes over the lists that it took on its ports and the list that it gave.
use Rattle.std.specs.Prelude.{ℕ, ◌≡◌, ◌<◌, ◌&&◌, ◌||◌, List, [], ◌∷◌, ◌++◌, replicate, length, Bool, true, false}
use Rattle.cedr_base.specs.declared.level.Level.{Level}
use Rattle.cedr_base.specs.declared.row.Row.{Row}
use Rattle.cedr_base.specs.declared.change.Message.{Message}
use Rattle.cedr_base.specs.declared.change.Message.TheVariants as message
use Rattle.cedr_base.specs.Rows.{count_of}
use Rattle.cedr_base.specs.Changes.{all_puts}
use Rattle.cedr_base.specs.Messages.{changes_of, mark_of, IsTableOf, IsLegal}
use Rattle.cedr_table.specs.Operators.{Tables, Meaning}
use Rattle.node_laws.specs.Lists.{Lists, with_more, IsReal}
use Rattle.node_laws.specs.Pass.{has_end, passed_table, front, pass}

-- the passed tables of the ports
abbrev pub tables_of : List Level → Lists → Tables
tables_of [] lists = []
tables_of (v ∷ vs) [] = []
tables_of (v ∷ vs) (l ∷ ls) = passed_table v l ∷ tables_of vs ls

-- the fronts of the ports
abbrev pub fronts_of : List Level → Lists → List ℕ
fronts_of [] lists = []
fronts_of (v ∷ vs) [] = []
fronts_of (v ∷ vs) (l ∷ ls) = front v l ∷ fronts_of vs ls

-- the passed lists of the ports
abbrev pub passes_of : List Level → Lists → Lists
passes_of [] lists = []
passes_of (v ∷ vs) [] = []
passes_of (v ∷ vs) (l ∷ ls) = pass v l ∷ passes_of vs ls

-- a list is broken: Broken is among its messages
abbrev pub has_broken : List Message → Bool
has_broken [] = false
has_broken (message.Change c ∷ ms) = has_broken ms
has_broken (message.Mark t ∷ ms) = has_broken ms
has_broken (message.End ∷ ms) = has_broken ms
has_broken (message.Broken ∷ ms) = true

-- some list is broken
abbrev pub any_broken : Lists → Bool
any_broken [] = false
any_broken (l ∷ ls) = has_broken l || any_broken ls

-- each list has its End
abbrev pub all_end : Lists → Bool
all_end [] = true
all_end (l ∷ ls) = has_end l && all_end ls

-- a list is over: it has its End or Broken
abbrev pub is_over : List Message → Bool
is_over l = has_end l || has_broken l

-- each list is over
abbrev pub all_over : Lists → Bool
all_over [] = true
all_over (l ∷ ls) = is_over l && all_over ls

-- some list has a message
abbrev pub any_came : Lists → Bool
any_came [] = false
any_came ([] ∷ ls) = any_came ls
any_came ((m ∷ ms) ∷ ls) = true

-- a list has one Broken, as its last message
pub record EndsBroken (ms : List Message) : Type 0 where
  pub before : List Message
  pub whole : ms ≡ before ++ message.Broken ∷ []
  pub unbroken : has_broken before ≡ false

-- What a node gave fits what it took, where no list is broken. What it gave is legal, its table is the result of the
-- passed tables, and its mark is the bound of the passed tables and fronts. It has its End exactly where each list
-- has, and no Broken. Each row that it ever put is one of the result at tables that the passed lists once had. An
-- output gave what its port passed on.
pub record Fits (meaning : Meaning) (levels : List Level) (lists : Lists) (given : List Message) : Type 0 where
  pub legal : IsLegal given
  pub table : IsTableOf given (meaning.result (tables_of levels lists))
  pub mark : mark_of given ≡ meaning.bound (tables_of levels lists) (fronts_of levels lists)
  pub ended : has_end given ≡ all_end lists
  pub unbroken : has_broken given ≡ false
  pub real : (r : Row) → 0 < count_of r (all_puts (changes_of given)) → IsReal meaning (passes_of levels lists) r
  pub passed_on : meaning.echoes ≡ true → passes_of levels lists ≡ given ∷ []

-- What is right after one message, whose piece is the last one of what was given. Once a list is broken, the piece is
-- one Broken where this message is the last one of all, and else empty.
pub record IsRight (meaning : Meaning) (levels : List Level) (lists : Lists) (given piece : List Message) : Type 0 where
  pub whole : any_broken lists ≡ false → Fits meaning levels lists given
  pub last : any_broken lists ≡ true → all_over lists ≡ true → piece ≡ message.Broken ∷ []
  pub empty : any_broken lists ≡ true → all_over lists ≡ false → piece ≡ []

-- a message that was taken on a port, and the piece that was given for it
pub record Step : Type 0 where
  pub port : ℕ
  pub message : Message
  pub piece : List Message

-- the lists after a step
abbrev pub lists_after : Lists → Step → Lists
lists_after lists s = with_more lists s.port (s.message ∷ [])

-- each step is right, one after the other
abbrev pub AreRightBehind : Meaning → List Level → Lists → List Message → List Step → Type 0
AreRightBehind meaning levels lists given [] = Unit {0}
AreRightBehind meaning levels lists given (s ∷ ss) = IsRight meaning levels (lists_after lists s) (given ++ s.piece) s.piece × AreRightBehind meaning levels (lists_after lists s) (given ++ s.piece) ss

-- the lists after steps
abbrev pub lists_behind : Lists → List Step → Lists
lists_behind lists [] = lists
lists_behind lists (s ∷ ss) = lists_behind (lists_after lists s) ss

-- what steps gave: their pieces, one after the other
abbrev pub given_by : List Step → List Message
given_by [] = []
given_by (s ∷ ss) = s.piece ++ given_by ss

-- a list without a message for each level
abbrev pub no_lists : List Level → Lists
no_lists levels = replicate (length levels) []

-- each step is on one of so many ports
abbrev pub AreOnPorts : ℕ → List Step → Type 0
AreOnPorts ports [] = Unit {0}
AreOnPorts ports (s ∷ ss) = (s.port < ports) × AreOnPorts ports ss

-- A node is lawful from what it took to what it gave: there is an order of the messages, each on one of its ports,
-- which keeps that of each list, and a cutting of what was given into a piece for each, such that it is right after
-- each message.
pub record IsLawful (meaning : Meaning) (levels : List Level) (lists : Lists) (given : List Message) : Type 0 where
  pub steps : List Step
  pub on_ports : AreOnPorts (length levels) steps
  pub lists_are : lists_behind (no_lists levels) steps ≡ lists
  pub given_is : given_by steps ≡ given
  pub right : AreRightBehind meaning levels (no_lists levels) [] steps
