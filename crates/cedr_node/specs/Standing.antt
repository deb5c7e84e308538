-- What an operator with an aligner on each port stands for.
use Rattle.std.specs.Prelude.{ℕ, ◌≡◌, ◌+◌, List, [], ◌∷◌, ◌++◌, map, slice_set, slice_index_or, Bool, true, false, cond, nat_eq, if◌then◌else◌}
use Rattle.cedr_base.specs.declared.change.Message.{Message}
use Rattle.cedr_base.specs.declared.change.Message.TheVariants as message
use Rattle.cedr_base.specs.declared.level.Level.{Level}
use Rattle.cedr_table.specs.Operators.{Tables, Meaning, OnlyHolds}
use Rattle.node_laws.specs.declared.forgotten.Forgotten.{Forgotten}
use Rattle.node_laws.specs.Kept.{forgot}
use Rattle.node_laws.specs.Pass.{passed_of}
use Rattle.node_laws.specs.Lists.{Lists}
use Rattle.node_laws.specs.Lawful.{tables_of, fronts_of, passes_of, is_over, any_broken, all_over, IsLawful}
use Rattle.cedr_align.specs.Aligner.{Aligns}
use Rattle.op_driver.specs.Driving.{Drives}
use Rattle.cedr_node.specs.declared.port.Port.{Port}

-- a port stands for a list that it took
pub record PortStands (p : Port) (ms : List Message) : Type 0 where
  pub aligns : Aligns p.aligner ms
  pub forgotten_is : p.forgotten.items ≡ forgot p.aligner.level.memory ms

-- each port stands for the list that it took
abbrev pub AllStand : List Port → Lists → Type 0
AllStand [] [] = Unit {0}
AllStand [] (l ∷ ls) = ⊥
AllStand (p ∷ ps) [] = ⊥
AllStand (p ∷ ps) (l ∷ ls) = PortStands p l × AllStand ps ls

-- the levels of ports
abbrev pub levels_of : List Port → List Level
levels_of ps = map (λ (p : Port). p.aligner.level) ps

-- a message breaks a list: it is Broken
abbrev pub is_broken : Message → Bool
is_broken (message.Change c) = false
is_broken (message.Mark t) = false
is_broken message.End = false
is_broken message.Broken = true

-- a message closes a list: it is End or Broken
abbrev pub is_closing : Message → Bool
is_closing (message.Change c) = false
is_closing (message.Mark t) = false
is_closing message.End = true
is_closing message.Broken = true

-- how many lists may go on
abbrev pub waiting_of : Lists → ℕ
waiting_of [] = 0
waiting_of (l ∷ ls) = cond (is_over l) 0 1 + waiting_of ls

-- the end, where no port waits
abbrev pub end_of_ports : ℕ → List Message
end_of_ports waiting = if nat_eq waiting 0 then message.End ∷ [] else []

-- a break, where no port waits
abbrev pub breaking : ℕ → List Message
breaking waiting = if nat_eq waiting 0 then message.Broken ∷ [] else []

-- the operator and its ports stand for the lists that came on the ports and the list that was given: they are lawful
-- between them
pub record StandsBetween (meaning : Meaning) (stands : Tables → List ℕ → Type 0) (ports : List Port) (marks : List ℕ) (sent waiting : ℕ) (broken : Bool) (lists : Lists) (given : List Message) : Type 0 where
  pub ports_stand : AllStand ports lists
  pub waiting_is : waiting ≡ waiting_of lists
  pub broken_is : broken ≡ any_broken lists
  pub lawful : IsLawful meaning (levels_of ports) lists given
  pub drives : any_broken lists ≡ false → all_over lists ≡ false → Drives meaning stands marks sent (passes_of (levels_of ports) lists) given
  pub echo : any_broken lists ≡ false → meaning.echoes ≡ true → passes_of (levels_of ports) lists ≡ given ∷ []

-- a port took a message
pub record IsPortTaken (old new : Port) (ms : List Message) (m : Message) (before after : List Message) : Type 0 where
  pub stands : PortStands new (ms ++ m ∷ [])
  pub passed_on : after ≡ before ++ passed_of old.aligner.level ms m
  pub same_level : new.aligner.level ≡ old.aligner.level

-- one of the ports took a message
pub record IsTakenOn (old new : List Port) (port : ℕ) (ms : List Message) (m : Message) (passed : List Message) : Type 0 where
  pub was : Port
  pub now : Port
  pub stood_at : slice_index_or old port was ≡ was
  pub stands_at : new ≡ slice_set old port now
  pub taken : IsPortTaken was now ms m [] passed

-- what the memory of the port at a place forgot of the list that it took
pub record IsForgottenAt (ports : List Port) (port : ℕ) (ms : List Message) (listed : List Forgotten) : Type 0 where
  pub at : Port
  pub stands_at : slice_index_or ports port at ≡ at
  pub all : listed ≡ forgot at.aligner.level.memory ms

-- of these rows an operator may hold each one, at the passed tables and the fronts of its ports
abbrev pub HoldsAtFronts : Meaning → List Level → Lists → Tables → Type 0
HoldsAtFronts meaning levels lists held = OnlyHolds meaning (tables_of levels lists) (fronts_of levels lists) held
