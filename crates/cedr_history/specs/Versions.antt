-- The rule of the versions.
use Rattle.std.specs.Prelude.{◌≡◌, ℕ, true, List, map}
use Rattle.std.specs.Arc.{arc_value}
use mathlib.Core.Option.{some}
use lib.ListN.{get_elem?}
use Rattle.cedr_history.specs.declared.step.Step.{Step}
use Rattle.cedr_history.specs.declared.listed.Listed.{Listed}
use Rattle.cedr_history.specs.declared.states.Knows.{Knows}
use Rattle.cedr_history.specs.declared.version.Version.{Version}
use Rattle.cedr_history.specs.Lists.{listed, stepped}
use Rattle.cedr_history.specs.Sights.{Sight, SightBegins}

-- the list that the version has
abbrev pub listing : Version → Listed
listing x = record { changes = map arc_value x.changes.items; mark = x.mark; close = x.close }

-- the second step does what the first one does
abbrev pub SameStep : Step → Step → Type 0
SameStep a b = (l : Listed) → stepped l b ≡ stepped l a

-- it is what the steps of its front leave
abbrev pub IsTied : Version → Type 0
IsTied x = listing x ≡ listed x.front.steps

-- a pass that knows a beginning
abbrev pub knower : Sight → Knows
knower s = record { known = true; front = s }

-- the version is what its steps leave, and they go on from all that each pass has seen or learnt, in one history
abbrev pub IsLatest : Version → List Knows → Type 0
IsLatest x views = IsTied x × ((seat : ℕ) (v : Knows) → get_elem? views seat ≡ some v → v.known ≡ true → SightBegins v.front x.front)

-- what is published afterwards is seen. It goes on from what was seen
abbrev pub Saw : Knows → Version → Version → Knows → Type 0
Saw v x y w = (w ≡ knower y.front) × IsTied y × (v.known ≡ true → SightBegins v.front y.front)
