-- A list of ids with their places.
use Rattle.std.specs.Prelude.{ℕ, ◌<◌, ◌+◌, ◌==◌, suc, List, [], ◌∷◌, All, AllPairs, if◌then◌else◌, Option, None, Some, option_map}
use Rattle.cedr_guard.specs.declared.state.EventState.{EventState}
use Rattle.cedr_guard.specs.declared.ids.IdPlace.{IdPlace}

-- the place of an id in the list, if it is there
abbrev pub place_among : ℕ → List IdPlace → Option ℕ
place_among id [] = None
place_among id (entry ∷ entries) = if entry.id == id then Some entry.place else place_among id entries

-- the ids ascend
abbrev pub AreRising : List IdPlace → Type 0
AreRising entries = AllPairs (λ entry later. entry.id < later.id) entries

-- each id in the list is below this one
abbrev pub AreBelow : ℕ → List IdPlace → Type 0
AreBelow id entries = All (λ entry. entry.id < id) entries

-- the id of an entry
abbrev pub entry_id : IdPlace → ℕ
entry_id entry = entry.id

-- an entry of a map, which has the place of an id
abbrev pub place_entry : ℕ × ℕ → IdPlace
place_entry pair = record { id = pair.0; place = pair.1 }

-- the ids of events, numbered from a place on
abbrev pub placed_from : ℕ → List EventState → List IdPlace
placed_from place [] = []
placed_from place (e ∷ events) = record { id = e.id; place = place } ∷ placed_from (place + 1) events

-- at which place among events the one with this id stands
abbrev pub place_of_id : ℕ → List EventState → Option ℕ
place_of_id id [] = None
place_of_id id (e ∷ events) = if e.id == id then Some 0 else option_map (λ n. suc n) (place_of_id id events)
