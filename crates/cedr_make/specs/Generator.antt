-- The event files of a workload: two sources of as many events each, whose numbers come from one small generator.
use Rattle.std.specs.Prelude.{ℕ, ◌+◌, ◌*◌, ◌/◌, ◌%◌, List, [], ◌∷◌, ◌++◌, codes, decimal, nat_eq, zero, suc, if◌then◌else◌}
use Rattle.cedr_base.specs.Bytes.{comma, line_feed}

-- a number below 4,096 that looks like chance
abbrev pub chance : ℕ → ℕ
chance k = ((k * 40503 + 12345) % 65536) / 16

-- the first of the four places of `chance` that an event's numbers are at
abbrev pub seed : ℕ → ℕ → ℕ
seed source i = 8 * i + 4 * source

-- when an event begins: from ten times its number on, and less than 50 later
abbrev pub begin_of : ℕ → ℕ → ℕ
begin_of source i = 10 * i + chance (seed source i) % 50

-- how long an event is valid
abbrev pub made_length : ℕ → ℕ → ℕ
made_length source i = 1 + chance (seed source i + 1) % 100

-- the digit of its key
abbrev pub made_key : ℕ → ℕ → ℕ
made_key source i = chance (seed source i + 2) % 2

-- the value of an event, below 1,000
abbrev pub value_of : ℕ → ℕ → ℕ
value_of source i = chance (seed source i + 3) % 1000

-- a key, `k0` or `k1`, and a value
abbrev pub made_payload_text : ℕ → ℕ → List ℕ
made_payload_text source i = codes ",k" ++ (decimal (made_key source i) ++ comma ∷ decimal (value_of source i))

-- the line of an event's insertion, with the event's number as its id
abbrev pub insertion_text : ℕ → ℕ → List ℕ
insertion_text source i = codes "+," ++ (decimal i ++ comma ∷ (decimal (begin_of source i) ++ comma ∷ (decimal (begin_of source i + made_length source i) ++ (made_payload_text source i ++ line_feed ∷ []))))

-- after each fifth event: half of its length is left of it
abbrev pub retraction_text : ℕ → ℕ → List ℕ
retraction_text source i = if nat_eq (i % 5) 4 then codes "-," ++ (decimal i ++ comma ∷ (decimal (begin_of source i + made_length source i / 2) ++ line_feed ∷ [])) else []

-- after each sixteenth event: none of the next ones begins before this time
abbrev pub guarantee_text : ℕ → List ℕ
guarantee_text i = if nat_eq (i % 16) 15 then codes "=," ++ (decimal (10 * (i + 1)) ++ line_feed ∷ []) else []

-- the lines of the event of this number
abbrev pub event_text : ℕ → ℕ → List ℕ
event_text source i = insertion_text source i ++ (retraction_text source i ++ guarantee_text i)

-- the file of a source of so many events
abbrev pub made_text : ℕ → ℕ → List ℕ
made_text source zero = []
made_text source (suc n) = made_text source n ++ event_text source n
