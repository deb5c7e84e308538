-- How the code goes through a line to see that it keeps the rule of quotes. No public contract rests on it.
use Rattle.std.specs.Prelude.{ℕ, ◌==◌, Bool, true, false, Option, None, Some, if◌then◌else◌}
use Rattle.cedr_text.specs.Texts.{comma, quote}
use Rattle.cedr_text.specs.declared.quoting.Place.{Place}
use Rattle.cedr_text.specs.declared.quoting.Place.TheVariants.{FieldStart, Bare, Quoted, BehindQuote}

-- the place after a byte, or nothing where the byte can't stand there
abbrev pub place_after : Place → ℕ → Option Place
place_after FieldStart b = if b == quote then Some Quoted else if b == comma then Some FieldStart else Some Bare
place_after Bare b = if b == quote then None else if b == comma then Some FieldStart else Some Bare
place_after Quoted b = if b == quote then Some BehindQuote else Some Quoted
place_after BehindQuote b = if b == quote then Some Quoted else if b == comma then Some FieldStart else None

-- the line may end here
abbrev pub may_end : Place → Bool
may_end FieldStart = true
may_end Bare = true
may_end Quoted = false
may_end BehindQuote = true
