use Rattle.std.proofs.Common.{◌≡◌, ◌<◌, ℕ, [], List, Some, None, Option, get_or, length, ap, sym, ◌∙◌, arith, Bor}
use Rattle.std.specs.Prelude.{option_map, is_some, IfSome, IfNone, nat_lt}
use Rattle.std.specs.Option.{option_copied}
use Rattle.std.proofs.lemmas.Bool.{ltb-true, ltb-false}
use Rattle.std.proofs.lemmas.List.{length-map}
use Rattle.cedr_base.specs.declared.row.Row.{Row}
use Rattle.cedr_text.specs.declared.event_line.EventLine.{EventLine}
use Rattle.cedr_base.specs.declared.interval.Interval.{Interval}
use Rattle.cedr_guard.specs.declared.judge.Judge.{Judge}
use Rattle.cedr_guard.specs.History.{rows_among}
use Rattle.cedr_guard.specs.Standing.{StandsFor, place_in, interval_of}
use Rattle.cedr_guard.proofs.StandingLemmas.{event_here, row_here, interval_here}
use Rattle.cedr_guard.proofs.judge.Judge.event.Goals as goal

abbrev no_row : Row
no_row = record { end = 0; begin = 0; payload = [] }

-- the row at a place
abbrev row_at : List EventLine → ℕ → Row
row_at before p = get_or (rows_among before) p no_row

-- a place where nothing was read is past the end
past_end : (read : Option (Bor Interval)) (intervals : List Interval) (p : ℕ) → is_some read ≡ nat_lt p (length intervals) → None ≡ option_copied read → p < length intervals → ⊥
past_end None intervals p test none within = absurd (omega (arith, within, ltb-false p (length intervals) (sym test)))
past_end (Some interval) intervals p test none within = cc

-- a place where one was read is within
found_within : (read : Option (Bor Interval)) (intervals : List Interval) (p : ℕ) (interval : Interval) → is_some read ≡ nat_lt p (length intervals) → Some interval ≡ option_copied read → p < length intervals
found_within None intervals p interval test some = cc
found_within (Some found) intervals p interval test some = ltb-true p (length intervals) (sym test)

found_there : (read : Option (Bor Interval)) (intervals : List Interval) (p : ℕ) (interval : Interval) → IfSome read (λ x. x.now ≡ get_or intervals p x.now) → Some interval ≡ option_copied read → get_or intervals p interval ≡ interval
found_there None intervals p interval at some = cc
found_there (Some found) intervals p interval at some = let same = at in cc

-- the place is that of an interval
in_range : (judge : Judge) (before : List EventLine) (id p : ℕ) → StandsFor judge before → place_in judge.ids id ≡ Some p → p < length judge.intervals.items
in_range judge before id p stands there =
    omega (arith, row_here judge before id p stands there, ap length stands.intervals, length-map (rows_among before) interval_of)

-- the interval that was read is that of the event's row
interval_read : (judge : Judge) (before : List EventLine) (id p : ℕ) (interval : Interval) → StandsFor judge before → place_in judge.ids id ≡ Some p
    → get_or judge.intervals.items p interval ≡ interval → interval_of (row_at before p) ≡ interval
interval_read judge before id p interval stands there read = sym (interval_here judge before id p no_row interval stands there) ∙ read

if_none : {A : Type 0} (found : Option A) (P : Type 0) → P → IfNone found P
if_none None P holds = holds
if_none (Some x) P holds = tt

pub returns-in_err-interval-clause-none : goal.returns-in_err-interval-clause-none
returns-in_err-interval-clause-none c = if_none c.from_residual-in_err-interval.result _ (λ before stands.
    let there = sym c.in_ok-place.ensures in
    let within = in_range c.args.self.now before c.args.id c.in_ok-place.place stands there in
    absurd (past_end c.get.result c.deref.result.now c.in_ok-place.place c.get.ensures.lookup.0 c.in_err-interval.ensures (omega (arith, within, ap length c.deref.ensures.value))))

pub returns-clause-some : goal.returns-clause-some
returns-clause-some c = λ before stands.
    let there = sym c.in_ok-place.ensures in
    let found = ap (λ xs. get_or xs c.in_ok-place.place c.in_ok-interval.interval) (sym c.deref.ensures.value) ∙ found_there c.get.result c.deref.result.now c.in_ok-place.place c.in_ok-interval.interval c.get.ensures.lookup.1 c.in_ok-interval.ensures in
    let read = interval_read c.args.self.now before c.args.id c.in_ok-place.place c.in_ok-interval.interval stands there found in
    record {
      place = sym (stands.places c.args.id) ∙ there;
      interval = ap (option_map interval_of) (event_here c.args.self.now before c.args.id c.in_ok-place.place no_row stands there) ∙ ap {B = Option Interval} (λ i. Some i) read;
    }
