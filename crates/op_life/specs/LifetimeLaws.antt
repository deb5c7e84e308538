-- What the intervals made anew keep.
use Rattle.std.proofs.Common.{◌≡◌, ℕ, ◌+◌, ◌*◌, ◌/◌, ◌<◌, ◌≤◌, inl, inr, Bool, true, false, cond, min, nat_lt, nat_eq, refl, arith}
use Rattle.std.proofs.Math.Nat.{div-mul-le_self, mul-le-mul_right}
use Rattle.std.proofs.lemmas.Nat.{le-div}
use Rattle.std.proofs.lemmas.Bool.{ltb-true, ltb-false, eqb-true}
use Rattle.cedr_base.specs.declared.time.TheConstants.{FOREVER}
use Rattle.cedr_base.specs.declared.interval.Interval.{Interval}
use Rattle.cedr_table.specs.RowWise.{IsLife, MayBecome}
use Rattle.op_life.specs.Lifetimes.{windowed, shifted, multiple_below, hopped, ended, shifted_mark, hopped_mark}

-- the multiple isn't above the time
pub multiple_least : (every time : ℕ) → multiple_below every time ≤ time
multiple_least every time = div-mul-le_self time every

-- no multiple that isn't above the time is greater
pub multiple_greatest : (every k time : ℕ) → 1 ≤ every → k * every ≤ time → k * every ≤ multiple_below every time
multiple_greatest every k time h below = mul-le-mul_right every (le-div k time every (omega arith) below)

multiple_rises : (every time later : ℕ) → 1 ≤ every → time ≤ later → multiple_below every time ≤ multiple_below every later
multiple_rises every time later h rise = multiple_greatest every (time / every) later h (let x = multiple_least every time in omega arith)

-- of an interval that a row may have, the window is one too where it isn't empty
pub window_is_life : (w begin end : ℕ) → IsLife begin end → (windowed w begin end).begin < (windowed w begin end).end → IsLife (windowed w begin end).begin (windowed w begin end).end
window_is_life w begin end h lives = record { lives = lives; begins = h.begins; ends = let x = h.ends in omega arith }

-- where a row is cut to a time or later, its window becomes what it may from that time on
pub window_becomes : (w begin end earlier t : ℕ) → earlier < end → t ≤ earlier → MayBecome t (windowed w begin end) (windowed w begin earlier)
window_becomes w begin end earlier t below from = inl (record { same_begin = refl; within = omega arith; from = λ h. omega arith })

-- of an interval that a row may have, the shifted one is one too where it isn't empty
pub shift_is_life : (d begin end : ℕ) → IsLife begin end → (shifted d begin end).begin < (shifted d begin end).end → IsLife (shifted d begin end).begin (shifted d begin end).end
shift_is_life d begin end h lives = record { lives = lives; begins = omega arith; ends = omega arith }

shifted_below_at : (d mark time : ℕ) (b : Bool) → mark ≤ time → cond {A = ℕ} b 0 (min (mark + d) FOREVER) ≤ min (time + d) FOREVER
shifted_below_at d mark time true h = omega arith
shifted_below_at d mark time false h = omega arith

-- a shifted mark isn't above what is shifted from the mark on
pub shifted_below : (d mark time : ℕ) → mark ≤ time → shifted_mark d mark ≤ min (time + d) FOREVER
shifted_below d mark time h = shifted_below_at d mark time (nat_eq mark 0) h

-- where a row is cut to a time or later, its shifted interval becomes what it may from the shifted mark on
pub shift_becomes : (d begin end earlier t : ℕ) → earlier < end → t ≤ earlier → MayBecome (shifted_mark d t) (shifted d begin end) (shifted d begin earlier)
shift_becomes d begin end earlier t below from = inl (record { same_begin = refl; within = omega arith; from = λ h. shifted_below d t earlier from })

shifted_rises_at : (d mark higher : ℕ) (b : Bool) → nat_eq higher 0 ≡ b → mark ≤ higher → shifted_mark d mark ≤ cond {A = ℕ} b 0 (min (higher + d) FOREVER)
shifted_rises_at d mark higher true is h = let none = eqb-true higher 0 is in let zero : mark ≡ 0 = omega arith in rw zero (omega arith)
shifted_rises_at d mark higher false is h = shifted_below d mark higher h

-- a shifted mark doesn't fall while the mark rises
pub shifted_rises : (d mark higher : ℕ) → mark ≤ higher → shifted_mark d mark ≤ shifted_mark d higher
shifted_rises d mark higher h = shifted_rises_at d mark higher (nat_eq higher 0) refl h

shifted_is_time_at : (d mark : ℕ) (b : Bool) → cond {A = ℕ} b 0 (min (mark + d) FOREVER) ≤ FOREVER
shifted_is_time_at d mark true = omega arith
shifted_is_time_at d mark false = omega arith

-- a shifted mark isn't above FOREVER
pub shifted_is_time : (d mark : ℕ) → shifted_mark d mark ≤ FOREVER
shifted_is_time d mark = shifted_is_time_at d mark (nat_eq mark 0)

-- of an interval that a row may have, the hopped one is one too where it isn't empty
pub hop_is_life : (every width begin end : ℕ) → IsLife begin end → (hopped every width begin end).begin < (hopped every width begin end).end → IsLife (hopped every width begin end).begin (hopped every width begin end).end
hop_is_life every width begin end h lives = record { lives = lives; begins = let x = h.begins in let y = multiple_least every begin in omega arith; ends = omega arith }

hopped_below_at : (every mark time : ℕ) (b : Bool) → nat_lt mark FOREVER ≡ b → 1 ≤ every → mark ≤ time → time < FOREVER → cond {A = ℕ} b (multiple_below every mark) FOREVER ≤ multiple_below every time
hopped_below_at every mark time true is h rise finite = multiple_rises every mark time h rise
hopped_below_at every mark time false is h rise finite = let x = ltb-false mark FOREVER is in absurd (omega arith)

-- a hopped mark isn't above what is hopped from the mark on
pub hopped_below : (every mark time : ℕ) → 1 ≤ every → mark ≤ time → time < FOREVER → hopped_mark every mark ≤ multiple_below every time
hopped_below every mark time h rise finite = hopped_below_at every mark time (nat_lt mark FOREVER) refl h rise finite

hopped_is_time_at : (every mark : ℕ) (b : Bool) → nat_lt mark FOREVER ≡ b → cond {A = ℕ} b (multiple_below every mark) FOREVER ≤ FOREVER
hopped_is_time_at every mark true is = let x = ltb-true mark FOREVER is in let y = multiple_least every mark in omega arith
hopped_is_time_at every mark false is = omega arith

-- a hopped mark isn't above FOREVER
pub hopped_is_time : (every mark : ℕ) → hopped_mark every mark ≤ FOREVER
hopped_is_time every mark = hopped_is_time_at every mark (nat_lt mark FOREVER) refl

hopped_rises_at : (every mark higher : ℕ) (b : Bool) → nat_lt higher FOREVER ≡ b → 1 ≤ every → mark ≤ higher → hopped_mark every mark ≤ cond {A = ℕ} b (multiple_below every higher) FOREVER
hopped_rises_at every mark higher true is h rise = hopped_below every mark higher h rise (ltb-true higher FOREVER is)
hopped_rises_at every mark higher false is h rise = hopped_is_time every mark

-- a hopped mark doesn't fall while the mark rises
pub hopped_rises : (every mark higher : ℕ) → 1 ≤ every → mark ≤ higher → hopped_mark every mark ≤ hopped_mark every higher
hopped_rises every mark higher h rise = hopped_rises_at every mark higher (nat_lt higher FOREVER) refl h rise

-- where a row is cut to a time or later, the interval from its end on becomes what it may from that time on
pub end_becomes : (begin end earlier t : ℕ) → earlier < end → t ≤ earlier → MayBecome t (ended begin end) (ended begin earlier)
end_becomes begin end earlier t below from = inr (record { other_begin = λ same. omega arith; old_from = omega arith; new_from = from })

-- a row of the result may stay as it is
pub stays : (t : ℕ) (life : Interval) → MayBecome t life life
stays t life = inl (record { same_begin = refl; within = omega arith; from = λ h. absurd (omega arith) })
