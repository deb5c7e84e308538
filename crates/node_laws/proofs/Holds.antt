-- What is held, message by message.
use Rattle.std.proofs.Common.{◌≡◌, ℕ, ◌+◌, ◌<◌, ◌≤◌, List, [], ◌∷◌, ◌++◌, Bool, true, false, cond, not, ◌&&◌, refl, ap, sym, ◌∙◌, subst, arith}
use Rattle.std.specs.Prelude.{Option, Some, None, nat_lt}
use Rattle.std.proofs.lemmas.Bool.{ltb-true, ltb-false, lt-ltb, le-ltb, and_parts, and_from, not-true, not_from_false}
use Rattle.cedr_base.specs.declared.row.Row.{Row}
use Rattle.cedr_base.specs.declared.change.Message.{Message}
use Rattle.cedr_base.specs.declared.change.Message.TheVariants as message
use Rattle.cedr_base.specs.Rows.{same_row, count_of, SameRows}
use Rattle.cedr_base.specs.Messages.{mark_of, IsOpen}
use Rattle.cedr_base.proofs.Bags.{same_row_exact, count_of-cons}
use Rattle.change_laws.proofs.BagSums.{count_of-itself}
use Rattle.change_laws.proofs.Legal.{mark-append}
use Rattle.cedr_base.specs.declared.level.Level.{Level}
use Rattle.node_laws.specs.Kept.{high_of, kept_table}
use Rattle.node_laws.specs.Pass.{has_end, is_blocked, is_held, holds, held, passed_table, least_begin, front_at}
use Rattle.cedr_table.proofs.FilterLemmas.{count-filter, count-rest}
use Rattle.node_laws.proofs.Grows.{high-append}

-- an open list doesn't have its End
pub open_is : (ms : List Message) → IsOpen ms → has_end ms ≡ false
open_is [] h = refl
open_is (message.Change c ∷ ms) h = open_is ms h
open_is (message.Mark t ∷ ms) h = open_is ms h
open_is (message.End ∷ ms) h = absurd h
open_is (message.Broken ∷ ms) h = absurd h

blocked_before : (block : Option ℕ) (high high' : ℕ) (r : Row) → high ≤ high' → is_blocked block high' r ≡ true → is_blocked block high r ≡ true
blocked_before None high high' r up h = refl
blocked_before (Some b) high high' r up h = let k = ltb-true high' (r.begin + b) h in lt-ltb high (r.begin + b) (omega arith)

-- what a held row is
pub held_ends : (block : Option ℕ) (ended : Bool) (mark high : ℕ) (r : Row) → is_held block ended mark high r ≡ true → (ended ≡ false) × (mark ≤ r.end) × (is_blocked block high r ≡ true)
held_ends block ended mark high r h =
    let one = and_parts (not ended) (not (nat_lt r.end mark) && is_blocked block high r) h in
    let two = and_parts (not (nat_lt r.end mark)) (is_blocked block high r) one.1 in
    (not-true ended one.0, ltb-false r.end mark (not-true _ two.0), two.1)

-- before the end a row is held that is blocked and doesn't end before the mark
pub held_from : (block : Option ℕ) (mark high : ℕ) (r : Row) → mark ≤ r.end → is_blocked block high r ≡ true → is_held block false mark high r ≡ true
held_from block mark high r h k = and_from (not (nat_lt r.end mark)) (is_blocked block high r) (not_from_false _ (le-ltb r.end mark h)) k

-- what is held was held at each earlier mark and greatest time, before the end
pub held_before : (block : Option ℕ) (ended : Bool) (mark mark' high high' : ℕ) (r : Row) → mark ≤ mark' → high ≤ high' → is_held block ended mark' high' r ≡ true → is_held block false mark high r ≡ true
held_before block ended mark mark' high high' r up up' h =
    let k = held_ends block ended mark' high' r h in
    let e = k.1 in
    held_from block mark high r (omega arith) (blocked_before block high high' r up' k.2)

blocked_same : (block : Option ℕ) (high : ℕ) (a : Row) (e : ℕ) → is_blocked block high (record a { end = e }) ≡ is_blocked block high a
blocked_same None high a e = refl
blocked_same (Some b) high a e = refl

-- what a cut leaves of a row is held only where the row was
pub held_whole : (block : Option ℕ) (mark high : ℕ) (a : Row) (e : ℕ) → e < a.end → is_held block false mark high (record a { end = e }) ≡ true → is_held block false mark high a ≡ true
held_whole block mark high a e shorter h =
    let k = held_ends block false mark high (record a { end = e }) h in
    let m : mark ≤ e = k.1 in
    held_from block mark high a (omega arith) (sym (blocked_same block high a e) ∙ k.2)

module _ (level : Level) (ms : List Message) (m : Message) (opened : IsOpen ms) where
  pub mark_up : mark_of ms ≤ mark_of (ms ++ m ∷ [])
  mark_up = omega (arith, mark-append ms (m ∷ []))

  pub high_up : high_of ms ≤ high_of (ms ++ m ∷ [])
  high_up = omega (arith, high-append ms (m ∷ []))

  -- what is held was held before the message came
  pub holds_before : (r : Row) → holds level (ms ++ m ∷ []) r ≡ true → holds level ms r ≡ true
  holds_before r h =
      subst (λ (b : Bool). is_held level.block b (mark_of ms) (high_of ms) r ≡ true) (sym (open_is ms opened))
      (held_before level.block (has_end (ms ++ m ∷ [])) (mark_of ms) (mark_of (ms ++ m ∷ [])) (high_of ms) (high_of (ms ++ m ∷ [])) r mark_up high_up h)

  pub holds_whole : (a : Row) (e : ℕ) → e < a.end → holds level ms (record a { end = e }) ≡ true → holds level ms a ≡ true
  holds_whole a e shorter h =
      subst (λ (b : Bool). is_held level.block b (mark_of ms) (high_of ms) a ≡ true) (sym (open_is ms opened))
      (held_whole level.block (mark_of ms) (high_of ms) a e shorter (subst (λ (b : Bool). is_held level.block b (mark_of ms) (high_of ms) (record a { end = e }) ≡ true) (open_is ms opened) h))

-- the least of a time and the begins of rows isn't above that time
pub least-mark : (t : ℕ) (rows : List Row) → least_begin t rows ≤ t
least-mark t [] = omega arith
least-mark t (r ∷ rows) = omega (arith, least-mark t rows)

least_at : (t : ℕ) (x r : Row) (rows : List Row) (b : Bool) → cond {A = ℕ} b 1 0 + count_of r rows ≡ count_of r (x ∷ rows) → (b ≡ true → r ≡ x) → 0 < count_of r (x ∷ rows) → (0 < count_of r rows → least_begin t rows ≤ r.begin) → least_begin t (x ∷ rows) ≤ r.begin
least_at t x r rows true sums same there rest = let e = ap (λ (y : Row). y.begin) (same refl) in omega arith
least_at t x r rows false sums same there rest = let k : least_begin t rows ≤ r.begin = rest (omega arith) in omega arith

-- the least of a time and the begins of rows isn't above the begin of any of these rows
pub least-there : (t : ℕ) (rows : List Row) (r : Row) → 0 < count_of r rows → least_begin t rows ≤ r.begin
least-there t [] r there = absurd (omega arith)
least-there t (x ∷ rows) r there = least_at t x r rows (same_row r x) (sym (count_of-cons r x rows)) (same_row_exact r x) there (least-there t rows r)

-- what is at most a time and the begin of each row is at most the least of these
pub least-from : (t m : ℕ) (rows : List Row) → m ≤ t → ((r : Row) → 0 < count_of r rows → m ≤ r.begin) → m ≤ least_begin t rows
least-from t m [] h k = h
least-from t m (x ∷ rows) h k =
    let here = k x (count_of-itself x rows) in
    let rest = least-from t m rows h (λ r there. k r (omega (arith, count_of-cons r x rows))) in
    omega arith

-- the least of a time and the begins of rows depends on the bag of rows alone
pub least-same : (t : ℕ) (xs ys : List Row) → SameRows xs ys → least_begin t xs ≡ least_begin t ys
least-same t xs ys h =
    let up = least-from t (least_begin t xs) ys (least-mark t xs) (λ r there. least-there t xs r (let e = h.each r in omega arith)) in
    let down = least-from t (least_begin t ys) xs (least-mark t ys) (λ r there. least-there t ys r (let e = h.each r in omega arith)) in
    omega arith

-- the front depends on the bag of held rows alone
pub front-same : (ended : Bool) (t : ℕ) (xs ys : List Row) → SameRows xs ys → front_at ended t xs ≡ front_at ended t ys
front-same true t xs ys h = refl
front-same false t xs ys h = least-same t xs ys h

-- of a row that is held, all copies that are kept are held, and of any other row none
pub count-held : (level : Level) (ms : List Message) (r : Row) → count_of r (held level ms) ≡ cond (holds level ms r) (count_of r (kept_table level.memory ms)) 0
count-held level ms r = count-filter r (holds level ms) (kept_table level.memory ms)

-- of a row that is held no copy is in the passed table, and of any other row all that are kept
pub count-passed : (level : Level) (ms : List Message) (r : Row) → count_of r (passed_table level ms) ≡ cond (holds level ms r) 0 (count_of r (kept_table level.memory ms))
count-passed level ms r = count-rest r (holds level ms) (kept_table level.memory ms)
