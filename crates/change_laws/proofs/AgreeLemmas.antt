-- Changes from a time on leave a table before it as it is.
use Rattle.std.proofs.Common.{◌≡◌, ℕ, ◌<◌, ◌≤◌, inl, inr, List, [], ◌∷◌, ◌++◌, Bool, true, false, cond, refl, ap, sym, ◌∙◌, arith, min}
use Rattle.std.specs.Prelude.{sum_by, nat_lt}
use Rattle.std.specs.List.{flat_map}
use Rattle.std.proofs.lemmas.Bool.{le-ltb, ltb-false, cases_lt}
use Rattle.std.proofs.lemmas.List.{append-nil}
use Rattle.std.proofs.lemmas.List.Concat.{flat_map-append}
use Rattle.std.proofs.lemmas.List.Sums.{sum_by-append}
use Rattle.cedr_base.specs.declared.row.Row.{Row}
use Rattle.cedr_base.specs.declared.change.Change.{Change}
use Rattle.cedr_base.specs.declared.change.Change.TheVariants.{Add, Cut}
use Rattle.cedr_base.specs.declared.change.Message.{Message}
use Rattle.cedr_base.specs.declared.change.Message.TheVariants as message
use Rattle.cedr_base.specs.Messages.{changes_of, mark_of, IsTableOf, IsLegalBehind, IsLegal}
use Rattle.cedr_base.proofs.Bags.{count_of-append, count_of-cons, one_if_same_exact}
use Rattle.cedr_base.specs.Rows.{count_of, one_if_same, IsRow, AreRows, SameRows}
use Rattle.cedr_base.specs.Changes.{IsChange, puts, takes, all_puts, all_takes, remnant}
use Rattle.change_laws.specs.Repairs.{AllFrom, Leads}
use Rattle.change_laws.specs.Agreeing.{row_up_to, rows_up_to, AgreeUpTo}
use Rattle.change_laws.proofs.BagSums.{sum_by-same, sum_by-flat_map, same_flat_map, same_itself, same_back, same_along}
use Rattle.change_laws.proofs.Moves.{remnant_some, remnant_none, may_is, puts_are_rows}
use Rattle.change_laws.proofs.RepairLemmas.{AllChanges, takes-append, puts-append}
use Rattle.change_laws.proofs.Legal.{changes-append, mark-append, legal_rest}

-- what a row adds to the count of a row before a time
abbrev pub share : ℕ → Row → Row → ℕ
share t r x = count_of r (row_up_to t x)

-- a row that begins at a time or later is nothing before it
pub up_to_late : (t : ℕ) (x : Row) → t ≤ x.begin → row_up_to t x ≡ []
up_to_late t x h = ap {B = List Row} (λ b. cond b (record x { end = min x.end t } ∷ []) []) (le-ltb x.begin (min x.end t) (omega arith))

-- what a cut leaves is the same before its end as the row was
up_to_cut : (t : ℕ) (x : Row) (e : ℕ) → t ≤ e → e ≤ x.end → row_up_to t (record x { end = e }) ≡ row_up_to t x
up_to_cut t x e from within =
    let is : min e t ≡ min x.end t = omega arith in
    ap {B = List Row} (λ n. cond (nat_lt x.begin n) (record x { end = n } ∷ []) []) is

one : (t : ℕ) (r x : Row) → sum_by (share t r) (x ∷ []) ≡ share t r x
one t r x = omega arith

cut_before : (t : ℕ) (r a : Row) (e : ℕ) → t ≤ e → a.begin ≤ e → e < a.end → sum_by (share t r) (remnant a e) ≡ share t r a
cut_before t r a e from above below = elim (cases_lt a.begin e) [
  | inl lives ↦ ap (sum_by (share t r)) (remnant_some a e lives) ∙ (one t r (record a { end = e }) ∙ ap (count_of r) (up_to_cut t a e from (omega arith)))
  | inr gone ↦ ap (sum_by (share t r)) (remnant_none a e gone) ∙ sym (ap (count_of r) (up_to_late t a (omega arith)))
]

before_change : (t : ℕ) (r : Row) (c : Change) → IsChange c → AllFrom t (c ∷ []) → sum_by (share t r) (puts c) ≡ sum_by (share t r) (takes c)
before_change t r (Add a) is from = one t r a ∙ ap (count_of r) (up_to_late t a from.0)
before_change t r (Cut a e) is from = cut_before t r a e from.0 is.1 is.2 ∙ sym (one t r a)

before_changes : (t : ℕ) (r : Row) (cs : List Change) → AllChanges cs → AllFrom t cs → sum_by (share t r) (all_puts cs) ≡ sum_by (share t r) (all_takes cs)
before_changes t r [] are from = refl
before_changes t r (c ∷ cs) are from =
    omega (arith, sum_by-append (share t r) (puts c) (all_puts cs), sum_by-append (share t r) (takes c) (all_takes cs), before_change t r c are.0 (from.0, tt), before_changes t r cs are.1 from.1)

-- a table and what changes from a time on make of it agree up to that time
pub leads_agree : (t : ℕ) (old new : List Row) (cs : List Change) → AllChanges cs → AllFrom t cs → Leads old cs new → AgreeUpTo t old new
leads_agree t old new cs are from leads = record {
  same = record {
    each = λ r. omega (
      arith,
      sum_by-flat_map (one_if_same r) (row_up_to t) old,
      sum_by-flat_map (one_if_same r) (row_up_to t) new,
      before_changes t r cs are from,
      sum_by-same (share t r) _ _ leads.sums,
      sum_by-append (share t r) new (all_takes cs),
      sum_by-append (share t r) old (all_puts cs),
    );
  };
}

-- up to an earlier time, what a row is before a later one is what it is itself
earlier_row : (t s : ℕ) (x : Row) (b : Bool) → t ≤ s → nat_lt x.begin (min x.end s) ≡ b → flat_map (row_up_to t) (cond b (record x { end = min x.end s } ∷ []) []) ≡ row_up_to t x
earlier_row t s x true h is =
    let least : min (min x.end s) t ≡ min x.end t = omega arith in
    append-nil (row_up_to t (record x { end = min x.end s })) ∙ ap {B = List Row} (λ n. cond (nat_lt x.begin n) (record x { end = n } ∷ []) []) least
earlier_row t s x false h is =
    let none = ltb-false x.begin (min x.end s) is in
    sym (ap {B = List Row} (λ b. cond b (record x { end = min x.end t } ∷ []) []) (le-ltb x.begin (min x.end t) (omega arith)))

-- up to an earlier time, what a table is before a later one is what it is itself
pub earlier_rows : (t s : ℕ) (xs : List Row) → t ≤ s → rows_up_to t (rows_up_to s xs) ≡ rows_up_to t xs
earlier_rows t s [] h = refl
earlier_rows t s (x ∷ xs) h =
    flat_map-append (row_up_to t) (row_up_to s x) (rows_up_to s xs)
    ∙ (ap (λ rows. rows ++ rows_up_to t (rows_up_to s xs)) (earlier_row t s x (nat_lt x.begin (min x.end s)) h refl)
    ∙ ap (λ rows. row_up_to t x ++ rows) (earlier_rows t s xs h))

-- tables that agree up to a time agree up to each earlier one
pub agree_earlier : (t s : ℕ) (xs ys : List Row) → t ≤ s → AgreeUpTo s xs ys → AgreeUpTo t xs ys
agree_earlier t s xs ys h agree = record {
  same = record {
    each = λ r.
        ap (count_of r) (sym (earlier_rows t s xs h))
        ∙ ((same_flat_map (row_up_to t) (rows_up_to s xs) (rows_up_to s ys) agree.same).each r
        ∙ ap (count_of r) (earlier_rows t s ys h));
  };
}

-- what comes after messages leads on from their table
leads_from : (ms more : List Message) (old new : List Row) → IsTableOf ms old → IsTableOf (ms ++ more) new → Leads old (changes_of more) new
leads_from ms more old new before after = record {
  sums = record {
    each = λ r. omega (
      arith,
      before.sums.each r,
      after.sums.each r,
      ap (λ cs. count_of r (all_takes cs)) (changes-append ms more),
      ap (λ cs. count_of r (all_puts cs)) (changes-append ms more),
      takes-append r (changes_of ms) (changes_of more),
      puts-append r (changes_of ms) (changes_of more),
      count_of-append r old (all_takes (changes_of ms)),
      count_of-append r new (all_takes (changes_of (ms ++ more))),
      count_of-append r new (all_takes (changes_of more)),
      count_of-append r old (all_puts (changes_of more)),
    );
  };
}

record Behind (t : ℕ) (cs : List Change) : Type 0 where
  are : AllChanges cs
  from : AllFrom t cs

behind : (t : ℕ) (before more : List Message) → t ≤ mark_of before → IsLegalBehind before more → Behind t (changes_of more)
behind t before [] h legal = record { are = tt; from = tt }
behind t before (message.Change c ∷ more) h legal =
    let rest = behind t (before ++ message.Change c ∷ []) more (omega (arith, mark-append before (message.Change c ∷ []))) legal.1 in
    record { are = (may_is [] (changes_of before) c legal.0.1.0, rest.are); from = (let m = legal.0.1.1 in omega arith, rest.from) }
behind t before (message.Mark s ∷ more) h legal = behind t (before ++ message.Mark s ∷ []) more (omega (arith, mark-append before (message.Mark s ∷ []))) legal.1
behind t before (message.End ∷ more) h legal = behind t (before ++ message.End ∷ []) more (omega (arith, mark-append before (message.End ∷ []))) legal.1
behind t before (message.Broken ∷ more) h legal = behind t (before ++ message.Broken ∷ []) more (omega (arith, mark-append before (message.Broken ∷ []))) legal.1

-- where a legal list goes on, its table agrees with the earlier one up to the earlier mark
pub going_on_agrees : (ms more : List Message) (old new : List Row) → IsLegal (ms ++ more) → IsTableOf ms old → IsTableOf (ms ++ more) new → AgreeUpTo (mark_of ms) old new
going_on_agrees ms more old new legal before after =
    let rest = behind (mark_of ms) ms more (omega arith) (legal_rest [] ms more legal) in
    leads_agree (mark_of ms) old new (changes_of more) rest.are rest.from (leads_from ms more old new before after)

-- a row that isn't another one is no copy of it
differs : (r x : Row) → (r ≡ x → ⊥) → one_if_same r x ≡ 0
differs r x apart = elim (cases_lt 0 (one_if_same r x)) [
  | inl there ↦ absurd (apart (one_if_same_exact r x there))
  | inr gone ↦ omega (arith, gone)
]

-- a row that ends before a time is a copy of what another one is before it exactly where it is a copy of that one
lowered : (t : ℕ) (r x : Row) → r.end < t → one_if_same r (record x { end = min x.end t }) ≡ one_if_same r x
lowered t r x h = elim (cases_lt t x.end) [
  | inl beyond ↦
      differs r (record x { end = min x.end t }) (λ same. let ends = ap (λ (y : Row). y.end) same in absurd (omega arith))
      ∙ sym (differs r x (λ same. let ends = ap (λ (y : Row). y.end) same in absurd (omega arith)))
  | inr within ↦ ap (λ n. one_if_same r (record x { end = n })) (omega arith)
]

count_before : (t : ℕ) (r x : Row) (b : Bool) → nat_lt x.begin (min x.end t) ≡ b → r.begin < r.end → r.end < t → count_of r (cond b (record x { end = min x.end t } ∷ []) []) ≡ one_if_same r x
count_before t r x true is lives h = omega (arith, count_of-cons r (record x { end = min x.end t }) [], lowered t r x h)
count_before t r x false is lives h =
    let none = ltb-false x.begin (min x.end t) is in
    sym (differs r x (λ same. let ends = ap (λ (y : Row). y.end) same in let begins = ap (λ (y : Row). y.begin) same in absurd (omega arith)))

-- of a row that ends before a time there are as many copies before that time as in all
ended_before : (t : ℕ) (r : Row) (xs : List Row) → r.begin < r.end → r.end < t → count_of r (rows_up_to t xs) ≡ count_of r xs
ended_before t r [] lives h = refl
ended_before t r (x ∷ xs) lives h =
    omega (arith, count_of-append r (row_up_to t x) (rows_up_to t xs), count_of-cons r x xs, count_before t r x (nat_lt x.begin (min x.end t)) refl lives h, ended_before t r xs lives h)

-- tables that agree up to a time have the same copies of each row that ends before it
pub agree_ended : (t : ℕ) (xs ys : List Row) (r : Row) → AgreeUpTo t xs ys → IsRow r → r.end < t → count_of r xs ≡ count_of r ys
agree_ended t xs ys r agree is h = sym (ended_before t r xs is.lives h) ∙ (agree.same.each r ∙ ended_before t r ys is.lives h)

-- a table agrees with itself up to any time
pub agree_itself : (t : ℕ) (xs : List Row) → AgreeUpTo t xs xs
agree_itself t xs = record { same = same_itself (rows_up_to t xs) }

-- where one table agrees with another up to a time, the other agrees with it
pub agree_back : (t : ℕ) (xs ys : List Row) → AgreeUpTo t xs ys → AgreeUpTo t ys xs
agree_back t xs ys h = record { same = same_back (rows_up_to t xs) (rows_up_to t ys) h.same }

-- two tables that agree with one between them up to a time agree up to it
pub agree_along : (t : ℕ) (xs ys zs : List Row) → AgreeUpTo t xs ys → AgreeUpTo t ys zs → AgreeUpTo t xs zs
agree_along t xs ys zs h k = record { same = same_along (rows_up_to t xs) (rows_up_to t ys) (rows_up_to t zs) h.same k.same }

-- the same bag agrees up to any time
pub agree_same : (t : ℕ) (xs ys : List Row) → SameRows xs ys → AgreeUpTo t xs ys
agree_same t xs ys h = record { same = same_flat_map (row_up_to t) xs ys h }

-- what changes put is a row
all_puts_are_rows : (cs : List Change) (r : Row) → AllChanges cs → 0 < count_of r (all_puts cs) → IsRow r
all_puts_are_rows [] r are there = absurd (omega arith)
all_puts_are_rows (c ∷ cs) r are there = elim (cases_lt 0 (count_of r (puts c))) [
  | inl here ↦ puts_are_rows c r are.0 here
  | inr later ↦ all_puts_are_rows cs r are.1 (omega (arith, puts-append r (c ∷ []) cs, count_of-append r (puts c) (all_puts cs)))
]

-- the table of a legal list has only rows
pub table_rows : (ms : List Message) (rows : List Row) → IsLegal ms → IsTableOf ms rows → AreRows rows
table_rows ms rows legal table = record {
  each = λ r there.
      all_puts_are_rows (changes_of ms) r ((behind 0 [] ms (omega arith) legal).are)
      (omega (arith, table.sums.each r, count_of-append r rows (all_takes (changes_of ms))));
}
