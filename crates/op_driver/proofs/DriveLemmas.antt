-- An operator that is driven by messages goes on message by message.
use Rattle.std.proofs.Common.{◌≡◌, ℕ, ◌<◌, ◌≤◌, ◌⊎◌, inl, inr, zero, suc, List, [], ◌∷◌, ◌++◌, Bool, true, false, cond, refl, ap, sym, ◌∙◌, subst, arith, length, max, set, append_assoc, take, drop, get_or}
use Rattle.std.specs.Prelude.{map, nat_lt, replicate}
use Rattle.std.proofs.lemmas.Bool.{cases_lt, ltb-true, ltb-false}
use Rattle.std.proofs.lemmas.List.{append-nil, length-take, take-append-le, take-append-drop}
use Rattle.cedr_base.specs.declared.time.TheConstants.{FOREVER}
use Rattle.cedr_base.specs.declared.row.Row.{Row}
use Rattle.cedr_base.specs.declared.change.Change.{Change}
use Rattle.cedr_base.specs.declared.change.Change.TheVariants.{Add, Cut}
use Rattle.cedr_base.specs.declared.change.Message.{Message}
use Rattle.cedr_base.specs.declared.change.Message.TheVariants as message
use Rattle.cedr_base.specs.Rows.{count_of, SameRows}
use Rattle.cedr_base.specs.Changes.{puts, takes, all_puts, all_takes, count_after, MayFollow}
use Rattle.cedr_base.specs.Messages.{changes_of, mark_of, IsOpen, IsTableOf, MayCome, IsLegal, IsLegalBehind}
use Rattle.cedr_base.proofs.Bags.{count_of-append}
use Rattle.change_laws.specs.Repairs.{AreLegal, Repair, wrapped}
use Rattle.change_laws.proofs.BagSums.{same_itself, same_back}
use Rattle.change_laws.proofs.Moves.{applied, applied_moves}
use Rattle.change_laws.proofs.RepairLemmas.{takes-append, puts-append}
use Rattle.change_laws.proofs.Legal.{legal-push, changes-append, changes-wrapped, mark-append, mark-wrapped, open-append, open-wrapped, legal_repaired, table_repaired, table_moved, table_stays, may_follow_table}
use Rattle.cedr_table.specs.Operators.{Tables, Meaning, table_at, mark_at, with_table, CanTake, AllRise, AreTimes, SameTables, OnlyHolds}
use Rattle.cedr_table.specs.PortLaws.{rise_set, times_set}
use Rattle.node_laws.specs.Lists.{Lists, list_at, with_more, AreTables, AreTablesOfPrefixes, IsReal, mark_above}
use Rattle.op_driver.specs.Driving.{DriverWorks, Drives, MayTake, IsFed, Answers}
use Rattle.node_laws.proofs.Splits.{takes-one, puts-one, in_one}
use Rattle.node_laws.proofs.Passes.{wrapped-append, from-weaker, table_alike}
use Rattle.node_laws.proofs.Strong.{changes_marks}
use Rattle.node_laws.proofs.ListLemmas.{at_more}

-- there are as many tables as lists whose tables they are
pub are_length : (ls : Lists) (ts : Tables) → AreTables ls ts → length ts ≡ length ls
are_length [] [] h = refl
are_length [] (t ∷ ts) h = absurd h
are_length (l ∷ ls) [] h = absurd h
are_length (l ∷ ls) (t ∷ ts) h = ap (λ n. suc n) (are_length ls ts h.1)

are_at : (k : ℕ) (ls : Lists) (ts : Tables) → AreTables ls ts → k < length ls → IsTableOf (list_at ls k) (table_at ts k)
are_at k [] ts h within = absurd (omega arith)
are_at k (l ∷ ls) [] h within = absurd h
are_at zero (l ∷ ls) (t ∷ ts) h within = h.0
are_at (suc k) (l ∷ ls) (t ∷ ts) h within = are_at k ls ts h.1 (omega arith)

are_set : (k : ℕ) (ls : Lists) (ts : Tables) (ms : List Message) (rows : List Row) → AreTables ls ts → IsTableOf ms rows → AreTables (set ls k ms) (set ts k rows)
are_set k [] [] ms rows h is = tt
are_set k [] (t ∷ ts) ms rows h is = absurd h
are_set k (l ∷ ls) [] ms rows h is = absurd h
are_set zero (l ∷ ls) (t ∷ ts) ms rows h is = (is, h.1)
are_set (suc k) (l ∷ ls) (t ∷ ts) ms rows h is = (h.0, are_set k ls ts ms rows h.1 is)

-- a list whose table stays
are_stay : (k : ℕ) (ls : Lists) (ts : Tables) (ms : List Message) → AreTables ls ts → ((rows : List Row) → IsTableOf (list_at ls k) rows → IsTableOf ms rows) → AreTables (set ls k ms) ts
are_stay k [] [] ms h is = tt
are_stay k [] (t ∷ ts) ms h is = absurd h
are_stay k (l ∷ ls) [] ms h is = absurd h
are_stay zero (l ∷ ls) (t ∷ ts) ms h is = (is t h.0, h.1)
are_stay (suc k) (l ∷ ls) (t ∷ ts) ms h is = (h.0, are_stay k ls ts ms h.1 is)

mark_at-map : (k : ℕ) (ls : Lists) → mark_at (map mark_of ls) k ≡ mark_of (list_at ls k)
mark_at-map k [] = refl
mark_at-map zero (l ∷ ls) = refl
mark_at-map (suc k) (l ∷ ls) = mark_at-map k ls

marks-set : (k : ℕ) (ls : Lists) (ms : List Message) → map mark_of (set ls k ms) ≡ set (map mark_of ls) k (mark_of ms)
marks-set k [] ms = refl
marks-set zero (l ∷ ls) ms = refl
marks-set (suc k) (l ∷ ls) ms = ap (λ ns. mark_of l ∷ ns) (marks-set k ls ms)

marks_stay : (k : ℕ) (ls : Lists) (ms : List Message) → mark_of ms ≡ mark_of (list_at ls k) → map mark_of (set ls k ms) ≡ map mark_of ls
marks_stay k [] ms h = refl
marks_stay zero (l ∷ ls) ms h = ap (λ n. n ∷ map mark_of ls) h
marks_stay (suc k) (l ∷ ls) ms h = ap (λ ns. mark_of l ∷ ns) (marks_stay k ls ms h)

-- the tables of lists are ones that the lists once had
pub whole_prefixes : (ls : Lists) (ts : Tables) → AreTables ls ts → AreTablesOfPrefixes ls ts
whole_prefixes [] [] h = tt
whole_prefixes [] (t ∷ ts) h = absurd h
whole_prefixes (l ∷ ls) [] h = absurd h
whole_prefixes (l ∷ ls) (t ∷ ts) h = (record { before = l; after = []; whole = sym (append-nil l); table = h.0 }, whole_prefixes ls ts h.1)

prefixes_grow : (k : ℕ) (ls : Lists) (ts : Tables) (ms : List Message) → AreTablesOfPrefixes ls ts → AreTablesOfPrefixes (set ls k (list_at ls k ++ ms)) ts
prefixes_grow k [] [] ms h = tt
prefixes_grow k [] (t ∷ ts) ms h = absurd h
prefixes_grow k (l ∷ ls) [] ms h = absurd h
prefixes_grow zero (l ∷ ls) (t ∷ ts) ms h =
    let p = h.0 in
    (record { before = p.before; after = p.after ++ ms; whole = ap (λ (xs : List Message). xs ++ ms) p.whole ∙ append_assoc p.before p.after ms; table = p.table }, h.1)
prefixes_grow (suc k) (l ∷ ls) (t ∷ ts) ms h = (h.0, prefixes_grow k ls ts ms h.1)

-- a row of the result at tables that lists once had stays one where a list goes on
pub real_grow : (meaning : Meaning) (lists : Lists) (k : ℕ) (ms : List Message) (r : Row) → IsReal meaning lists r → IsReal meaning (with_more lists k ms) r
real_grow meaning lists k ms r h = record { tables = h.tables; prefixes = prefixes_grow k lists h.tables ms h.prefixes; there = h.there }

none_taken : (old : List Row) (before : List Change) (c : Change) (r : Row) → MayFollow old before c → count_after old before r ≡ 0 → count_of r (takes c) ≡ 0
none_taken old before (Add a) r may none = refl
none_taken old before (Cut a e) r may none = elim (cases_lt 0 (count_of r (a ∷ []))) [
  | inl t ↦ (let same = ap (λ (x : Row). count_after old before x) (in_one r a t) in let there = may.1 in absurd (omega arith))
  | inr g ↦ omega arith
]

puts_none : (old new : List Row) (r : Row) → count_of r old ≡ 0 → count_of r new ≡ 0 → (before cs all : List Change) → all ≡ before ++ cs → AreLegal old before cs
    → ((b a : List Change) → all ≡ b ++ a → count_after old b r ≤ max (count_of r old) (count_of r new))
    → count_of r (all_takes before) ≡ 0 → count_of r (all_puts before) ≡ 0 → count_of r (all_puts cs) ≡ 0
puts_none old new r o n before [] all e legal most t p = refl
puts_none old new r o n before (c ∷ cs) all e legal most t p =
    let zero : count_after old before r ≡ 0 = omega arith in
    let taken = none_taken old before c r legal.0 zero in
    let e' : all ≡ (before ++ c ∷ []) ++ cs = e ∙ sym (append_assoc before (c ∷ []) cs) in
    let now = most (before ++ c ∷ []) cs e' in
    let put : count_of r (puts c) ≡ 0 = omega (arith, takes-append r before (c ∷ []), puts-append r before (c ∷ []), takes-one r c, puts-one r c) in
    let rest = puts_none old new r o n (before ++ c ∷ []) cs all e' legal.1 most (omega (arith, takes-append r before (c ∷ []), takes-one r c)) (omega (arith, puts-append r before (c ∷ []), puts-one r c)) in
    omega (arith, count_of-append r (puts c) (all_puts cs))

-- a row that the changes of a repair put is in the old table or in the new one
pub put_is_there : (old new : List Row) (m : ℕ) (cs : List Change) (r : Row) → Repair old new m cs → 0 < count_of r (all_puts cs) → (0 < count_of r old) ⊎ (0 < count_of r new)
put_is_there old new m cs r fix there = elim (cases_lt 0 (count_of r old)) [
  | inl o ↦ inl o
  | inr o ↦ elim (cases_lt 0 (count_of r new)) [
    | inl n ↦ inr n
    | inr n ↦ (let k = puts_none old new r (omega arith) (omega arith) [] cs cs refl fix.legal (λ b a e. fix.between.most b a e r) refl refl in absurd (omega arith))
  ]
]

repair_from : (old new : List Row) (t u : ℕ) (cs : List Change) → t ≤ u → Repair old new u cs → Repair old new t cs
repair_from old new t u cs h fix = record { legal = fix.legal; leads = fix.leads; from = from-weaker t u cs h fix.from; between = fix.between }

module _ (meaning : Meaning) (stands stands' : Tables → List ℕ → Type 0) (marks : List ℕ) (lists : Lists) (given : List Message) (port : ℕ) (w : DriverWorks meaning stands marks lists given) where
  pub can_take : (c : Change) → MayTake lists port (message.Change c) → CanTake w.tables marks port c
  can_take c may = record {
    port_is = let within = may.port_is in omega (arith, are_length lists w.tables w.are);
    legal = may_follow_table (list_at lists port) (table_at w.tables port) c (are_at port lists w.tables w.are may.port_is) may.comes.1.0;
    from = let at = ap (λ (ms : List ℕ). mark_at ms port) w.marks_are ∙ mark_at-map port lists in let late = may.comes.1.1 in omega arith;
  }

  -- the tables after a change
  abbrev pub tables_after : Change → Tables
  tables_after c = with_table w.tables port (applied c (table_at w.tables port))

  pub feed_change : (c : Change) (cs : List Change) → MayTake lists port (message.Change c) → stands' (tables_after c) marks → Repair (meaning.result w.tables) (meaning.result (tables_after c)) (meaning.bound w.tables marks) cs
      → meaning.bound w.tables marks ≤ meaning.bound (tables_after c) marks → DriverWorks meaning stands' marks (with_more lists port (message.Change c ∷ [])) (given ++ wrapped cs)
  feed_change c cs may op fix rises =
      let can = can_take c may in
      let list = list_at lists port in
      let rows = table_at w.tables port in
      let after = tables_after c in
      let lists' = with_more lists port (message.Change c ∷ []) in
      let fix' : Repair (meaning.result w.tables) (meaning.result (tables_after c)) (mark_of given) cs = repair_from _ _ (mark_of given) (meaning.bound w.tables marks) cs w.mark fix in
      let are' : AreTables (with_more lists port (message.Change c ∷ [])) (tables_after c) = are_set port lists w.tables (list ++ message.Change c ∷ []) (applied c rows) w.are
      (table_moved list c rows (applied c rows) (are_at port lists w.tables w.are may.port_is) (applied_moves c rows can.legal)) in
      let list_mark : mark_of (list_at lists port ++ message.Change c ∷ []) ≡ mark_of (list_at lists port) = mark-append list (message.Change c ∷ []) ∙ omega arith in
      let same : changes_of (given ++ wrapped cs) ≡ changes_of given ++ cs = changes-append given (wrapped cs) ∙ ap (λ (ds : List Change). changes_of given ++ ds) (changes-wrapped cs) in
      record {
        tables = after;
        are = are';
        op = op;
        marks_are = w.marks_are ∙ sym (marks_stay port lists (list ++ message.Change c ∷ []) list_mark);
        times = w.times;
        legal = legal_repaired given (meaning.result w.tables) (meaning.result after) cs w.legal w.opened w.table fix';
        opened = open-append given (wrapped cs) w.opened (open-wrapped cs);
        table = table_repaired given (meaning.result w.tables) (meaning.result after) (mark_of given) cs w.table fix';
        mark = let m = w.mark in omega (arith, mark-append given (wrapped cs), mark-wrapped cs);
        real = λ r there. elim (cases_lt 0 (count_of r (all_puts (changes_of given)))) [
          | inl was ↦ real_grow meaning lists port (message.Change c ∷ []) r (w.real r was)
          | inr gone ↦ elim (put_is_there (meaning.result w.tables) (meaning.result after) (meaning.bound w.tables marks) cs r fix (let e = ap (λ (ds : List Change). count_of r (all_puts ds)) same in omega (arith, puts-append r (changes_of given) cs))) [
            | inl o ↦ real_grow meaning lists port (message.Change c ∷ []) r (record { tables = w.tables; prefixes = whole_prefixes lists w.tables w.are; there = o })
            | inr n ↦ record { tables = after; prefixes = whole_prefixes lists' after are'; there = n }
          ]
        ];
      }

  -- a mark, and what closes
  pub feed_mark : (t : ℕ) → MayTake lists port (message.Mark t) → (AllRise marks (set marks port t) → stands' w.tables (set marks port t)) → (AllRise marks (set marks port t) → meaning.bound w.tables marks ≤ meaning.bound w.tables (set marks port t))
      → DriverWorks meaning stands' (set marks port t) (with_more lists port (message.Mark t ∷ [])) (given ++ [])
  feed_mark t may op rises =
      let list = list_at lists port in
      let at = ap (λ (ms : List ℕ). mark_at ms port) w.marks_are ∙ mark_at-map port lists in
      let above = may.comes.1.0 in
      let up : AllRise marks (set marks port t) = rise_set port marks t (omega arith) in
      let mark_now : mark_of (list_at lists port ++ message.Mark t ∷ []) ≡ t = omega (arith, mark-append list (message.Mark t ∷ [])) in
      subst (λ (g : List Message). DriverWorks meaning stands' (set marks port t) (with_more lists port (message.Mark t ∷ [])) g) (sym (append-nil given)) (record {
        tables = w.tables;
        are = are_stay port lists w.tables (list ++ message.Mark t ∷ []) w.are (λ rows h. table_stays list (message.Mark t) rows h refl);
        op = op up;
        marks_are = ap (λ (ms : List ℕ). set ms port t) w.marks_are ∙ (ap (λ (n : ℕ). set (map mark_of lists) port n) (sym mark_now) ∙ sym (marks-set port lists (list ++ message.Mark t ∷ [])));
        times = times_set port marks t w.times may.comes.1.1;
        legal = w.legal;
        opened = w.opened;
        table = w.table;
        mark = let m = w.mark in let u = rises up in omega arith;
        real = λ r there. real_grow meaning lists port (message.Mark t ∷ []) r (w.real r there);
      })

  feed_close : (m : Message) → changes_of (m ∷ []) ≡ [] → mark_of (m ∷ []) ≡ 0 → stands' w.tables marks → DriverWorks meaning stands' marks (with_more lists port (m ∷ [])) (given ++ [])
  feed_close m no_change no_mark op =
      let list = list_at lists port in
      let list_mark : mark_of (list_at lists port ++ m ∷ []) ≡ mark_of (list_at lists port) = omega (arith, mark-append list (m ∷ [])) in
      subst (λ (g : List Message). DriverWorks meaning stands' marks (with_more lists port (m ∷ [])) g) (sym (append-nil given)) (record {
        tables = w.tables;
        are = are_stay port lists w.tables (list ++ m ∷ []) w.are (λ rows h. table_stays list m rows h no_change);
        op = op;
        marks_are = w.marks_are ∙ sym (marks_stay port lists (list ++ m ∷ []) list_mark);
        times = w.times;
        legal = w.legal;
        opened = w.opened;
        table = w.table;
        mark = w.mark;
        real = λ r there. real_grow meaning lists port (m ∷ []) r (w.real r there);
      })

  -- nothing is given for what closes a port
  pub fed_close : (m : Message) (before : List Message) → changes_of (m ∷ []) ≡ [] → mark_of (m ∷ []) ≡ 0 → stands' w.tables marks → IsFed meaning stands' marks lists port (m ∷ []) given before before
  fed_close m before no_change no_mark op = record {
    gained = [];
    appended = sym (append-nil before);
    works = feed_close m no_change no_mark op;
    no_mark = refl;
    echo = λ e. sym (ap (λ (cs : List Change). wrapped cs) no_change);
  }

-- what stands before a list's end stands before that of each longer one
pub kept_along : {X : Type 0} (xs ys zs : List X) → take (length xs) ys ≡ xs → take (length ys) zs ≡ ys → take (length xs) zs ≡ xs
kept_along xs ys zs h k =
    let whole : ys ++ drop (length ys) zs ≡ zs = ap (λ ws. ws ++ drop (length ys) zs) (sym k) ∙ take-append-drop (length ys) zs in
    ap (take (length xs)) (sym whole) ∙ (take-append-le (length xs) ys (drop (length ys) zs) (omega (arith, length-take (length xs) ys, ap (λ ws. length ws) h)) ∙ h)

with_more-twice : (lists : Lists) (port : ℕ) (xs ys : List Message) → with_more (with_more lists port xs) port ys ≡ with_more lists port (xs ++ ys)
with_more-twice [] port xs ys = refl
with_more-twice (l ∷ ls) zero xs ys = ap (λ (ms : List Message). ms ∷ ls) (append_assoc l xs ys)
with_more-twice (l ∷ ls) (suc k) xs ys = ap (λ (ms : Lists). l ∷ ms) (with_more-twice ls k xs ys)

-- lists with no message more on a port stay as they are
pub with_more-none : (lists : Lists) (port : ℕ) → with_more lists port [] ≡ lists
with_more-none [] port = refl
with_more-none (l ∷ ls) zero = ap (λ (ms : List Message). ms ∷ ls) (append-nil l)
with_more-none (l ∷ ls) (suc k) = ap (λ (ms : Lists). l ∷ ms) (with_more-none ls k)

-- more messages on a port leave the number of lists as it is
pub length-more : (lists : Lists) (port : ℕ) (xs : List Message) → length (with_more lists port xs) ≡ length lists
length-more [] port xs = refl
length-more (l ∷ ls) zero xs = refl
length-more (l ∷ ls) (suc k) xs = ap (λ n. suc n) (length-more ls k xs)

-- the message at a place may come after those before it
pub legal_at : (before xs : List Message) (i : ℕ) (d : Message) → i < length xs → IsLegalBehind before xs → MayCome (before ++ take i xs) (get_or xs i d)
legal_at before [] i d h legal = absurd (omega arith)
legal_at before (x ∷ xs) zero d h legal = subst (λ (bs : List Message). MayCome bs x) (sym (append-nil before)) legal.0
legal_at before (x ∷ xs) (suc i) d h legal = subst (λ (bs : List Message). MayCome bs (get_or xs i d)) (append_assoc before (x ∷ []) (take i xs)) (legal_at (before ++ x ∷ []) xs i d (omega arith) legal.1)

-- what works was fed with no message on a port, and gave nothing for it
pub fed_none : (meaning : Meaning) (stands : Tables → List ℕ → Type 0) (marks : List ℕ) (lists : Lists) (port : ℕ) (given before : List Message) → DriverWorks meaning stands marks lists given
    → IsFed meaning stands marks lists port [] given before before
fed_none meaning stands marks lists port given before w = record {
  gained = [];
  appended = sym (append-nil before);
  works = subst (λ (ls : Lists). DriverWorks meaning stands marks ls (given ++ [])) (sym (with_more-none lists port)) (subst (λ (g : List Message). DriverWorks meaning stands marks lists g) (sym (append-nil given)) w);
  no_mark = refl;
  echo = λ e. refl;
}

-- what was fed with messages on a port, and then with others there, was fed with all of them
pub fed_more : (meaning meaning' : Meaning) (stands stands' : Tables → List ℕ → Type 0) (marks marks' : List ℕ) (lists : Lists) (port : ℕ) (xs ys given before mid after : List Message)
    → meaning' ≡ meaning
    → (f : IsFed meaning stands marks lists port xs given before mid) → IsFed meaning' stands' marks' (with_more lists port xs) port ys (given ++ f.gained) mid after
    → IsFed meaning stands' marks' lists port (xs ++ ys) given before after
fed_more meaning meaning' stands stands' marks marks' lists port xs ys given before mid after same f k = record {
  gained = f.gained ++ k.gained;
  appended = k.appended ∙ (ap (λ (ms : List Message). ms ++ k.gained) f.appended ∙ append_assoc before f.gained k.gained);
  works =
      subst (λ (g : List Message). DriverWorks meaning stands' marks' (with_more lists port (xs ++ ys)) g) (append_assoc given f.gained k.gained)
      (subst (λ (ls : Lists). DriverWorks meaning stands' marks' ls ((given ++ f.gained) ++ k.gained)) (with_more-twice lists port xs ys)
      (subst (λ (h : Meaning). DriverWorks h stands' marks' (with_more (with_more lists port xs) port ys) ((given ++ f.gained) ++ k.gained)) same k.works));
  no_mark = let a = f.no_mark in let b = k.no_mark in omega (arith, mark-append f.gained k.gained);
  echo = λ e.
      ap (λ (ms : List Message). ms ++ k.gained) (f.echo e)
      ∙ (ap (λ (ms : List Message). wrapped (changes_of xs) ++ ms) (k.echo (ap (λ (h : Meaning). h.echoes) same ∙ e)) ∙ (sym (wrapped-append (changes_of xs) (changes_of ys)) ∙ ap (λ (cs : List Change). wrapped cs) (sym (changes-append xs ys))));
}

-- what works by a meaning works by each that is the same
pub works_as : (meaning meaning' : Meaning) (stands : Tables → List ℕ → Type 0) (marks : List ℕ) (lists : Lists) (given : List Message) → meaning' ≡ meaning → DriverWorks meaning stands marks lists given → DriverWorks meaning' stands marks lists given
works_as meaning meaning' stands marks lists given same w = subst (λ (h : Meaning). DriverWorks h stands marks lists given) (sym same) w

may_take_at : (lists : Lists) (port : ℕ) (taken : List Message) (i : ℕ) (m : Message) → port < length lists → IsLegalBehind (list_at lists port) taken → i < length taken → get_or taken i m ≡ m → MayTake (with_more lists port (take i taken)) port m
may_take_at lists port taken i m port_is legal within at = record {
  port_is = omega (arith, length-more lists port (take i taken));
  comes = subst (λ (x : Message). MayCome (list_at (with_more lists port (take i taken)) port) x) at (subst (λ (bs : List Message). MayCome bs (get_or taken i m)) (sym (at_more lists port (take i taken) port_is)) (legal_at (list_at lists port) taken i m within legal));
}

-- the next message of a list that is legal may be taken after those before it
pub may_take_next : (lists : Lists) (port : ℕ) (taken yielded : List Message) (m : Message) → port < length lists → IsLegalBehind (list_at lists port) taken → yielded ≡ take (length yielded) taken → (length yielded < length taken) × (m ≡ get_or taken (length yielded) m) → MayTake (with_more lists port yielded) port m
may_take_next lists port taken yielded m port_is legal so_far next =
    subst (λ (xs : List Message). MayTake (with_more lists port xs) port m) (sym so_far) (may_take_at lists port taken (length yielded) m port_is legal next.0 (sym next.1))

-- tables are the same bags as themselves
pub same_tables_itself : (ts : Tables) → SameTables ts ts
same_tables_itself [] = tt
same_tables_itself (t ∷ ts) = (same_itself t, same_tables_itself ts)

-- tables that are the same bags as others are so the other way round
pub same_tables_back : (ts us : Tables) → SameTables ts us → SameTables us ts
same_tables_back [] [] h = tt
same_tables_back [] (u ∷ us) h = absurd h
same_tables_back (t ∷ ts) [] h = absurd h
same_tables_back (t ∷ ts) (u ∷ us) h = (same_back t u h.0, same_tables_back ts us h.1)

record IsMarked (given : List Message) (rows : List Row) (t : ℕ) : Type 0 where
  legal : IsLegal given
  opened : IsOpen given
  table : IsTableOf given rows
  mark : mark_of given ≡ t

-- a mark after messages, where it is above theirs
marked_at : (given : List Message) (rows : List Row) (old t : ℕ) (b : Bool) → nat_lt old t ≡ b → old ≤ t → t ≤ FOREVER → IsLegal given → IsOpen given → IsTableOf given rows → mark_of given ≡ old → IsMarked (given ++ cond b (message.Mark t ∷ []) []) rows t
marked_at given rows old t true h up time legal opened table mark =
    let above = ltb-true old t h in
    record {
      legal = legal-push given (message.Mark t) legal (opened, (omega arith, time));
      opened = open-append given (message.Mark t ∷ []) opened tt;
      table = table_stays given (message.Mark t) rows table refl;
      mark = omega (arith, mark-append given (message.Mark t ∷ []));
    }
marked_at given rows old t false h up time legal opened table mark =
    let same : old ≡ t = let f = ltb-false old t h in omega arith in
    subst (λ (ms : List Message). IsMarked ms rows t) (sym (append-nil given)) (record { legal = legal; opened = opened; table = table; mark = mark ∙ same })

module _ (meaning : Meaning) (stands stands' : Tables → List ℕ → Type 0) (held : Tables) (marks : List ℕ) (lists : Lists) (port : ℕ) (taken given before mid : List Message)
    (f : IsFed meaning stands marks lists port taken given before mid) (sent sent' b : ℕ) where
  -- the mark after what was given
  pub answer_fed : (after : List Message) → sent ≡ mark_of given → sent' ≡ max sent b
      → ((others : Tables) → SameTables f.works.tables others → b ≡ meaning.bound others marks) → ((others : Tables) → SameTables f.works.tables others → SameRows (meaning.result others) (meaning.result f.works.tables))
      → (meaning.echoes ≡ true → marks ≡ meaning.bound f.works.tables marks ∷ []) → b ≤ FOREVER → stands' f.works.tables marks → ((others : Tables) → SameTables f.works.tables others → OnlyHolds meaning others marks held)
      → after ≡ mid ++ mark_above sent b
      → Answers meaning stands' held marks sent sent' lists port taken given before after
  answer_fed after sent_is now told alike echo_mark time op holds out_is =
      let w = f.works in
      let told0 = told w.tables (same_tables_itself w.tables) in
      let low = w.mark in
      let none = f.no_mark in
      let same : mark_of (given ++ f.gained) ≡ sent = omega (arith, mark-append given f.gained) in
      let sent_now : sent' ≡ b = omega arith in
      let k = marked_at (given ++ f.gained) (meaning.result w.tables) sent b (nat_lt sent b) refl (omega arith) time w.legal w.opened w.table same in
      let seam : (given ++ f.gained) ++ mark_above sent b ≡ given ++ (f.gained ++ mark_above sent b) = append_assoc given f.gained (mark_above sent b) in
      let k' : IsMarked (given ++ (f.gained ++ mark_above sent b)) (meaning.result f.works.tables) b = subst (λ (g : List Message). IsMarked g (meaning.result w.tables) b) seam k in
      let no_change : changes_of (given ++ (f.gained ++ mark_above sent b)) ≡ changes_of (given ++ f.gained) =
      ap (λ (g : List Message). changes_of g) (sym seam)
      ∙ (changes-append (given ++ f.gained) (mark_above sent b)
      ∙ (ap (λ (cs : List Change). changes_of (given ++ f.gained) ++ cs) (changes_marks sent b (nat_lt sent b)) ∙ append-nil (changes_of (given ++ f.gained)))) in
      let works' : DriverWorks meaning stands' marks (with_more lists port taken) (given ++ (f.gained ++ mark_above sent b)) = record {
        tables = w.tables;
        are = w.are;
        op = op;
        marks_are = w.marks_are;
        times = w.times;
        legal = k'.legal;
        opened = k'.opened;
        table = k'.table;
        mark = let m = k'.mark in omega arith;
        real = λ r there. w.real r (subst (λ (cs : List Change). 0 < count_of r (all_puts cs)) no_change there);
      } in
      record {
        gained = f.gained ++ mark_above sent b;
        appended = out_is ∙ (ap (λ (ms : List Message). ms ++ mark_above sent b) f.appended ∙ append_assoc before f.gained (mark_above sent b));
        drives = record { works = works'; sent_is = sent_now ∙ sym k'.mark };
        bound_is = λ others alike_others. k'.mark ∙ told others alike_others;
        table_is = λ others alike_others. table_alike (given ++ (f.gained ++ mark_above sent b)) (meaning.result w.tables) (meaning.result others) (alike others alike_others) k'.table;
        holds = holds;
        echo = λ e. ap (λ (ms : List Message). ms ++ mark_above sent b) (f.echo e) ∙ ap (λ (n : ℕ). wrapped (changes_of taken) ++ mark_above sent n) (sym sent_now);
        echo_mark = λ e. echo_mark e ∙ ap (λ (n : ℕ). n ∷ []) (sym told0 ∙ sym sent_now);
      }

-- nothing was taken

none_are : (n : ℕ) → AreTables (replicate n []) (replicate n [])
none_are zero = tt
none_are (suc n) = (record { sums = same_itself [] }, none_are n)

none_marked : (n : ℕ) → replicate n 0 ≡ map mark_of (replicate n [])
none_marked zero = refl
none_marked (suc n) = ap (λ ms. 0 ∷ ms) (none_marked n)

none_are_times : (n : ℕ) → AreTimes (replicate n 0)
none_are_times zero = tt
none_are_times (suc n) = (omega arith, none_are_times n)

-- a driven operator to which nothing came stands for empty lists, and gave nothing
pub first_drive : (meaning : Meaning) (stands : Tables → List ℕ → Type 0) (marks : List ℕ) → marks ≡ replicate meaning.ports 0 → stands (replicate meaning.ports []) (replicate meaning.ports 0) → SameRows (meaning.result (replicate meaning.ports [])) []
    → Drives meaning stands marks 0 (replicate meaning.ports []) []
first_drive meaning stands marks is op nothing = record {
  works = record {
    tables = replicate meaning.ports [];
    are = none_are meaning.ports;
    op = subst (λ (ms : List ℕ). stands (replicate meaning.ports []) ms) (sym is) op;
    marks_are = is ∙ none_marked meaning.ports;
    times = subst (λ (ms : List ℕ). AreTimes ms) (sym is) (none_are_times meaning.ports);
    legal = tt;
    opened = tt;
    table = record { sums = record { each = λ r. omega (arith, nothing.each r, count_of-append r (meaning.result (replicate meaning.ports [])) []) } };
    mark = omega arith;
    real = λ r there. absurd (omega arith);
  };
  sent_is = refl;
}
