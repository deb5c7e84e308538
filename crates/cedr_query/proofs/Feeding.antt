-- An operator to which tables come row by row.
use Rattle.std.proofs.Common.{◌≡◌, ℕ, zero, suc, ◌+◌, ◌<◌, ◌≤◌, inl, inr, List, [], ◌∷◌, ◌++◌, length, get_or, set, take, refl, ap, subst, sym, ◌∙◌, arith, append_assoc}
use Rattle.std.specs.Prelude.{replicate, map}
use Rattle.std.proofs.lemmas.Bool.{cases_lt}
use Rattle.std.proofs.lemmas.List.{append-nil, take_more, take_all, set-get_or, set-set, get_or-set_same, get_or-set_other, get_or-map, length-map}
use Rattle.cedr_base.specs.declared.row.Row.{Row}
use Rattle.cedr_base.specs.declared.change.Change.{Change}
use Rattle.cedr_base.specs.declared.change.Change.TheVariants.{Add}
use Rattle.cedr_base.specs.declared.time.TheConstants.{FOREVER}
use Rattle.cedr_base.specs.Rows.{count_of, SameRows, IsRow, in_order, AreRows}
use Rattle.cedr_base.proofs.Bags.{count_of-append, count_of-cons}
use Rattle.cedr_base.proofs.Sorting.{in_order_counts}
use Rattle.change_laws.specs.Repairs.{IsMoved, AreLegal, Leads}
use Rattle.change_laws.proofs.BagSums.{count_of-itself, same_itself, same_back, same_along}
use Rattle.cedr_table.specs.Operators.{Tables, Meaning, table_at, mark_at, with_table, CanTake, Gains, AllRise, SameTables}
use Rattle.cedr_table.specs.OperatorLaws.{OperatorLaws}
use Rattle.cedr_query.specs.Asked.{MadeOfTables, IsAnswer}
use Rattle.cedr_table.proofs.Changing.{legal_alike, leads_alike, rows_led}

none_promised : (n k : ℕ) → mark_at (replicate n 0) k ≡ 0
none_promised zero k = refl
none_promised (suc n) zero = refl
none_promised (suc n) (suc k) = none_promised n k

nothing_there : (n k : ℕ) → table_at (replicate n []) k ≡ []
nothing_there zero k = refl
nothing_there (suc n) zero = refl
nothing_there (suc n) (suc k) = nothing_there n k

-- a table with a row more is the old one with the delta of an addition of that row
pub added_moves : (row : Row) (rows : List Row) → IsMoved (Add row) rows (rows ++ row ∷ [])
added_moves row rows = record { sums = record { each = λ r. omega (arith, count_of-append r (rows ++ row ∷ []) []) } }

-- a row may come on each port of a state to which nothing was promised
pub can_add : (meaning : Meaning) (stands : Tables → List ℕ → Type 0) (tables : Tables) (made : List Row) (port : ℕ) (row : Row) → OperatorLaws meaning stands → MadeOfTables meaning stands tables made → port < meaning.ports → IsRow row
    → CanTake tables (replicate meaning.ports 0) port (Add row)
can_add meaning stands tables made port row laws works within is = record {
  port_is = (let sized = laws.sized tables (replicate meaning.ports 0) works.stands_for in omega (arith, sized.0));
  legal = is;
  from = omega (arith, none_promised meaning.ports port);
}

-- what a state appends is legal from what was made of its answers
pub legal_answers : (old made new : List Row) (t : ℕ) (answers : List Change) → SameRows made old → Gains old new t [] answers → AreLegal made [] answers
legal_answers old made new t answers same gains = subst (λ (cs : List Change). AreLegal made [] cs) (sym gains.appended) (legal_alike old made [] gains.changes (same_back made old same) gains.repair.legal)

gained_leads : (old new : List Row) (t : ℕ) (answers : List Change) → Gains old new t [] answers → Leads old answers new
gained_leads old new t answers gains = subst (λ (cs : List Change). Leads old cs new) (sym gains.appended) gains.repair.leads

-- a state works on, with a row more on a port
pub works_on : (meaning next : Meaning) (stands nexts : Tables → List ℕ → Type 0) (tables after : Tables) (made new : List Row) (t : ℕ) (answers : List Change) → next ≡ meaning
    → MadeOfTables meaning stands tables made
    → nexts after (replicate meaning.ports 0)
    → Gains (meaning.result tables) (meaning.result after) t [] answers
    → Leads made answers new
    → MadeOfTables next nexts after new
works_on meaning next stands nexts tables after made new t answers same works stands_next gains leads =
    subst (λ (m : Meaning). MadeOfTables m nexts after new) (sym same) (record {
      stands_for = stands_next;
      result = leads_alike made new (meaning.result tables) (meaning.result after) answers works.result leads (gained_leads (meaning.result tables) (meaning.result after) t answers gains);
      rows = rows_led made new answers works.rows (legal_answers (meaning.result tables) made (meaning.result after) t answers works.result gains) leads;
    })

-- what an operator appends for a change
abbrev pub Repairs : Meaning → (Tables → List ℕ → Type 0) → ℕ → Change → List Change → List Change → Type 0
Repairs meaning stands port change before after = (tables : Tables) (marks : List ℕ) (rows : List Row) → stands tables marks → CanTake tables marks port change → IsMoved change (table_at tables port) rows
    → Gains (meaning.result tables) (meaning.result (with_table tables port rows)) (meaning.bound tables marks) before after

module _ (meaning : Meaning) (stands : Tables → List ℕ → Type 0) (laws : OperatorLaws meaning stands) (tables : Tables) (made : List Row) (works : MadeOfTables meaning stands tables made) (port : ℕ) (within : port < meaning.ports) (row copied : Row) (is_row : IsRow row) (is_copy : copied ≡ row) where
  can_copy : CanTake tables (replicate meaning.ports 0) port (Add copied)
  can_copy = subst (λ (x : Row). CanTake tables (replicate meaning.ports 0) port (Add x)) (sym is_copy) (can_add meaning stands tables made port row laws works within is_row)

  copy_moves : IsMoved (Add copied) (table_at tables port) (table_at tables port ++ row ∷ [])
  copy_moves = subst (λ (x : Row). IsMoved (Add x) (table_at tables port) (table_at tables port ++ row ∷ [])) (sym is_copy) (added_moves row (table_at tables port))

  -- an operator may take a copy of a row
  pub takes_copy : (ts : Tables) × ((marks : List ℕ) × (stands ts marks × CanTake ts marks port (Add copied)))
  takes_copy = (tables, (replicate meaning.ports 0, (works.stands_for, can_copy)))

  gains_row : (before after : List Change) → before ≡ [] → Repairs meaning stands port (Add copied) before after
      → Gains (meaning.result tables) (meaning.result (with_table tables port (table_at tables port ++ row ∷ []))) (meaning.bound tables (replicate meaning.ports 0)) [] after
  gains_row before after empty repairs =
      subst (λ (b : List Change). Gains (meaning.result tables) (meaning.result (with_table tables port (table_at tables port ++ row ∷ []))) (meaning.bound tables (replicate meaning.ports 0)) b after) empty
      (repairs tables (replicate meaning.ports 0) (table_at tables port ++ row ∷ []) works.stands_for can_copy copy_moves)

  -- the answers to a row are legal from what has been made
  pub add_legal : (before after answers : List Change) → before ≡ [] → answers ≡ after → Repairs meaning stands port (Add copied) before after → AreLegal made [] answers
  add_legal before after answers empty is repairs =
      subst (λ (cs : List Change). AreLegal made [] cs) (sym is)
      (legal_answers (meaning.result tables) made (meaning.result (with_table tables port (table_at tables port ++ row ∷ []))) (meaning.bound tables (replicate meaning.ports 0)) after works.result (gains_row before after empty repairs))

  -- and the state then works with the row
  pub add_works : (next : Meaning) (nexts : Tables → List ℕ → Type 0) (new : List Row) (before after answers : List Change) → before ≡ [] → answers ≡ after → Repairs meaning stands port (Add copied) before after
      → ((ts : Tables) (marks : List ℕ) (rows : List Row) → stands ts marks → CanTake ts marks port (Add copied) → IsMoved (Add copied) (table_at ts port) rows → nexts (with_table ts port rows) marks)
      → next ≡ meaning → Leads made answers new
      → MadeOfTables next nexts (with_table tables port (table_at tables port ++ row ∷ [])) new
  add_works next nexts new before after answers empty is repairs stands_on same leads =
      works_on meaning next stands nexts tables (with_table tables port (table_at tables port ++ row ∷ [])) made new (meaning.bound tables (replicate meaning.ports 0)) after same works
      (stands_on tables (replicate meaning.ports 0) (table_at tables port ++ row ∷ []) works.stands_for can_copy copy_moves)
      (gains_row before after empty repairs)
      (subst (λ (cs : List Change). Leads made cs new) is leads)

-- the tables with the first so many rows of a table more on a port
abbrev pub with_first : Tables → ℕ → ℕ → List Row → Tables
with_first tables port i rows = with_table tables port (table_at tables port ++ take i rows)

-- with none of the rows more the tables are as they were
pub with_none : (tables : Tables) (port : ℕ) (rows : List Row) → with_first tables port 0 rows ≡ tables
with_none tables port rows = ap (λ (t : List Row). set tables port t) (append-nil (table_at tables port)) ∙ set-get_or tables port []

-- one row more
pub with_next : (tables : Tables) (port i : ℕ) (rows : List Row) (x : Row) → port < length tables → i < length rows → x ≡ get_or rows i x
    → with_table (with_first tables port i rows) port (table_at (with_first tables port i rows) port ++ x ∷ []) ≡ with_first tables port (i + 1) rows
with_next tables port i rows x port_is within is =
    let next : take i rows ++ x ∷ [] ≡ take (i + 1) rows = ap (λ (y : Row). take i rows ++ y ∷ []) is ∙ sym (take_more rows i x within) in
    set-set tables port (table_at tables port ++ take i rows) (table_at (with_first tables port i rows) port ++ x ∷ [])
    ∙ ap (λ (t : List Row). set tables port t) (
    ap (λ (t : List Row). t ++ x ∷ []) (get_or-set_same tables port (table_at tables port ++ take i rows) [] port_is)
    ∙ (append_assoc (table_at tables port) (take i rows) (x ∷ []) ∙ ap (λ (t : List Row). table_at tables port ++ t) next)
    )

-- once all rows of a table came, the port has its old rows and then all of these
pub with_last : (tables : Tables) (port i : ℕ) (rows : List Row) → length rows ≤ i → with_first tables port i rows ≡ with_table tables port (table_at tables port ++ rows)
with_last tables port i rows past = ap (λ (t : List Row). set tables port (table_at tables port ++ t)) (take_all i rows past)

-- rows in canonical order are rows
pub order_has_rows : (rows : List Row) → AreRows rows → AreRows (in_order rows)
order_has_rows rows has = record { each = λ r there. has.each r (omega (arith, (in_order_counts rows).each r)) }

-- an item of a list is there
pub at_has_row : (rows : List Row) (i : ℕ) (d : Row) → i < length rows → AreRows rows → IsRow (get_or rows i d)
at_has_row rows i d within has = has.each (get_or rows i d) (there rows i d within)
  where
    there : (xs : List Row) (k : ℕ) (e : Row) → k < length xs → 0 < count_of (get_or xs k e) xs
    there [] k e h = absurd (omega arith)
    there (x ∷ xs) zero e h = count_of-itself x xs
    there (x ∷ xs) (suc k) e h = omega (arith, there xs k e (omega arith), count_of-cons (get_or xs k e) x xs)

-- the tables that are read have come on the first ports, and nothing on the others
pub record FedTo (tables : Tables) (inputs : List ℕ) (port : ℕ) (fed : Tables) : Type 0 where
  pub before : (k : ℕ) → k < port → SameRows (table_at tables (get_or inputs k 0)) (table_at fed k)
  pub behind : (k : ℕ) → port ≤ k → table_at fed k ≡ []

-- at first nothing has come on any port
pub fed_none : (tables : Tables) (inputs : List ℕ) (n : ℕ) → FedTo tables inputs 0 (replicate n [])
fed_none tables inputs n = record { before = λ k h. absurd (omega arith); behind = λ k h. nothing_there n k }

-- one port more
pub fed_next : (tables : Tables) (inputs : List ℕ) (port : ℕ) (fed : Tables) → port < length fed → FedTo tables inputs port fed
    → FedTo tables inputs (port + 1) (with_table fed port (table_at fed port ++ in_order (table_at tables (get_or inputs port 0))))
fed_next tables inputs port fed within was = record {
  before = λ k below. elim (cases_lt k port) [
    | inl earlier ↦ subst (λ (t : List Row). SameRows (table_at tables (get_or inputs k 0)) t) (sym (get_or-set_other fed port k _ [] (omega arith))) (was.before k earlier)
    | inr not_earlier ↦
        let here : k ≡ port = omega arith in
        let is : table_at (with_table fed port (table_at fed port ++ in_order (table_at tables (get_or inputs port 0)))) port ≡ in_order (table_at tables (get_or inputs port 0)) =
        get_or-set_same fed port _ [] within ∙ ap (λ (t : List Row). t ++ in_order (table_at tables (get_or inputs port 0))) (was.behind port (omega arith)) in
        rw here (subst (λ (t : List Row). SameRows (table_at tables (get_or inputs port 0)) t) (sym is) (in_order_counts (table_at tables (get_or inputs port 0))))
  ];
  behind = λ k above. get_or-set_other fed port k _ [] (omega arith) ∙ was.behind k (omega arith);
}

-- tables are the same bags where they are so at each place
same_at_each : (ts us : Tables) → length ts ≡ length us → ((k : ℕ) → k < length ts → SameRows (table_at ts k) (table_at us k)) → SameTables ts us
same_at_each [] [] long same = tt
same_at_each [] (u ∷ us) long same = absurd (omega arith)
same_at_each (t ∷ ts) [] long same = absurd (omega arith)
same_at_each (t ∷ ts) (u ∷ us) long same = (same 0 (omega arith), same_at_each ts us (omega arith) (λ k h. same (suc k) (omega arith)))

-- where tables are the same bags as others, the others are the same bags as these
pub same_tables_back : (ts us : Tables) → SameTables ts us → SameTables us ts
same_tables_back [] [] same = tt
same_tables_back [] (u ∷ us) same = absurd same
same_tables_back (t ∷ ts) [] same = absurd same
same_tables_back (t ∷ ts) (u ∷ us) same = (same_back t u same.0, same_tables_back ts us same.1)

-- where tables are the same bags as others, and those as third ones, the first are the same bags as the third
pub same_tables_along : (ts us vs : Tables) → SameTables ts us → SameTables us vs → SameTables ts vs
same_tables_along [] [] vs one other = other
same_tables_along [] (u ∷ us) vs one other = absurd one
same_tables_along (t ∷ ts) [] vs one other = absurd one
same_tables_along (t ∷ ts) (u ∷ us) [] one other = absurd other
same_tables_along (t ∷ ts) (u ∷ us) (v ∷ vs) one other = (same_along t u v one.0 other.0, same_tables_along ts us vs one.1 other.1)

-- once all ports are fed they have the tables that are read
fed_all : (tables : Tables) (inputs : List ℕ) (port : ℕ) (fed : Tables) → length fed ≡ length inputs → length inputs ≤ port → FedTo tables inputs port fed → SameTables fed (map (table_at tables) inputs)
fed_all tables inputs port fed long past was =
    same_at_each fed (map (table_at tables) inputs) (long ∙ sym (length-map inputs (table_at tables)))
    (λ k h. subst (λ (t : List Row). SameRows (table_at fed k) t) (sym (get_or-map (table_at tables) inputs k 0 [] (omega (arith, long)))) (same_back (table_at tables (get_or inputs k 0)) (table_at fed k) (was.before k (omega (arith, long)))))

-- a state that stands for tables works for the same bags
pub works_alike : (meaning : Meaning) (stands : Tables → List ℕ → Type 0) (ts us : Tables) (made : List Row) → OperatorLaws meaning stands → SameTables ts us → MadeOfTables meaning stands ts made → MadeOfTables meaning stands us made
works_alike meaning stands ts us made laws same works = record {
  stands_for = laws.alike ts us (replicate meaning.ports 0) same works.stands_for;
  result = same_along made (meaning.result ts) (meaning.result us) works.result (laws.same_rows ts us same);
  rows = works.rows;
}

-- a state that was fed all tables that are read works for tables that are the same bags as these
pub works_fed : (meaning : Meaning) (stands : Tables → List ℕ → Type 0) (tables : Tables) (inputs : List ℕ) (port : ℕ) (fed others : Tables) (made : List Row) → OperatorLaws meaning stands → length inputs ≡ meaning.ports
    → length inputs ≤ port → FedTo tables inputs port fed → MadeOfTables meaning stands fed made → SameTables (map (table_at tables) inputs) others → MadeOfTables meaning stands others made
works_fed meaning stands tables inputs port fed others made laws ports past was works same =
    let sized = laws.sized fed (replicate meaning.ports 0) works.stands_for in
    works_alike meaning stands fed others made laws (same_tables_along fed (map (table_at tables) inputs) others (fed_all tables inputs port fed (sized.0 ∙ sym ports) past was) same) works

-- a new state works
pub works_new : (meaning : Meaning) (stands : Tables → List ℕ → Type 0) → OperatorLaws meaning stands → stands (replicate meaning.ports []) (replicate meaning.ports 0) → MadeOfTables meaning stands (replicate meaning.ports []) []
works_new meaning stands laws new = record {
  stands_for = new;
  result = same_back (meaning.result (replicate meaning.ports [])) [] laws.nothing;
  rows = record { each = λ r there. absurd (omega arith) };
}

rise_from_none : (n : ℕ) (ms : List ℕ) → length ms ≡ n → AllRise (replicate n 0) ms
rise_from_none zero [] long = tt
rise_from_none zero (m ∷ ms) long = absurd (omega arith)
rise_from_none (suc n) [] long = absurd (omega arith)
rise_from_none (suc n) (m ∷ ms) long = (omega arith, rise_from_none n ms (omega arith))

-- what works for tables stands for them and all marks
pub stands_at : (meaning : Meaning) (stands : Tables → List ℕ → Type 0) (tables : Tables) (marks : List ℕ) (made : List Row) → OperatorLaws meaning stands → MadeOfTables meaning stands tables made → length marks ≡ meaning.ports → stands tables marks
stands_at meaning stands tables marks made laws works long = laws.rising tables (replicate meaning.ports 0) marks works.stands_for (rise_from_none meaning.ports marks long)

-- tables are the same bags as themselves
pub same_tables_itself : (ts : Tables) → SameTables ts ts
same_tables_itself [] = tt
same_tables_itself (t ∷ ts) = (same_itself t, same_tables_itself ts)

at_any : (ts : Tables) (k : ℕ) (d e : List Row) → k < length ts → get_or ts k d ≡ get_or ts k e
at_any [] k d e h = absurd (omega arith)
at_any (t ∷ ts) zero d e h = refl
at_any (t ∷ ts) (suc k) d e h = at_any ts k d e (omega arith)

-- a table that is read
pub read_is : (tables : Tables) (place : ℕ) (t : List Row) → place < length tables → t ≡ get_or tables place t → t ≡ table_at tables place
read_is tables place t within is = is ∙ at_any tables place t [] within

-- what works for tables, and its bound, are what the operator means
pub works_answer : (meaning next : Meaning) (stands : Tables → List ℕ → Type 0) (tables : Tables) (marks : List ℕ) (made : List Row) (mark : ℕ) → next ≡ meaning → MadeOfTables next stands tables made → mark ≡ next.bound tables marks → mark ≤ FOREVER
    → IsAnswer meaning tables marks made mark
works_answer meaning next stands tables marks made mark same works is time = record {
  result = subst (λ (m : Meaning). SameRows made (m.result tables)) same works.result;
  bound = is ∙ ap (λ (m : Meaning). m.bound tables marks) same;
  time = time;
  are_rows = works.rows;
}
