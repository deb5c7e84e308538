-- Lines are judged, and become messages, by the state of the lines before them alone.
use Rattle.std.proofs.Common.{◌≡◌, ℕ, List, [], ◌∷◌, ◌++◌, Bool, true, false, cond, eqb, ◌&&◌, min, max, Option, None, Some, refl, ap, sym, ◌∙◌, subst, arith, append_assoc, append-nil}
use Rattle.std.specs.Prelude.{option_map, is_some, nat_lt, nat_le}
use Rattle.std.proofs.lemmas.Bool.{eqb-true, ltb-true, leb-true, lt-ltb, and_parts}
use Rattle.cedr_base.specs.declared.row.Row.{Row}
use Rattle.cedr_base.specs.declared.change.Change.TheVariants.{Cut}
use Rattle.cedr_base.specs.declared.change.Message.{Message}
use Rattle.cedr_base.specs.declared.change.Message.TheVariants as message
use Rattle.cedr_text.specs.declared.event_line.EventLine.{EventLine}
use Rattle.cedr_text.specs.declared.event_line.EventLine.TheVariants.{Insert, Retract, Revise, Promise}
use Rattle.cedr_text.specs.declared.fault.LineFault.TheVariants.{KnownId, BadEnd}
use Rattle.cedr_guard.specs.Judging.{guarantee_of, event_with, row_lives, guarantee_fault, retraction_fault, revision_fault, fault_behind, IsAccepted, AreAcceptedBehind}
use Rattle.cedr_guard.specs.Messages.{cut_of, withdrawal_of, line_messages, messages_behind}
use Rattle.cedr_guard.specs.States.{as_it_is, SameState}
use Rattle.cedr_guard.proofs.EventLemmas.{guarantee_of-append, ended, event_and, event-push}

-- ---- an event as it is

is_some_as : (event : Option Row) → is_some (option_map as_it_is event) ≡ is_some event
is_some_as None = refl
is_some_as (Some row) = refl

begin_at : (row : Row) (b : Bool) → (cond b row (record row { payload = [] })).begin ≡ row.begin
begin_at row true = refl
begin_at row false = refl

end_at : (row : Row) (b : Bool) → (cond b row (record row { payload = [] })).end ≡ row.end
end_at row true = refl
end_at row false = refl

-- it lives where the event does
pub lives_as : (row : Row) → row_lives (as_it_is row) ≡ row_lives row
lives_as row = ap (λ (b : ℕ). nat_lt b (as_it_is row).end) (begin_at row (row_lives row)) ∙ ap (λ (e : ℕ). nat_lt row.begin e) (end_at row (row_lives row))

-- an event that lives has its fields
pub as_living : (row : Row) → row_lives row ≡ true → as_it_is row ≡ row
as_living row h = ap (λ (b : Bool). cond b row (record row { payload = [] })) h

-- and one that doesn't has none
pub as_gone : (row : Row) → row_lives row ≡ false → as_it_is row ≡ record row { payload = [] }
as_gone row h = ap (λ (b : Bool). cond b row (record row { payload = [] })) h

pub some_row : (a b : Row) → ◌≡◌ {A = Option Row} (Some a) (Some b) → a ≡ b
some_row a b h = cc

retraction_as : (event : Option Row) (end mark : ℕ) → retraction_fault (option_map as_it_is event) end mark ≡ retraction_fault event end mark
retraction_as None end mark = refl
retraction_as (Some row) end mark =
    ap (λ (b : ℕ). cond (nat_le b end && nat_lt end (as_it_is row).end) (guarantee_fault end mark) (Some (BadEnd b (as_it_is row).end))) (begin_at row (row_lives row))
    ∙ ap (λ (e : ℕ). cond (nat_le row.begin end && nat_lt end e) (guarantee_fault end mark) (Some (BadEnd row.begin e))) (end_at row (row_lives row))

revision_as : (event : Option Row) (begin mark : ℕ) → revision_fault (option_map as_it_is event) begin mark ≡ revision_fault event begin mark
revision_as None begin mark = refl
revision_as (Some row) begin mark =
    ap (λ (b : Bool). guarantee_fault (cond b (min (as_it_is row).begin begin) begin) mark) (lives_as row)
    ∙ ap (λ (n : ℕ). guarantee_fault (cond (row_lives row) (min n begin) begin) mark) (begin_at row (row_lives row))

-- ---- the fault of a line

-- a line has the same fault behind lines of the same state
pub same_fault : (xs ys : List EventLine) → SameState xs ys → (line : EventLine) → fault_behind xs line ≡ fault_behind ys line
same_fault xs ys same (Insert id row) =
    ap (λ (b : Bool). cond b (Some KnownId) (guarantee_fault row.begin (guarantee_of xs))) (sym (is_some_as (event_with id xs)) ∙ (ap (λ (e : Option Row). is_some e) (same.events id) ∙ is_some_as (event_with id ys)))
    ∙ ap (λ (m : ℕ). cond (is_some (event_with id ys)) (Some KnownId) (guarantee_fault row.begin m)) same.mark
same_fault xs ys same (Retract id end) =
    sym (retraction_as (event_with id xs) end (guarantee_of xs))
    ∙ (ap (λ (e : Option Row). retraction_fault e end (guarantee_of xs)) (same.events id)
    ∙ (retraction_as (event_with id ys) end (guarantee_of xs) ∙ ap (λ (m : ℕ). retraction_fault (event_with id ys) end m) same.mark))
same_fault xs ys same (Revise id row) =
    sym (revision_as (event_with id xs) row.begin (guarantee_of xs))
    ∙ (ap (λ (e : Option Row). revision_fault e row.begin (guarantee_of xs)) (same.events id)
    ∙ (revision_as (event_with id ys) row.begin (guarantee_of xs) ∙ ap (λ (m : ℕ). revision_fault (event_with id ys) row.begin m) same.mark))
same_fault xs ys same (Promise time) = refl

-- ---- an accepted retraction is of an event that lives

record Lives (event : Option Row) : Type 0 where
  row : Row
  is : event ≡ Some row
  living : row_lives row ≡ true

living_at : (b : Bool) (row : Row) (end mark : ℕ) → (nat_le row.begin end && nat_lt end row.end) ≡ b → cond b (guarantee_fault end mark) (Some (BadEnd row.begin row.end)) ≡ None → row_lives row ≡ true
living_at true row end mark test h =
    let p = and_parts (nat_le row.begin end) (nat_lt end row.end) test in
    let low = leb-true row.begin end p.0 in
    let high = ltb-true end row.end p.1 in
    lt-ltb row.begin row.end (omega arith)
living_at false row end mark test h = absurd (let e = h in cc)

retracts_living : (event : Option Row) (end mark : ℕ) → retraction_fault event end mark ≡ None → Lives event
retracts_living None end mark h = absurd (let e = h in cc)
retracts_living (Some row) end mark h = record { row = row; is = refl; living = living_at (nat_le row.begin end && nat_lt end row.end) row end mark refl h }

-- an event that lives is the same one
living_same : (event other : Option Row) (row : Row) → event ≡ Some row → row_lives row ≡ true → option_map as_it_is event ≡ option_map as_it_is other → other ≡ Some row
living_same event None row is living same = absurd (let e = sym (ap (λ (o : Option Row). option_map as_it_is o) is) ∙ same in cc)
living_same event (Some r) row is living same =
    let e : as_it_is row ≡ as_it_is r = some_row (as_it_is row) (as_it_is r) (sym (ap (λ (o : Option Row). option_map as_it_is o) is) ∙ same) in
    let here : row ≡ as_it_is r = sym (as_living row living) ∙ e in
    let alive : row_lives r ≡ true = sym (lives_as r) ∙ (ap (λ (x : Row). row_lives x) (sym here) ∙ living) in
    ap (λ (x : Row). Some x) (sym (here ∙ as_living r alive))

retracted_same : (xs ys : List EventLine) → SameState xs ys → (id end : ℕ) → IsAccepted xs (Retract id end) → event_with id xs ≡ event_with id ys
retracted_same xs ys same id end accepted =
    let l = retracts_living (event_with id xs) end (guarantee_of xs) accepted.faultless in
    l.is ∙ sym (living_same (event_with id xs) (event_with id ys) l.row l.is l.living (same.events id))

-- ---- the messages of a line

withdrawn_at : (lives : Bool) (row other : Row) → row_lives row ≡ lives → as_it_is row ≡ as_it_is other → withdrawal_of (Some row) ≡ withdrawal_of (Some other)
withdrawn_at true row other h same =
    let alive : row_lives other ≡ true = sym (lives_as other) ∙ (ap (λ (x : Row). row_lives x) (sym same) ∙ (lives_as row ∙ h)) in
    ap (λ (x : Row). withdrawal_of (Some x)) (sym (as_living row h) ∙ (same ∙ as_living other alive))
withdrawn_at false row other h same =
    let gone : row_lives other ≡ false = sym (lives_as other) ∙ (ap (λ (x : Row). row_lives x) (sym same) ∙ (lives_as row ∙ h)) in
    ap (λ (b : Bool). cond b (message.Change (Cut row row.begin) ∷ []) []) h ∙ sym (ap (λ (b : Bool). cond b (message.Change (Cut other other.begin) ∷ []) []) gone)

withdrawal_same : (event other : Option Row) → option_map as_it_is event ≡ option_map as_it_is other → withdrawal_of event ≡ withdrawal_of other
withdrawal_same None None same = refl
withdrawal_same None (Some row) same = absurd (let e = same in cc)
withdrawal_same (Some row) None same = absurd (let e = same in cc)
withdrawal_same (Some row) (Some other) same = withdrawn_at (row_lives row) row other refl (some_row (as_it_is row) (as_it_is other) same)

-- and becomes the same messages
same_messages : (xs ys : List EventLine) → SameState xs ys → (line : EventLine) → IsAccepted xs line → line_messages xs line ≡ line_messages ys line
same_messages xs ys same (Insert id row) accepted = refl
same_messages xs ys same (Retract id end) accepted = ap (λ (e : Option Row). cut_of e end) (retracted_same xs ys same id end accepted)
same_messages xs ys same (Revise id row) accepted = ap (λ (ms : List Message). ms ++ line_messages xs (Insert id row)) (withdrawal_same (event_with id xs) (event_with id ys) (same.events id))
same_messages xs ys same (Promise time) accepted = ap (λ (m : ℕ). cond (nat_lt m time) (message.Mark time ∷ []) []) same.mark

-- ---- the state with one line more

version_same : (b : Bool) (row : Row) (event other : Option Row) → option_map as_it_is event ≡ option_map as_it_is other → option_map as_it_is (cond b (Some row) event) ≡ option_map as_it_is (cond b (Some row) other)
version_same true row event other same = refl
version_same false row event other same = same

retract_same : (xs ys : List EventLine) (id other end : ℕ) → SameState xs ys → event_with other xs ≡ event_with other ys → (t : Bool) → eqb other id ≡ t
    → option_map as_it_is (cond t (option_map (ended end) (event_with id xs)) (event_with id xs)) ≡ option_map as_it_is (cond t (option_map (ended end) (event_with id ys)) (event_with id ys))
retract_same xs ys id other end same event true h = ap (λ (e : Option Row). option_map as_it_is (option_map (ended end) e)) (subst (λ (k : ℕ). event_with k xs ≡ event_with k ys) (eqb-true other id h) event)
retract_same xs ys id other end same event false h = same.events id

known_after : (xs ys : List EventLine) → SameState xs ys → (line : EventLine) → IsAccepted xs line → (id : ℕ) → option_map as_it_is (event_and id line (event_with id xs)) ≡ option_map as_it_is (event_and id line (event_with id ys))
known_after xs ys same (Insert other row) accepted id = version_same (eqb other id) row (event_with id xs) (event_with id ys) (same.events id)
known_after xs ys same (Retract other end) accepted id = retract_same xs ys id other end same (retracted_same xs ys same other end accepted) (eqb other id) refl
known_after xs ys same (Revise other row) accepted id = version_same (eqb other id) row (event_with id xs) (event_with id ys) (same.events id)
known_after xs ys same (Promise time) accepted id = same.events id

-- the states stay the same
same_after : (xs ys : List EventLine) → SameState xs ys → (line : EventLine) → IsAccepted xs line → SameState (xs ++ line ∷ []) (ys ++ line ∷ [])
same_after xs ys same line accepted = record {
  mark = guarantee_of-append xs (line ∷ []) ∙ (ap (λ (m : ℕ). max m (guarantee_of (line ∷ []))) same.mark ∙ sym (guarantee_of-append ys (line ∷ [])));
  events = λ id.
      ap (λ (e : Option Row). option_map as_it_is e) (event-push id xs line)
      ∙ (known_after xs ys same line accepted id ∙ ap (λ (e : Option Row). option_map as_it_is e) (sym (event-push id ys line)));
}

record GoesOnAs (xs ys lines : List EventLine) : Type 0 where
  accepted : AreAcceptedBehind ys lines
  messages : messages_behind xs lines ≡ messages_behind ys lines
  same : SameState (xs ++ lines) (ys ++ lines)

goes_on : (xs ys lines : List EventLine) → SameState xs ys → AreAcceptedBehind xs lines → GoesOnAs xs ys lines
goes_on xs ys [] same accepted = record {
  accepted = tt;
  messages = refl;
  same = subst (λ (a : List EventLine). SameState a (ys ++ [])) (sym (append-nil xs)) (subst (λ (b : List EventLine). SameState xs b) (sym (append-nil ys)) same);
}
goes_on xs ys (line ∷ lines) same accepted =
    let one = accepted.0 in
    let theirs : IsAccepted ys line = record { event = one.event; faultless = sym (same_fault xs ys same line) ∙ one.faultless } in
    let rest = goes_on (xs ++ line ∷ []) (ys ++ line ∷ []) lines (same_after xs ys same line one) accepted.1 in
    record {
      accepted = (theirs, rest.accepted);
      messages = ap (λ (ms : List Message). ms ++ messages_behind (xs ++ line ∷ []) lines) (same_messages xs ys same line one) ∙ ap (λ (ms : List Message). line_messages ys line ++ ms) rest.messages;
      same = subst (λ (a : List EventLine). SameState a (ys ++ line ∷ lines)) (append_assoc xs (line ∷ []) lines) (subst (λ (b : List EventLine). SameState ((xs ++ line ∷ []) ++ lines) b) (append_assoc ys (line ∷ []) lines) rest.same);
    }

-- lines go on from lines of the same state as from the others: they are accepted, and become the same messages
pub same_goes_on : (xs ys : List EventLine) → SameState xs ys → (lines : List EventLine) → AreAcceptedBehind xs lines
    → AreAcceptedBehind ys lines × (messages_behind xs lines ≡ messages_behind ys lines) × SameState (xs ++ lines) (ys ++ lines)
same_goes_on xs ys same lines more =
    let g = goes_on xs ys lines same more in
    (g.accepted, g.messages, g.same)
