-- Each source that is made is accepted.
use Rattle.std.proofs.Common.{◌≡◌, ◌+◌, ◌*◌, ◌<◌, ◌≤◌, ◌^◌, ◌/◌, ◌%◌, ℕ, zero, suc, List, [], ◌∷◌, ◌++◌, Bool, cond, length, take, refl, ap, sym, ◌∙◌, subst, append_assoc, append-nil, arith, None}
use Rattle.std.specs.Prelude.{nat_eq, Vec}
use Rattle.std.specs.declared.alloc.Global.{Global}
use Rattle.std.specs.Fmt.{decimal}
use Rattle.std.proofs.lemmas.Bool.{le-ltb}
use Rattle.cedr_base.specs.declared.field.FieldType.{FieldType}
use Rattle.cedr_text.specs.declared.event_line.Shape.TheVariants.{Fields}
use Rattle.cedr_text.specs.Lines.{raw_lines}
use Rattle.cedr_base.specs.Bytes.{line_feed}
use Rattle.cedr_text.specs.Parts.{parts_of}
use Rattle.cedr_guard.specs.declared.refusal.TheConstants.{FILE_LIMIT}
use Rattle.cedr_guard.specs.Sources.{Judged, judged_lines, judged_front, judged}
use Rattle.cedr_make.specs.BuiltIn.{event_types}
use Rattle.cedr_make.specs.Generator.{begin_of, made_length, made_key, value_of, insertion_text, retraction_text, guarantee_text, event_text, made_text}
use Rattle.cedr_make.proofs.FieldTexts.{joined, no_feed, short}
use Rattle.cedr_make.proofs.LineReadings.{insertion_fields, retraction_fields, guarantee_fields, insertion_plain, retraction_plain, guarantee_plain, made_row, insertion_says, retraction_says, guarantee_says}
use Rattle.cedr_make.proofs.AcceptedLines.{Stands, lines_are, stands_insert, stands_retract, stands_promise}

-- the numbers of an event are in these ranges
record InRange (source i : ℕ) : Type 0 where
  begin : 10 * i ≤ begin_of source i
  begin_low : begin_of source i < 10 * i + 50
  length : 0 < made_length source i
  length_low : made_length source i ≤ 100
  key : made_key source i < 2
  value : value_of source i < 1000

in_range : (source i : ℕ) → InRange source i
in_range source i = record { begin = omega arith; begin_low = omega arith; length = omega arith; length_low = omega arith; key = omega arith; value = omega arith }

-- where a retraction ends an event
abbrev middle_of : ℕ → ℕ → ℕ
middle_of source i = begin_of source i + made_length source i / 2

-- the lines of an event
abbrev insertion_line : ℕ → ℕ → List ℕ
insertion_line source i = joined (insertion_fields i (begin_of source i) (begin_of source i + made_length source i) (made_key source i) (value_of source i))

abbrev retraction_line : ℕ → ℕ → List ℕ
retraction_line source i = joined (retraction_fields i (middle_of source i))

abbrev guarantee_line : ℕ → List ℕ
guarantee_line i = joined (guarantee_fields (10 * (i + 1)))

-- five fields and a line feed after them
fed_line : (a b c d e : List ℕ) → (a ++ 44 ∷ (b ++ 44 ∷ (c ++ 44 ∷ (d ++ 44 ∷ e)))) ++ 10 ∷ [] ≡ a ++ 44 ∷ (b ++ 44 ∷ (c ++ 44 ∷ ((d ++ 44 ∷ e) ++ 10 ∷ [])))
fed_line a b c d e =
    append_assoc a (44 ∷ (b ++ 44 ∷ (c ++ 44 ∷ (d ++ 44 ∷ e)))) (10 ∷ [])
    ∙ ap (λ rest. a ++ 44 ∷ rest) (append_assoc b (44 ∷ (c ++ 44 ∷ (d ++ 44 ∷ e))) (10 ∷ []))
    ∙ ap (λ rest. a ++ 44 ∷ (b ++ 44 ∷ rest)) (append_assoc c (44 ∷ (d ++ 44 ∷ e)) (10 ∷ []))

-- they are the texts of the definitions
insertion_is : (source i : ℕ) → insertion_line source i ++ 10 ∷ [] ≡ insertion_text source i
insertion_is source i =
    ap (λ rest. 43 ∷ 44 ∷ rest) (fed_line (decimal i) (decimal (begin_of source i)) (decimal (begin_of source i + made_length source i)) (107 ∷ decimal (made_key source i)) (decimal (value_of source i)))

retraction_is : (source i : ℕ) → cond (nat_eq (i % 5) 4) (retraction_line source i ++ 10 ∷ []) [] ≡ retraction_text source i
retraction_is source i = ap (λ rest. cond (nat_eq (i % 5) 4) (45 ∷ 44 ∷ rest) []) (append_assoc (decimal i) (44 ∷ decimal (middle_of source i)) (10 ∷ []))

guarantee_is : (i : ℕ) → cond (nat_eq (i % 16) 15) (guarantee_line i ++ 10 ∷ []) [] ≡ guarantee_text i
guarantee_is i = refl

-- and together the event's
event_is : (text a a' b b' c : List ℕ) → a' ≡ a → b' ≡ b → ((text ++ a') ++ b') ++ c ≡ text ++ (a ++ (b ++ c))
event_is text a a' b b' c a_is b_is =
    append_assoc (text ++ a') b' c ∙ append_assoc text a' (b' ++ c) ∙ ap (λ x. text ++ (x ++ (b' ++ c))) a_is ∙ ap (λ x. text ++ (a ++ (x ++ c))) b_is

-- an event's lines are accepted after those of the events before it
event_stands : (types : Vec FieldType Global) (text : List ℕ) (source i : ℕ) → types.items ≡ event_types → i < 100000
    → Stands (Fields types) text i (10 * i) (3 * i) → Stands (Fields types) (text ++ event_text source i) (i + 1) (10 * (i + 1)) (3 * i + 1 + 1 + 1)
event_stands types text source i are few s =
    let shape = Fields types in
    let range = in_range source i in
    let begin = begin_of source i in
    let end = begin + made_length source i in
    let middle = middle_of source i in
    let time = 10 * (i + 1) in
    let row = made_row begin end (made_key source i) (value_of source i) in
    let id_fits : i < 2 ^ 64 = omega arith in
    let end_low : end < 2000000 = let a = range.begin_low in let b = range.length_low in omega arith in
    let lives : begin < end = let a = range.length in omega arith in
    let lasts : middle < end = let a = range.length in omega arith in
    let line_fields = insertion_fields i begin end (made_key source i) (value_of source i) in
    let plain = insertion_plain i begin end (made_key source i) (value_of source i) id_fits (omega arith) (omega arith) (let a = range.key in omega arith) (let a = range.value in omega arith) in
    let says = insertion_says types i begin end (made_key source i) (value_of source i) are id_fits lives (omega arith) (let a = range.key in omega arith) (let a = range.value in omega arith) in
    let one = stands_insert shape text i (10 * i) (3 * i) (insertion_line source i) row s (no_feed line_fields plain) (short line_fields plain) says range.begin in
    let cut_plain = retraction_plain i middle id_fits (omega arith) in
    let cut_short : length (retraction_line source i) ≤ 132 = let bound : length (retraction_line source i) ≤ 66 = short (retraction_fields i middle) cut_plain in omega arith in
    let two = stands_retract (nat_eq (i % 5) 4) shape _ i (10 * i) (3 * i + 1) (retraction_line source i) row middle one (no_feed (retraction_fields i middle) cut_plain) cut_short
    (retraction_says shape i middle id_fits (omega arith)) (omega arith) lasts range.begin in
    let mark_plain = guarantee_plain time (omega arith) in
    let mark_short : length (guarantee_line i) ≤ 132 = let bound : length (guarantee_line i) ≤ 44 = short (guarantee_fields time) mark_plain in omega arith in
    let three = stands_promise (nat_eq (i % 16) 15) shape _ (i + 1) (10 * i) (3 * i + 1 + 1) (guarantee_line i) time two (no_feed (guarantee_fields time) mark_plain) mark_short
    (guarantee_says shape time (omega arith)) (omega arith) in
    let all = event_is text _ _ _ _ (cond (nat_eq (i % 16) 15) (guarantee_line i ++ 10 ∷ []) []) (insertion_is source i) (retraction_is source i) in
    subst (λ (t : List ℕ). Stands shape t (i + 1) time (3 * i + 1 + 1 + 1)) (all ∙ ap (λ rest. text ++ (insertion_text source i ++ (retraction_text source i ++ rest))) (guarantee_is i)) three

-- all lines of a source are accepted
made_stands : (types : Vec FieldType Global) (source n : ℕ) → types.items ≡ event_types → n ≤ 100000 → Stands (Fields types) (made_text source n) n (10 * n) (3 * n)
made_stands types source zero are few = record {
  lines = [];
  events = [];
  are = λ more. refl;
  accepted = λ more. refl;
  size = omega arith;
  few = omega arith;
  guarantee = omega arith;
  no_event = λ id later. refl;
}
made_stands types source (suc n) are few =
    let next : n + 1 ≡ suc n = omega arith in
    let most : 3 * n + 1 + 1 + 1 ≡ 3 * suc n = omega arith in
    let more = event_stands types (made_text source n) source n are (omega arith) (made_stands types source n are (omega arith)) in
    subst (λ (m : ℕ). Stands (Fields types) (made_text source (suc n)) (suc n) (10 * suc n) m) most
    (subst (λ (m : ℕ). Stands (Fields types) (made_text source (suc n)) m (10 * m) (3 * n + 1 + 1 + 1)) next more)

-- so a source has no fault, since it is below the limit of a source too
pub made_accepted : (source n : ℕ) (types : Vec FieldType Global) → n ≤ 100000 → types.items ≡ event_types → (judged (Fields types) (made_text source n)).fault ≡ None
made_accepted source n types few are =
    let shape = Fields types in
    let text = made_text source n in
    let s = made_stands types source n are few in
    let within : length text ≤ FILE_LIMIT = let a = s.size in let b = s.few in omega arith in
    ap (λ (test : Bool). (cond test (judged_front shape (parts_of line_feed (take FILE_LIMIT text))) (judged_lines shape (raw_lines text))).fault) (le-ltb FILE_LIMIT (length text) within)
    ∙ ap (λ lines. (judged_lines shape lines).fault) (lines_are text s.lines s.are ∙ sym (append-nil s.lines))
    ∙ ap (λ (j : Judged). j.fault) (s.accepted [])
