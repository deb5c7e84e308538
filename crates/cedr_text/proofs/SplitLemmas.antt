-- The csv reader gives the fields of a line that keeps the rule of quotes.
use Rattle.std.proofs.Common.{◌≡◌, ◌==◌, ◌&&◌, ◌++◌, ◌∷◌, ◌∙◌, ◌<◌, [], ℕ, List, Bool, true, false, cond, Option, None, Some, length, is_some, refl, sym, ap, subst, inl, inr, append_assoc, arith}
use Rattle.std.specs.Prelude.{option_map, nat_eq}
use Rattle.std.specs.List.{starts_with}
use Rattle.std.proofs.lemmas.Bool.{cases_Bool, eqb-true, and_parts, or_parts, false≢true}
use Rattle.std.proofs.lemmas.List.{append-nil}
use Rattle.csv.specs.Machine.{Read, next_record}
use Rattle.csv.specs.Reading.{default_config, strip_bom, is_bom, NextIs, ReadsNext}
use Rattle.csv.specs.declared.parser.Config.{Config}
use Rattle.csv.specs.declared.parser.State.{State}
use Rattle.csv.specs.declared.parser.State.TheVariants as st
use Rattle.cedr_text.specs.declared.quoting.Place.{Place}
use Rattle.cedr_text.specs.declared.quoting.Place.TheVariants.{FieldStart, Bare, Quoted, BehindQuote}
use Rattle.cedr_text.specs.Quoting.{line_fields, byte_order_mark}
use Rattle.cedr_text.proofs.QuotingLemmas.{has_byte, Found, with_byte, behind_comma, all_of, fields_from, at_data, from_data, line_found}

-- the reader's state at a place
abbrev state_of : Place → State
state_of FieldStart = st.StartField
state_of Bare = st.InField
state_of Quoted = st.InQuoted
state_of BehindQuote = st.AfterQuote

-- the reader reads these values after the fields and the bytes of the field that it has
abbrev IsRead : Option Found → List (List ℕ) → List ℕ → Option Read → Type 0
IsRead None fields field read = Unit {0}
IsRead (Some found) fields field read = read ≡ Some (fields ++ ((field ++ found.0) ∷ found.1), st.StartRecord, [])

joins : (b : ℕ) (found : Option Found) (fields : List (List ℕ)) (field : List ℕ) (read : Option Read) → IsRead found fields (field ++ b ∷ []) read
    → IsRead (option_map (with_byte b) found) fields field read
joins b None fields field read is = tt
joins b (Some found) fields field read is = is ∙ ap (λ (value : List ℕ). Some (fields ++ (value ∷ found.1), st.StartRecord, [])) (append_assoc field (b ∷ []) found.0)

ends_field : (found : Option Found) (fields : List (List ℕ)) (field : List ℕ) (read : Option Read) → IsRead found (fields ++ field ∷ []) [] read
    → IsRead (option_map behind_comma found) fields field read
ends_field None fields field read is = tt
ends_field (Some found) fields field read is =
    is ∙ ap (λ (values : List (List ℕ)). Some (values, st.StartRecord, [])) (append_assoc fields (field ∷ []) (found.0 ∷ found.1)
    ∙ ap (λ (value : List ℕ). fields ++ (value ∷ found.0 ∷ found.1)) (sym (append-nil field)))

abbrev read_from : Place → List (List ℕ) → List ℕ → List ℕ → Option Read
read_from place fields field bs = next_record default_config (state_of place) fields field bs

abbrev ReadsOn : List ℕ → Type 0
ReadsOn bs = (place : Place) (fields : List (List ℕ)) (field : List ℕ) → IsRead (fields_from place bs) fields field (read_from place fields field bs)

at_quote : (bs : List ℕ) → ReadsOn bs → ReadsOn (34 ∷ bs)
unfolding next_record
at_quote bs more FieldStart fields field = more Quoted fields field
at_quote bs more Bare fields field = tt
at_quote bs more Quoted fields field = more BehindQuote fields field
at_quote bs more BehindQuote fields field = joins 34 _ fields field _ (more Quoted fields (field ++ 34 ∷ []))

at_comma : (bs : List ℕ) → ReadsOn bs → ReadsOn (44 ∷ bs)
unfolding next_record
at_comma bs more FieldStart fields field = ends_field _ fields field _ (more FieldStart (fields ++ field ∷ []) [])
at_comma bs more Bare fields field = ends_field _ fields field _ (more FieldStart (fields ++ field ∷ []) [])
at_comma bs more Quoted fields field = joins 44 _ fields field _ (more Quoted fields (field ++ 44 ∷ []))
at_comma bs more BehindQuote fields field = ends_field _ fields field _ (more FieldStart (fields ++ field ∷ []) [])

record IsPlain (b : ℕ) : Type 0 where
  no_quote : b == 34 ≡ false
  no_comma : b == 44 ≡ false
  no_return : b == 13 ≡ false
  no_feed : b == 10 ≡ false

bare_read : (b : ℕ) (fields : List (List ℕ)) (field bs : List ℕ) → IsPlain b → read_from Bare fields field (b ∷ bs) ≡ read_from Bare fields (field ++ b ∷ []) bs
unfolding next_record
bare_read b fields field bs plain = rw (plain.no_comma, plain.no_return, plain.no_feed) refl

start_read : (b : ℕ) (fields : List (List ℕ)) (field bs : List ℕ) → IsPlain b → read_from FieldStart fields field (b ∷ bs) ≡ read_from Bare fields (field ++ b ∷ []) bs
unfolding next_record
start_read b fields field bs plain = rw (plain.no_quote, plain.no_comma, plain.no_return, plain.no_feed) refl

quoted_read : (b : ℕ) (fields : List (List ℕ)) (field bs : List ℕ) → IsPlain b → read_from Quoted fields field (b ∷ bs) ≡ read_from Quoted fields (field ++ b ∷ []) bs
unfolding next_record
quoted_read b fields field bs plain = rw plain.no_quote refl

at_plain : (b : ℕ) (bs : List ℕ) → IsPlain b → ReadsOn bs → (place : Place) (fields : List (List ℕ)) (field : List ℕ)
    → IsRead (at_data place b bs) fields field (read_from place fields field (b ∷ bs))
at_plain b bs plain more FieldStart fields field =
    joins b (fields_from Bare bs) fields field _ (subst (λ (read : Option Read). IsRead (fields_from Bare bs) fields (field ++ b ∷ []) read) (sym (start_read b fields field bs plain)) (more Bare fields (field ++ b ∷ [])))
at_plain b bs plain more Bare fields field =
    joins b (fields_from Bare bs) fields field _ (subst (λ (read : Option Read). IsRead (fields_from Bare bs) fields (field ++ b ∷ []) read) (sym (bare_read b fields field bs plain)) (more Bare fields (field ++ b ∷ [])))
at_plain b bs plain more Quoted fields field =
    joins b (fields_from Quoted bs) fields field _ (subst (λ (read : Option Read). IsRead (fields_from Quoted bs) fields (field ++ b ∷ []) read) (sym (quoted_read b fields field bs plain)) (more Quoted fields (field ++ b ∷ [])))
at_plain b bs plain more BehindQuote fields field = tt

at_byte : (b : ℕ) (bs : List ℕ) → b == 13 ≡ false → b == 10 ≡ false → ReadsOn bs → ReadsOn (b ∷ bs)
at_byte b bs no_return no_feed more = elim (cases_Bool (b == 34)) [
  | inl is ↦ subst (λ (c : ℕ). ReadsOn (c ∷ bs)) (sym (eqb-true b 34 is)) (at_quote bs more)
  | inr no_quote ↦ elim (cases_Bool (b == 44)) [
    | inl is ↦ subst (λ (c : ℕ). ReadsOn (c ∷ bs)) (sym (eqb-true b 44 is)) (at_comma bs more)
    | inr no_comma ↦ λ place fields field.
        subst (λ (found : Option Found). IsRead found fields field (read_from place fields field (b ∷ bs))) (sym (from_data place b bs no_quote no_comma))
        (at_plain b bs (record { no_quote = no_quote; no_comma = no_comma; no_return = no_return; no_feed = no_feed }) more place fields field)
  ]
]

reads : (bs : List ℕ) → has_byte 13 bs ≡ false → has_byte 10 bs ≡ false → ReadsOn bs
unfolding next_record
reads [] no_return no_feed FieldStart fields field = ap (λ (value : List ℕ). Some (fields ++ (value ∷ []), st.StartRecord, [])) (sym (append-nil field))
reads [] no_return no_feed Bare fields field = ap (λ (value : List ℕ). Some (fields ++ (value ∷ []), st.StartRecord, [])) (sym (append-nil field))
reads [] no_return no_feed Quoted fields field = tt
reads [] no_return no_feed BehindQuote fields field = ap (λ (value : List ℕ). Some (fields ++ (value ∷ []), st.StartRecord, [])) (sym (append-nil field))
reads (b ∷ bs) no_return no_feed place fields field =
    let returns = or_parts (b == 13) (has_byte 13 bs) no_return in
    let feeds = or_parts (b == 10) (has_byte 10 bs) no_feed in
    at_byte b bs returns.0 feeds.0 (reads bs returns.1 feeds.1) place fields field

-- a line starts as its first field does
starts_field : (c : ℕ) (bs : List ℕ) → c == 13 ≡ false → c == 10 ≡ false → next_record default_config st.StartRecord [] [] (c ∷ bs) ≡ next_record default_config st.StartField [] [] (c ∷ bs)
unfolding next_record
starts_field c bs no_return no_feed = rw (no_return, no_feed) refl

line_starts : (line : List ℕ) → 0 < length line → has_byte 13 line ≡ false → has_byte 10 line ≡ false
    → next_record default_config st.StartRecord [] [] line ≡ next_record default_config st.StartField [] [] line
line_starts [] some no_return no_feed = absurd (omega (arith, some))
line_starts (c ∷ bs) some no_return no_feed = starts_field c bs (or_parts (c == 13) (has_byte 13 bs) no_return).0 (or_parts (c == 10) (has_byte 10 bs) no_feed).0

kept_whole : (is : Bool) (rest line : List ℕ) → (is ≡ true → ⊥) → cond is rest line ≡ line
kept_whole true rest line never = absurd (never refl)
kept_whole false rest line never = refl

begins_with : (a b c : ℕ) (rest : List ℕ) → is_bom a b c ≡ true → starts_with nat_eq (a ∷ b ∷ c ∷ rest) byte_order_mark ≡ true
begins_with a b c rest is =
    let last = and_parts ((a == 0xEF) && (b == 0xBB)) (c == 0xBF) is in
    let first = and_parts (a == 0xEF) (b == 0xBB) last.0 in
    subst (λ (x : ℕ). starts_with nat_eq (x ∷ b ∷ c ∷ rest) byte_order_mark ≡ true) (sym (eqb-true a 0xEF first.0))
    (subst (λ (x : ℕ). starts_with nat_eq (0xEF ∷ x ∷ c ∷ rest) byte_order_mark ≡ true) (sym (eqb-true b 0xBB first.1))
    (subst (λ (x : ℕ). starts_with nat_eq (0xEF ∷ 0xBB ∷ x ∷ rest) byte_order_mark ≡ true) (sym (eqb-true c 0xBF last.1)) refl))

-- the reader drops nothing where the line begins with no mark
mark_free : (line : List ℕ) → starts_with nat_eq line byte_order_mark ≡ false → strip_bom line ≡ line
unfolding strip_bom
mark_free [] none = refl
mark_free (a ∷ []) none = refl
mark_free (a ∷ b ∷ []) none = refl
mark_free (a ∷ b ∷ c ∷ rest) none = kept_whole (is_bom a b c) rest (a ∷ b ∷ c ∷ rest) (λ is. false≢true (sym none ∙ begins_with a b c rest is))

from_read : (values : Option Found) (read : Option Read) (found : Bool) (fields : List (List ℕ)) (state : State) (rest : List ℕ) → is_some (option_map all_of values) ≡ true
    → IsRead values [] [] read → NextIs read found fields state rest → option_map all_of values ≡ Some fields
from_read None read found fields state rest some is next = absurd (false≢true some)
from_read (Some values) read found fields state rest some is next = ap (λ (x : List (List ℕ)). Some x) (sym (subst (λ (r : Option Read). NextIs r found fields state rest) is next).1)

next_of : (line : List ℕ) (after : Option (List ℕ)) (found : Bool) (fields : List (List ℕ)) (end : State) → ReadsNext default_config st.StartRecord (Some (strip_bom line)) after found fields end
    → (rest : List ℕ) × NextIs (next_record default_config st.StartRecord [] [] (strip_bom line)) found fields end rest
next_of line None found fields end read = absurd read
next_of line (Some rest) found fields end read = (rest, read)

from_start : (line : List ℕ) (config : Config) (begin end : State) (source after : Option (List ℕ)) (found : Bool) (fields : List (List ℕ))
    → config ≡ default_config → begin ≡ st.StartRecord → source ≡ Some (strip_bom line) → ReadsNext config begin source after found fields end
    → ReadsNext default_config st.StartRecord (Some (strip_bom line)) after found fields end
from_start line config begin end source after found fields plain starts whole read =
    subst (λ (x : Option (List ℕ)). ReadsNext default_config st.StartRecord x after found fields end) whole
    (subst (λ (x : State). ReadsNext default_config x source after found fields end) starts
    (subst (λ (x : Config). ReadsNext x begin source after found fields end) plain read))

-- what the reader needs of a line
pub record CanSplit (line : List ℕ) : Type 0 where
  pub some : 0 < length line
  pub no_return : has_byte 13 line ≡ false
  pub no_feed : has_byte 10 line ≡ false
  pub no_mark : starts_with nat_eq line byte_order_mark ≡ false
  pub in_rule : is_some (line_fields line) ≡ true

-- the record that the reader reads from a line has its fields
pub read_fields : (line : List ℕ) → CanSplit line → (config : Config) (begin end : State) (source after : Option (List ℕ)) (found : Bool) (fields : List (List ℕ))
    → config ≡ default_config → begin ≡ st.StartRecord → source ≡ Some (strip_bom line) → ReadsNext config begin source after found fields end
    → line_fields line ≡ Some fields
read_fields line can config begin end source after found fields plain starts whole read =
    let values = fields_from FieldStart line in
    let text = ap (next_record default_config st.StartRecord [] []) (mark_free line can.no_mark) ∙ line_starts line can.some can.no_return can.no_feed in
    let next = next_of line after found fields end (from_start line config begin end source after found fields plain starts whole read) in
    line_found line ∙ from_read values (read_from FieldStart [] [] line) found fields end next.0 (sym (ap is_some (line_found line)) ∙ can.in_rule) (reads line can.no_return can.no_feed FieldStart [] [])
    (subst (λ (read : Option Read). NextIs read found fields end next.0) text next.1)
