-- The rule of quotes byte by byte, as the code and the csv reader go through a line.
use Rattle.std.proofs.Common.{◌≡◌, ◌==◌, ◌&&◌, ◌||◌, ◌∷◌, ◌∙◌, [], ℕ, List, Bool, true, false, not, cond, Option, None, Some, is_some, refl, sym, ap, subst, inl, inr}
use Rattle.std.specs.Prelude.{option_map}
use Rattle.std.specs.List.{list_any, onto_first}
use Rattle.std.proofs.lemmas.Bool.{cases_Bool, eqb-true, or_parts}
use Rattle.cedr_text.specs.declared.quoting.Place.{Place}
use Rattle.cedr_text.specs.declared.quoting.Place.TheVariants.{FieldStart, Bare, Quoted, BehindQuote}
use Rattle.cedr_text.specs.Parts.{parts_of}
use Rattle.cedr_text.specs.Texts.{comma, quote}
use Rattle.cedr_text.specs.Places.{place_after, may_end}
use Rattle.cedr_text.specs.Quoting.{has_quote, texts_after, undoubled, text_value, text_values, in_front, line_fields}

-- whether some byte of a text is this one
abbrev pub has_byte : ℕ → List ℕ → Bool
has_byte byte bytes = list_any (λ b. b == byte) bytes

-- the value that a text completes, and the values after it
abbrev pub Found : Type 0
Found = List ℕ × List (List ℕ)

-- a byte joins the value
abbrev pub with_byte : ℕ → Found → Found
with_byte b found = (b ∷ found.0, found.1)

-- a comma ends an empty value
abbrev pub behind_comma : Found → Found
behind_comma found = ([], found.0 ∷ found.1)

-- the values of what is left of a line from a place on
abbrev pub fields_from : Place → List ℕ → Option Found
fields_from FieldStart [] = Some ([], [])
fields_from Bare [] = Some ([], [])
fields_from Quoted [] = None
fields_from BehindQuote [] = Some ([], [])
fields_from FieldStart (b ∷ bs) =
    cond (b == 34) (fields_from Quoted bs) (cond (b == 44) (option_map behind_comma (fields_from FieldStart bs)) (option_map (with_byte b) (fields_from Bare bs)))
fields_from Bare (b ∷ bs) = cond (b == 34) None (cond (b == 44) (option_map behind_comma (fields_from FieldStart bs)) (option_map (with_byte b) (fields_from Bare bs)))
fields_from Quoted (b ∷ bs) = cond (b == 34) (fields_from BehindQuote bs) (option_map (with_byte b) (fields_from Quoted bs))
fields_from BehindQuote (b ∷ bs) =
    cond (b == 34) (option_map (with_byte 34) (fields_from Quoted bs)) (cond (b == 44) (option_map behind_comma (fields_from FieldStart bs)) None)

-- whether an odd number of quotes stands before a place
abbrev is_odd : Place → Bool
is_odd FieldStart = false
is_odd Bare = false
is_odd Quoted = true
is_odd BehindQuote = false

abbrev behind_quote : List ℕ → Option (List ℕ)
behind_quote [] = Some []
behind_quote (c ∷ bs) = cond (c == 34) (option_map (λ value. 34 ∷ value) (undoubled bs)) None

abbrev bare_value : List ℕ → Option (List ℕ)
bare_value text = cond (has_quote text) None (Some text)

-- the rest of a value, whose text goes on at a place
abbrev value_from : Place → List ℕ → Option (List ℕ)
value_from FieldStart text = text_value text
value_from Bare text = bare_value text
value_from Quoted text = undoubled text
value_from BehindQuote text = behind_quote text

abbrev together : Option (List ℕ) → Option (List (List ℕ)) → Option Found
together (Some value) (Some values) = Some (value, values)
together value values = None

abbrev found_in : (List ℕ → Option (List ℕ)) → List (List ℕ) → Option Found
found_in value_of [] = together (value_of []) (Some [])
found_in value_of (text ∷ texts) = together (value_of text) (text_values texts)

-- a byte joins the first text
onto_value : (value_of rest_of : List ℕ → Option (List ℕ)) (b : ℕ) (texts : List (List ℕ)) → ((text : List ℕ) → value_of (b ∷ text) ≡ rest_of text)
    → found_in value_of (onto_first b texts) ≡ found_in rest_of texts
onto_value value_of rest_of b [] same = ap (λ value. together value (Some [])) (same [])
onto_value value_of rest_of b (text ∷ texts) same = ap (λ value. together value (text_values texts)) (same text)

together_with : (b : ℕ) (value : Option (List ℕ)) (values : Option (List (List ℕ)))
    → option_map (with_byte b) (together value values) ≡ together (option_map (λ value. b ∷ value) value) values
together_with b None values = refl
together_with b (Some value) None = refl
together_with b (Some value) (Some values) = refl

-- the byte is one of the value's
value_with : (b : ℕ) (value_of : List ℕ → Option (List ℕ)) (texts : List (List ℕ))
    → option_map (with_byte b) (found_in value_of texts) ≡ found_in (λ text. option_map (λ value. b ∷ value) (value_of text)) texts
value_with b value_of [] = together_with b (value_of []) (Some [])
value_with b value_of (text ∷ texts) = together_with b (value_of text) (text_values texts)

no_value : (texts : List (List ℕ)) → found_in (λ text. None) texts ≡ None
no_value [] = refl
no_value (text ∷ texts) = refl

-- every value that was found
abbrev pub all_of : Found → List (List ℕ)
all_of found = found.0 ∷ found.1

all_together : (value : Option (List ℕ)) (values : Option (List (List ℕ))) → option_map all_of (together value values) ≡ in_front value values
all_together None values = refl
all_together (Some value) None = refl
all_together (Some value) (Some values) = refl

some_texts : (test : Bool) (b : ℕ) (others texts : List (List ℕ)) → option_map all_of (found_in text_value (cond test ([] ∷ others) (onto_first b texts))) ≡ text_values (cond test ([] ∷ others) (onto_first b texts))
some_texts true b others texts = all_together (Some []) (text_values others)
some_texts false b others [] = all_together (text_value (b ∷ [])) (Some [])
some_texts false b others (text ∷ texts) = all_together (text_value (b ∷ text)) (text_values texts)

-- a line has a first text
all_found : (odd : Bool) (bs : List ℕ) → option_map all_of (found_in text_value (texts_after odd bs)) ≡ text_values (texts_after odd bs)
all_found odd [] = refl
all_found odd (b ∷ bs) = some_texts ((b == comma) && not odd) b (texts_after odd bs) (texts_after (cond (b == quote) (not odd) odd) bs)

behind_all : (found : Option Found) → option_map behind_comma found ≡ together (Some []) (option_map all_of found)
behind_all None = refl
behind_all (Some found) = refl

-- the code's places and the cut texts give the same, at these bytes
abbrev Agrees : List ℕ → Place → Type 0
Agrees bytes place = fields_from place bytes ≡ found_in (value_from place) (texts_after (is_odd place) bytes)

undoubled_quote : (text : List ℕ) → undoubled (34 ∷ text) ≡ behind_quote text
undoubled_quote [] = refl
undoubled_quote (c ∷ text) = refl

at_quote : (place : Place) (bs : List ℕ) → ((next : Place) → Agrees bs next) → Agrees (34 ∷ bs) place
at_quote FieldStart bs same = same Quoted ∙ sym (onto_value text_value undoubled 34 (texts_after true bs) (λ text. refl))
at_quote Bare bs same = sym (onto_value bare_value (λ text. None) 34 (texts_after true bs) (λ text. refl) ∙ no_value (texts_after true bs))
at_quote Quoted bs same = same BehindQuote ∙ sym (onto_value undoubled behind_quote 34 (texts_after false bs) undoubled_quote)
at_quote BehindQuote bs same =
    ap (option_map (with_byte 34)) (same Quoted) ∙ value_with 34 undoubled (texts_after true bs)
    ∙ sym (onto_value behind_quote (λ text. option_map (λ value. 34 ∷ value) (undoubled text)) 34 (texts_after true bs) (λ text. refl))

next_text : (bs : List ℕ) → Agrees bs FieldStart → option_map behind_comma (fields_from FieldStart bs) ≡ together (Some []) (text_values (texts_after false bs))
next_text bs same = ap (option_map behind_comma) same ∙ behind_all (found_in text_value (texts_after false bs)) ∙ ap (together (Some [])) (all_found false bs)

undoubled_other : (b : ℕ) (text : List ℕ) → b == 34 ≡ false → undoubled (b ∷ text) ≡ option_map (λ value. b ∷ value) (undoubled text)
undoubled_other b [] other = ap (λ is. cond is (Some []) None) other
undoubled_other b (c ∷ text) other =
    ap (λ is. cond is (cond (c == 34) (option_map (λ value. 34 ∷ value) (undoubled text)) None) (option_map (λ value. b ∷ value) (undoubled (c ∷ text)))) other

at_comma : (place : Place) (bs : List ℕ) → ((next : Place) → Agrees bs next) → Agrees (44 ∷ bs) place
at_comma FieldStart bs same = next_text bs (same FieldStart)
at_comma Bare bs same = next_text bs (same FieldStart)
at_comma Quoted bs same =
    ap (option_map (with_byte 44)) (same Quoted) ∙ value_with 44 undoubled (texts_after true bs)
    ∙ sym (onto_value undoubled (λ text. option_map (λ value. 44 ∷ value) (undoubled text)) 44 (texts_after true bs) (λ text. undoubled_other 44 text refl))
at_comma BehindQuote bs same = next_text bs (same FieldStart)

text_goes_on : (b : ℕ) (odd : Bool) (bs : List ℕ) → b == 34 ≡ false → b == 44 ≡ false → texts_after odd (b ∷ bs) ≡ onto_first b (texts_after odd bs)
text_goes_on b odd bs no_quote no_comma =
    ap (λ cut. cond (cut && not odd) ([] ∷ texts_after odd bs) (onto_first b (texts_after (cond (b == 34) (not odd) odd) bs))) no_comma
    ∙ ap (λ is. onto_first b (texts_after (cond is (not odd) odd) bs)) no_quote

bare_other : (has : Bool) (b : ℕ) (text : List ℕ) → cond has None (Some (b ∷ text)) ≡ option_map (λ value. b ∷ value) (cond has None (Some text))
bare_other true b text = refl
bare_other false b text = refl

bare_goes_on : (b : ℕ) (text : List ℕ) → b == 34 ≡ false → bare_value (b ∷ text) ≡ option_map (λ value. b ∷ value) (bare_value text)
bare_goes_on b text no_quote = ap (λ is. cond (is || has_quote text) None (Some (b ∷ text))) no_quote ∙ bare_other (has_quote text) b text

text_starts : (b : ℕ) (text : List ℕ) → b == 34 ≡ false → text_value (b ∷ text) ≡ option_map (λ value. b ∷ value) (bare_value text)
text_starts b text no_quote = ap (λ is. cond (is || has_quote text) (cond is (undoubled text) None) (Some (b ∷ text))) no_quote ∙ bare_other (has_quote text) b text

-- the values from a place on where the next byte is no mark of the rule
abbrev pub at_data : Place → ℕ → List ℕ → Option Found
at_data FieldStart b bs = option_map (with_byte b) (fields_from Bare bs)
at_data Bare b bs = option_map (with_byte b) (fields_from Bare bs)
at_data Quoted b bs = option_map (with_byte b) (fields_from Quoted bs)
at_data BehindQuote b bs = None

-- such a byte joins the value, or can't stand at the place
pub from_data : (place : Place) (b : ℕ) (bs : List ℕ) → b == 34 ≡ false → b == 44 ≡ false → fields_from place (b ∷ bs) ≡ at_data place b bs
from_data FieldStart b bs no_quote no_comma = rw (no_quote, no_comma) refl
from_data Bare b bs no_quote no_comma = rw (no_quote, no_comma) refl
from_data Quoted b bs no_quote no_comma = rw no_quote refl
from_data BehindQuote b bs no_quote no_comma = rw (no_quote, no_comma) refl

-- the value goes on with a byte
value_goes_on : (place next : Place) (b : ℕ) (bs : List ℕ) → is_odd next ≡ is_odd place → ((text : List ℕ) → value_from place (b ∷ text) ≡ option_map (λ value. b ∷ value) (value_from next text))
    → Agrees bs next → option_map (with_byte b) (fields_from next bs) ≡ found_in (value_from place) (onto_first b (texts_after (is_odd place) bs))
value_goes_on place next b bs odd step same =
    ap (option_map (with_byte b)) same ∙ value_with b (value_from next) (texts_after (is_odd next) bs)
    ∙ ap (λ odd. found_in (λ text. option_map (λ value. b ∷ value) (value_from next text)) (texts_after odd bs)) odd
    ∙ sym (onto_value (value_from place) (λ text. option_map (λ value. b ∷ value) (value_from next text)) b (texts_after (is_odd place) bs) step)

data_agrees : (place : Place) (b : ℕ) (bs : List ℕ) → b == 34 ≡ false → ((next : Place) → Agrees bs next)
    → at_data place b bs ≡ found_in (value_from place) (onto_first b (texts_after (is_odd place) bs))
data_agrees FieldStart b bs no_quote same = value_goes_on FieldStart Bare b bs refl (λ text. text_starts b text no_quote) (same Bare)
data_agrees Bare b bs no_quote same = value_goes_on Bare Bare b bs refl (λ text. bare_goes_on b text no_quote) (same Bare)
data_agrees Quoted b bs no_quote same = value_goes_on Quoted Quoted b bs refl (λ text. undoubled_other b text no_quote) (same Quoted)
data_agrees BehindQuote b bs no_quote same =
    sym (onto_value behind_quote (λ text. None) b (texts_after false bs) (λ text. ap (λ is. cond is (option_map (λ value. 34 ∷ value) (undoubled text)) None) no_quote) ∙ no_value (texts_after false bs))

at_byte : (place : Place) (b : ℕ) (bs : List ℕ) → ((next : Place) → Agrees bs next) → Agrees (b ∷ bs) place
at_byte place b bs same = elim (cases_Bool (b == 34)) [
  | inl is ↦ subst (λ (c : ℕ). Agrees (c ∷ bs) place) (sym (eqb-true b 34 is)) (at_quote place bs same)
  | inr no_quote ↦ elim (cases_Bool (b == 44)) [
    | inl is ↦ subst (λ (c : ℕ). Agrees (c ∷ bs) place) (sym (eqb-true b 44 is)) (at_comma place bs same)
    | inr no_comma ↦ from_data place b bs no_quote no_comma ∙ data_agrees place b bs no_quote same
        ∙ sym (ap (found_in (value_from place)) (text_goes_on b (is_odd place) bs no_quote no_comma))
  ]
]

agrees : (bytes : List ℕ) (place : Place) → Agrees bytes place
agrees [] FieldStart = refl
agrees [] Bare = refl
agrees [] Quoted = refl
agrees [] BehindQuote = refl
agrees (b ∷ bs) place = at_byte place b bs (agrees bs)

-- the values of a line, found byte by byte
pub line_found : (line : List ℕ) → line_fields line ≡ option_map all_of (fields_from FieldStart line)
line_found line = sym (ap (option_map all_of) (agrees line FieldStart) ∙ all_found false line)

bare_step : (is_comma : Bool) (b : ℕ) (parts : List (List ℕ)) (started going : Option Found) (found : Found) → started ≡ Some found → going ≡ Some found → parts ≡ all_of found
    → (next : Found) × (cond is_comma (option_map behind_comma started) (option_map (with_byte b) going) ≡ Some next) × (cond is_comma ([] ∷ parts) (onto_first b parts) ≡ all_of next)
bare_step true b parts started going found starts goes are = (behind_comma found, ap (option_map behind_comma) starts, ap (λ (parts : List (List ℕ)). [] ∷ parts) are)
bare_step false b parts started going found starts goes are = (with_byte b found, ap (option_map (with_byte b)) goes, ap (onto_first b) are)

bare_found : (bs : List ℕ) → has_quote bs ≡ false → (found : Found) × (fields_from FieldStart bs ≡ Some found) × (fields_from Bare bs ≡ Some found) × (parts_of comma bs ≡ all_of found)
bare_found [] none = (([], []), refl, refl, refl)
bare_found (b ∷ bs) none =
    let quotes = or_parts (b == 34) (has_quote bs) none in
    let before = bare_found bs quotes.1 in
    let step = bare_step (b == 44) b (parts_of comma bs) (fields_from FieldStart bs) (fields_from Bare bs) before.0 before.1 before.2 before.3 in
    let goes = cond (b == 44) (option_map behind_comma (fields_from FieldStart bs)) (option_map (with_byte b) (fields_from Bare bs)) in
    (step.0, ap (λ is. cond is (fields_from Quoted bs) goes) quotes.0 ∙ step.1, ap (λ is. cond is None goes) quotes.0 ∙ step.1, step.2)

-- a line without quotes is cut at its commas
pub bare_fields : (line : List ℕ) → has_quote line ≡ false → line_fields line ≡ Some (parts_of comma line)
bare_fields line none =
    let bare = bare_found line none in
    line_found line ∙ ap (option_map all_of) bare.1 ∙ sym (ap (λ (parts : List (List ℕ)). Some parts) bare.3)

mapped : (f : Found → Found) (found : Option Found) → is_some (option_map f found) ≡ is_some found
mapped f None = refl
mapped f (Some found) = refl

all_mapped : (found : Option Found) → is_some (option_map all_of found) ≡ is_some found
all_mapped None = refl
all_mapped (Some found) = refl

-- the check begins with the line
pub rule_starts : (line : List ℕ) → is_some (fields_from FieldStart line) ≡ is_some (line_fields line)
rule_starts line = sym (ap is_some (line_found line) ∙ all_mapped (fields_from FieldStart line))

-- the rest of a line keeps the rule from a place on, if the byte before it could stand there
abbrev pub keeps_on : List ℕ → Option Place → Bool
keeps_on bs None = false
keeps_on bs (Some place) = is_some (fields_from place bs)

by_tests : (bs : List ℕ) (is_quote is_comma : Bool) (a b c : Option Found) (x y z : Option Place) → is_some a ≡ keeps_on bs x → is_some b ≡ keeps_on bs y → is_some c ≡ keeps_on bs z
    → is_some (cond is_quote a (cond is_comma b c)) ≡ keeps_on bs (cond is_quote x (cond is_comma y z))
by_tests bs true is_comma a b c x y z first second third = first
by_tests bs false true a b c x y z first second third = second
by_tests bs false false a b c x y z first second third = third

by_test : (bs : List ℕ) (is_quote : Bool) (a b : Option Found) (x y : Option Place) → is_some a ≡ keeps_on bs x → is_some b ≡ keeps_on bs y
    → is_some (cond is_quote a b) ≡ keeps_on bs (cond is_quote x y)
by_test bs true a b x y first second = first
by_test bs false a b x y first second = second

-- a byte is checked
pub rule_steps : (place : Place) (b : ℕ) (bs : List ℕ) → is_some (fields_from place (b ∷ bs)) ≡ keeps_on bs (place_after place b)
rule_steps FieldStart b bs =
    by_tests bs (b == 34) (b == 44) _ _ _ (Some Quoted) (Some FieldStart) (Some Bare) refl (mapped behind_comma (fields_from FieldStart bs)) (mapped (with_byte b) (fields_from Bare bs))
rule_steps Bare b bs =
    by_tests bs (b == 34) (b == 44) None _ _ None (Some FieldStart) (Some Bare) refl (mapped behind_comma (fields_from FieldStart bs)) (mapped (with_byte b) (fields_from Bare bs))
rule_steps Quoted b bs = by_test bs (b == 34) _ _ (Some BehindQuote) (Some Quoted) refl (mapped (with_byte b) (fields_from Quoted bs))
rule_steps BehindQuote b bs =
    by_tests bs (b == 34) (b == 44) _ _ None (Some Quoted) (Some FieldStart) None (mapped (with_byte 34) (fields_from Quoted bs)) (mapped behind_comma (fields_from FieldStart bs)) refl

-- the check ends with the line
pub rule_ends : (place : Place) → is_some (fields_from place []) ≡ may_end place
rule_ends FieldStart = refl
rule_ends Bare = refl
rule_ends Quoted = refl
rule_ends BehindQuote = refl
