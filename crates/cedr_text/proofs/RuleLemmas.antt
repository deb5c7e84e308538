-- The two ways to say which fields a line has agree.
use Rattle.std.proofs.Common.{◌≡◌, ◌==◌, ◌++◌, ◌∷◌, ◌∙◌, [], ℕ, List, Bool, true, false, cond, Option, None, Some, refl, sym, ap, subst, inl, inr, append_assoc}
use Rattle.std.specs.Prelude.{option_map}
use Rattle.std.specs.List.{flat_map}
use Rattle.std.proofs.lemmas.Bool.{cases_Bool, eqb-true, or_parts, or_from}
use Rattle.std.proofs.lemmas.List.{append-nil}
use Rattle.cedr_text.specs.declared.quoting.Place.{Place}
use Rattle.cedr_text.specs.declared.quoting.Place.TheVariants.{FieldStart, Bare, Quoted, BehindQuote}
use Rattle.cedr_text.specs.Texts.{doubled, quoted}
use Rattle.cedr_text.specs.Quoting.{has_quote, has_comma, line_fields, IsField, AreFields}
use Rattle.cedr_text.proofs.QuotingLemmas.{Found, with_byte, behind_comma, all_of, fields_from, at_data, from_data, line_found}

-- what stands after a text: nothing, or a comma and the rest
abbrev behind : Option (List ℕ) → List ℕ
behind None = []
behind (Some rest) = 44 ∷ rest

abbrev AreRest : Option (List ℕ) → List (List ℕ) → Type 0
AreRest None values = values ≡ []
AreRest (Some rest) values = AreFields rest values

-- how what is left of a line at a place begins, by the value that was found there
abbrev Begins : Place → List ℕ → Found → Type 0
Begins FieldStart bs found = (text : List ℕ) × (rest : Option (List ℕ)) × (bs ≡ text ++ behind rest) × IsField text found.0 × AreRest rest found.1
Begins Bare bs found = (rest : Option (List ℕ)) × (bs ≡ found.0 ++ behind rest) × (has_quote found.0 ≡ false) × (has_comma found.0 ≡ false) × AreRest rest found.1
Begins Quoted bs found = (rest : Option (List ℕ)) × (bs ≡ flat_map doubled found.0 ++ 34 ∷ behind rest) × AreRest rest found.1
Begins BehindQuote bs found = (rest : Option (List ℕ)) × (34 ∷ bs ≡ flat_map doubled found.0 ++ 34 ∷ behind rest) × AreRest rest found.1

abbrev BeginsIf : Place → List ℕ → Option Found → Type 0
BeginsIf place bs None = Unit {0}
BeginsIf place bs (Some found) = Begins place bs found

one_field : (line text value : List ℕ) (values : List (List ℕ)) → line ≡ text ++ [] → IsField text value → values ≡ [] → AreFields line (value ∷ values)
one_field line text value [] is field none = subst (λ (x : List ℕ). IsField x value) (sym (is ∙ append-nil text)) field
one_field line text value (next ∷ values) is field none = cc

more_fields : (line text rest value : List ℕ) (values : List (List ℕ)) → line ≡ text ++ 44 ∷ rest → IsField text value → AreFields rest values → AreFields line (value ∷ values)
more_fields line text rest value [] is field more = absurd more
more_fields line text rest value (next ∷ values) is field more = (text, rest, is, field, more)

fields_with : (line text value : List ℕ) (rest : Option (List ℕ)) (values : List (List ℕ)) → line ≡ text ++ behind rest → IsField text value → AreRest rest values → AreFields line (value ∷ values)
fields_with line text value None values is field more = one_field line text value values is field more
fields_with line text value (Some rest) values is field more = more_fields line text rest value values is field more

are_fields : (line : List ℕ) (found : Found) → Begins FieldStart line found → AreFields line (all_of found)
are_fields line found begins = fields_with line begins.0 found.0 begins.1 found.1 begins.2 begins.3 begins.4

opened : (bs : List ℕ) (found : Option Found) → BeginsIf Quoted bs found → BeginsIf FieldStart (34 ∷ bs) found
opened bs None begins = tt
opened bs (Some found) begins = (
  quoted found.0,
  begins.0,
  ap (λ (bytes : List ℕ). 34 ∷ bytes) (begins.1 ∙ sym (append_assoc (flat_map doubled found.0) (34 ∷ []) (behind begins.0))),
  inr refl,
  begins.2,
)

quote_twice : (bs : List ℕ) (found : Option Found) → BeginsIf BehindQuote bs found → BeginsIf Quoted (34 ∷ bs) found
quote_twice bs None begins = tt
quote_twice bs (Some found) begins = begins

quote_again : (bs : List ℕ) (found : Option Found) → BeginsIf Quoted bs found → BeginsIf BehindQuote (34 ∷ bs) (option_map (with_byte 34) found)
quote_again bs None begins = tt
quote_again bs (Some found) begins = (begins.0, ap (λ (bytes : List ℕ). 34 ∷ 34 ∷ bytes) begins.1, begins.2)

no_text : (bs : List ℕ) (found : Option Found) → BeginsIf FieldStart bs found → BeginsIf FieldStart (44 ∷ bs) (option_map behind_comma found)
no_text bs None begins = tt
no_text bs (Some found) begins = ([], Some bs, refl, inl (refl, refl, refl), are_fields bs found begins)

text_ends : (bs : List ℕ) (found : Option Found) → BeginsIf FieldStart bs found → BeginsIf Bare (44 ∷ bs) (option_map behind_comma found)
text_ends bs None begins = tt
text_ends bs (Some found) begins = (Some bs, refl, refl, refl, are_fields bs found begins)

quotes_end : (bs : List ℕ) (found : Option Found) → BeginsIf FieldStart bs found → BeginsIf BehindQuote (44 ∷ bs) (option_map behind_comma found)
quotes_end bs None begins = tt
quotes_end bs (Some found) begins = (Some bs, refl, are_fields bs found begins)

quoted_more : (b : ℕ) (bs : List ℕ) (found : Option Found) → b == 34 ≡ false → BeginsIf Quoted bs found → BeginsIf Quoted (b ∷ bs) (option_map (with_byte b) found)
quoted_more b bs None other begins = tt
quoted_more b bs (Some found) other begins = (
  begins.0,
  ap (λ (bytes : List ℕ). b ∷ bytes) begins.1 ∙ sym (ap (λ is. (cond is (34 ∷ 34 ∷ []) (b ∷ []) ++ flat_map doubled found.0) ++ 34 ∷ behind begins.0) other),
  begins.2,
)

bare_more : (b : ℕ) (bs : List ℕ) (found : Option Found) → b == 34 ≡ false → b == 44 ≡ false → BeginsIf Bare bs found → BeginsIf Bare (b ∷ bs) (option_map (with_byte b) found)
bare_more b bs None no_quote no_comma begins = tt
bare_more b bs (Some found) no_quote no_comma begins = (
  begins.0,
  ap (λ (bytes : List ℕ). b ∷ bytes) begins.1,
  or_from (b == 34) (has_quote found.0) no_quote begins.2,
  or_from (b == 44) (has_comma found.0) no_comma begins.3,
  begins.4,
)

bare_starts : (bs : List ℕ) (found : Option Found) → BeginsIf Bare bs found → BeginsIf FieldStart bs found
bare_starts bs None begins = tt
bare_starts bs (Some found) begins = (found.0, begins.0, begins.1, inl (begins.2, begins.3, refl), begins.4)

abbrev EachBegins : List ℕ → Type 0
EachBegins bs = (place : Place) → BeginsIf place bs (fields_from place bs)

at_quote : (bs : List ℕ) → EachBegins bs → EachBegins (34 ∷ bs)
at_quote bs begins FieldStart = opened bs (fields_from Quoted bs) (begins Quoted)
at_quote bs begins Bare = tt
at_quote bs begins Quoted = quote_twice bs (fields_from BehindQuote bs) (begins BehindQuote)
at_quote bs begins BehindQuote = quote_again bs (fields_from Quoted bs) (begins Quoted)

at_comma : (bs : List ℕ) → EachBegins bs → EachBegins (44 ∷ bs)
at_comma bs begins FieldStart = no_text bs (fields_from FieldStart bs) (begins FieldStart)
at_comma bs begins Bare = text_ends bs (fields_from FieldStart bs) (begins FieldStart)
at_comma bs begins Quoted = quoted_more 44 bs (fields_from Quoted bs) refl (begins Quoted)
at_comma bs begins BehindQuote = quotes_end bs (fields_from FieldStart bs) (begins FieldStart)

data_begins : (place : Place) (b : ℕ) (bs : List ℕ) → b == 34 ≡ false → b == 44 ≡ false → EachBegins bs → BeginsIf place (b ∷ bs) (at_data place b bs)
data_begins FieldStart b bs no_quote no_comma begins =
    bare_starts (b ∷ bs) (option_map (with_byte b) (fields_from Bare bs)) (bare_more b bs (fields_from Bare bs) no_quote no_comma (begins Bare))
data_begins Bare b bs no_quote no_comma begins = bare_more b bs (fields_from Bare bs) no_quote no_comma (begins Bare)
data_begins Quoted b bs no_quote no_comma begins = quoted_more b bs (fields_from Quoted bs) no_quote (begins Quoted)
data_begins BehindQuote b bs no_quote no_comma begins = tt

at_byte : (b : ℕ) (bs : List ℕ) → EachBegins bs → EachBegins (b ∷ bs)
at_byte b bs begins = elim (cases_Bool (b == 34)) [
  | inl is ↦ subst (λ (c : ℕ). EachBegins (c ∷ bs)) (sym (eqb-true b 34 is)) (at_quote bs begins)
  | inr no_quote ↦ elim (cases_Bool (b == 44)) [
    | inl is ↦ subst (λ (c : ℕ). EachBegins (c ∷ bs)) (sym (eqb-true b 44 is)) (at_comma bs begins)
    | inr no_comma ↦ λ place.
        subst (λ (found : Option Found). BeginsIf place (b ∷ bs) found) (sym (from_data place b bs no_quote no_comma)) (data_begins place b bs no_quote no_comma begins)
  ]
]

each_begins : (bs : List ℕ) → EachBegins bs
each_begins [] FieldStart = ([], None, refl, inl (refl, refl, refl), refl)
each_begins [] Bare = (None, refl, refl, refl, refl)
each_begins [] Quoted = tt
each_begins [] BehindQuote = (None, refl, refl)
each_begins (b ∷ bs) place = at_byte b bs (each_begins bs) place

fields_if : (line : List ℕ) (values : List (List ℕ)) (found : Option Found) → BeginsIf FieldStart line found → option_map all_of found ≡ Some values → AreFields line values
fields_if line values None begins is = cc
fields_if line values (Some found) begins is =
    let same : all_of found ≡ values = cc in
    subst (λ (x : List (List ℕ)). AreFields line x) same (are_fields line found begins)

-- the fields that a line is cut into are its fields
pub cut_are_fields : (line : List ℕ) (values : List (List ℕ)) → line_fields line ≡ Some values → AreFields line values
cut_are_fields line values is = fields_if line values (fields_from FieldStart line) (each_begins line FieldStart) (sym (line_found line) ∙ is)

-- a value joins the rest of its text
abbrev onto : List ℕ → Found → Found
onto value found = (value ++ found.0, found.1)

onto_step : (b : ℕ) (value : List ℕ) (found : Option Found) → option_map (with_byte b) (option_map (onto value) found) ≡ option_map (onto (b ∷ value)) found
onto_step b value None = refl
onto_step b value (Some found) = refl

onto_none : (found : Option Found) → found ≡ option_map (onto []) found
onto_none None = refl
onto_none (Some found) = refl

bare_run : (text rest : List ℕ) → has_quote text ≡ false → has_comma text ≡ false → fields_from Bare (text ++ rest) ≡ option_map (onto text) (fields_from Bare rest)
bare_run [] rest no_quote no_comma = onto_none (fields_from Bare rest)
bare_run (b ∷ text) rest no_quote no_comma =
    let quotes = or_parts (b == 34) (has_quote text) no_quote in
    let commas = or_parts (b == 44) (has_comma text) no_comma in
    from_data Bare b (text ++ rest) quotes.0 commas.0 ∙ ap (option_map (with_byte b)) (bare_run text rest quotes.1 commas.1) ∙ onto_step b text (fields_from Bare rest)

bare_start : (text : List ℕ) (rest : Option (List ℕ)) → has_quote text ≡ false → has_comma text ≡ false → fields_from FieldStart (text ++ behind rest) ≡ option_map (onto text) (fields_from Bare (behind rest))
bare_start [] None no_quote no_comma = refl
bare_start [] (Some rest) no_quote no_comma = onto_none (fields_from FieldStart (44 ∷ rest))
bare_start (b ∷ text) rest no_quote no_comma =
    let quotes = or_parts (b == 34) (has_quote text) no_quote in
    let commas = or_parts (b == 44) (has_comma text) no_comma in
    from_data FieldStart b (text ++ behind rest) quotes.0 commas.0 ∙ ap (option_map (with_byte b)) (bare_run text (behind rest) quotes.1 commas.1) ∙ onto_step b text (fields_from Bare (behind rest))

quoted_step : (is : Bool) (b : ℕ) (value rest more : List ℕ) → (is ≡ true → b ≡ 34) → b == 34 ≡ is → fields_from Quoted ((cond is (34 ∷ 34 ∷ []) (b ∷ []) ++ more) ++ rest) ≡ option_map (with_byte b) (fields_from Quoted (more ++ rest))
quoted_step true b value rest more same test = ap (λ (c : ℕ). option_map (with_byte c) (fields_from Quoted (more ++ rest))) (sym (same refl))
quoted_step false b value rest more same test = ap (λ is. cond is (fields_from BehindQuote (more ++ rest)) (option_map (with_byte b) (fields_from Quoted (more ++ rest)))) test

quoted_run : (value rest : List ℕ) → fields_from Quoted (flat_map doubled value ++ 34 ∷ rest) ≡ option_map (onto value) (fields_from BehindQuote rest)
quoted_run [] rest = onto_none (fields_from BehindQuote rest)
quoted_run (b ∷ value) rest =
    quoted_step (b == 34) b value (34 ∷ rest) (flat_map doubled value) (eqb-true b 34) refl
    ∙ ap (option_map (with_byte b)) (quoted_run value rest) ∙ onto_step b value (fields_from BehindQuote rest)

quotes_behind : (rest : Option (List ℕ)) → fields_from BehindQuote (behind rest) ≡ fields_from Bare (behind rest)
quotes_behind None = refl
quotes_behind (Some rest) = refl

field_run : (text value : List ℕ) (rest : Option (List ℕ)) → IsField text value → fields_from FieldStart (text ++ behind rest) ≡ option_map (onto value) (fields_from Bare (behind rest))
field_run text value rest (inl bare) =
    bare_start text rest bare.0 bare.1 ∙ ap (λ (x : List ℕ). option_map (onto x) (fields_from Bare (behind rest))) (sym bare.2)
field_run text value rest (inr is) =
    ap (λ (x : List ℕ). fields_from FieldStart (x ++ behind rest)) is
    ∙ ap (fields_from Quoted) (append_assoc (flat_map doubled value) (34 ∷ []) (behind rest))
    ∙ quoted_run value (behind rest) ∙ ap (option_map (onto value)) (quotes_behind rest)

next_values : (value : List ℕ) (values : List (List ℕ)) (found : Option Found) → option_map all_of found ≡ Some values → option_map all_of (option_map (onto value) (option_map behind_comma found)) ≡ Some (value ∷ values)
next_values value values None is = cc
next_values value values (Some found) is =
    let same : all_of found ≡ values = cc in
    ap (λ (x : List ℕ). Some (x ∷ all_of found)) (append-nil value) ∙ ap (λ (x : List (List ℕ)). Some (value ∷ x)) same

found_all : (line : List ℕ) (values : List (List ℕ)) → AreFields line values → option_map all_of (fields_from FieldStart line) ≡ Some values
found_all line [] are = absurd are
found_all line (value ∷ []) are =
    ap (λ (x : List ℕ). option_map all_of (fields_from FieldStart x)) (sym (append-nil line)) ∙ ap (option_map all_of) (field_run line value None are)
    ∙ ap (λ (x : List ℕ). Some (x ∷ [])) (append-nil value)
found_all line (value ∷ next ∷ values) are =
    ap (λ (x : List ℕ). option_map all_of (fields_from FieldStart x)) are.2 ∙ ap (option_map all_of) (field_run are.0 value (Some are.1) are.3)
    ∙ next_values value (next ∷ values) (fields_from FieldStart are.1) (found_all are.1 (next ∷ values) are.4)

-- a line is cut into its fields
pub fields_are_cut : (line : List ℕ) (values : List (List ℕ)) → AreFields line values → line_fields line ≡ Some values
fields_are_cut line values are = line_found line ∙ found_all line values are
