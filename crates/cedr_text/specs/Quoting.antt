-- The fields of a line by the quoting rule of RFC 4180.
use Rattle.std.specs.Prelude.{ℕ, ◌≡◌, ◌==◌, ◌&&◌, ◌⊎◌, ◌++◌, Bool, false, not, List, [], ◌∷◌, Option, None, Some, option_map, if◌then◌else◌}
use Rattle.std.specs.List.{list_any, onto_first}
use Rattle.cedr_text.specs.Texts.{comma, quote, quoted}

-- some byte is a quote
abbrev pub has_quote : List ℕ → Bool
has_quote bytes = list_any (λ b. b == quote) bytes

-- some byte is a comma
abbrev pub has_comma : List ℕ → Bool
has_comma bytes = list_any (λ b. b == comma) bytes

-- the texts of the fields: a line is cut at each comma that an even number of quotes stands before
abbrev pub texts_after : Bool → List ℕ → List (List ℕ)
texts_after odd [] = [] ∷ []
texts_after odd (b ∷ bs) =
    if (b == comma) && not odd then [] ∷ texts_after odd bs
    else onto_first b (texts_after (if b == quote then not odd else odd) bs)

-- the texts of the fields of a whole line, with their quotes
abbrev pub field_texts : List ℕ → List (List ℕ)
field_texts line = texts_after false line

-- what stands before a quote at the end, where every quote before that one stands twice
abbrev pub undoubled : List ℕ → Option (List ℕ)
undoubled [] = None
undoubled (b ∷ []) = if b == quote then Some [] else None
undoubled (b ∷ c ∷ bs) =
    if b == quote then (if c == quote then option_map (λ value. quote ∷ value) (undoubled bs) else None)
    else option_map (λ value. b ∷ value) (undoubled (c ∷ bs))

-- what stands between the quotes of a text that begins with one
abbrev pub unquoted : List ℕ → Option (List ℕ)
unquoted [] = None
unquoted (b ∷ bs) = if b == quote then undoubled bs else None

-- the value of a field: its text as it is where that has no quote
abbrev pub text_value : List ℕ → Option (List ℕ)
text_value text = if has_quote text then unquoted text else Some text

-- one value more in front, where it and all the others are there
abbrev pub in_front : Option (List ℕ) → Option (List (List ℕ)) → Option (List (List ℕ))
in_front (Some value) (Some values) = Some (value ∷ values)
in_front value values = None

-- the values of the texts, where each has one
abbrev pub text_values : List (List ℕ) → Option (List (List ℕ))
text_values [] = Some []
text_values (text ∷ texts) = in_front (text_value text) (text_values texts)

-- the values of a line's fields, or nothing where one of its texts breaks the rule
abbrev pub line_fields : List ℕ → Option (List (List ℕ))
line_fields line = text_values (field_texts line)

-- a field has this text and this value: both are the same without quotes, or the text is the value between quotes
abbrev pub IsField : List ℕ → List ℕ → Type 0
IsField text value = ((has_quote text ≡ false) × (has_comma text ≡ false) × (value ≡ text)) ⊎ (text ≡ quoted value)

-- a line is the texts of fields with these values, with commas between them
abbrev pub AreFields : List ℕ → List (List ℕ) → Type 0
AreFields line [] = ⊥
AreFields line (value ∷ []) = IsField line value
AreFields line (value ∷ next ∷ values) =
    (text : List ℕ) × (rest : List ℕ) × (line ≡ text ++ comma ∷ rest) × IsField text value × AreFields rest (next ∷ values)

-- the bytes of U+FEFF, which the csv reader drops where a text begins with them
abbrev pub byte_order_mark : List ℕ
byte_order_mark = 0xEF ∷ 0xBB ∷ 0xBF ∷ []
