-- Numbers and texts whose field begins with some bytes.
use Rattle.std.proofs.Common.{◌≡◌, ◌≢◌, ℕ, zero, suc, ◌-◌, ◌^◌, ◌<◌, ◌≤◌, ◌⊎◌, inl, inr, List, [], ◌∷◌, ◌++◌, length, Bool, true, false, cond, eqb, ◌||◌, refl, ap, sym, ◌∙◌, arith, append_assoc, append-nil, ℤ, pos, negsuc}
use Rattle.std.specs.Prelude.{codes, decimal, nat_eq}
use Rattle.std.specs.Fmt.{signed_decimal}
use Rattle.std.specs.List.{list_any, flat_map, starts_with}
use Rattle.std.proofs.lemmas.Bool.{or_parts, and_from, eqb-true, eq-eqb}
use Rattle.std.proofs.lemmas.Fmt.{decimal_digit}
use Rattle.std.proofs.lemmas.List.Folds.{list_any-append}
use Rattle.cedr_base.specs.declared.field.Field.{Field}
use Rattle.cedr_base.specs.declared.field.Field.TheVariants.{Number, Bytes}
use Rattle.cedr_base.specs.declared.field.FieldType.TheVariants as types
use Rattle.cedr_base.specs.Bytes.{comma}
use Rattle.cedr_text.specs.Texts.{quote, is_special, doubled, quoted, text_text, field_text}
use Rattle.cedr_save.specs.Checkpoints.{IsSmall, ends_line, HasType}
use Rattle.cedr_save.specs.Fronts.{is_quote_open, EndsWell}
use Rattle.cedr_save.proofs.ListLemmas.{first_same, rest_same}
use Rattle.cedr_save.proofs.TextLemmas.{HasNone, none-append, none-cons}
use Rattle.cedr_save.proofs.NumberFronts.{both_none, number_front, digits_some}
use Rattle.cedr_save.proofs.FieldFronts.{open_after, open-more}

-- ---- numbers

-- a number of this type has this text
record IsNumber (text : List ℕ) : Type 0 where
  number : ℤ
  small : IsSmall number
  is : signed_decimal number ≡ text

ends_number : (text rest : List ℕ) → ((z : ℤ) (more : List ℕ) → IsSmall z → text ++ more ≡ signed_decimal z → IsNumber (text ++ rest)) → EndsWell types.Number text rest
ends_number text rest h = λ field more typed is. at field more typed is where
  at : (field : Field) (more : List ℕ) → HasType types.Number field → text ++ more ≡ field_text field → (other : Field) × HasType types.Number other × (field_text other ≡ text ++ rest)
  at (Number z) more typed is = let r = h z more typed is in (Number r.number, r.small, r.is)
  at (Bytes s) more typed is = absurd typed

pub is_nothing : (text : List ℕ) → true ≡ eqb (length text) 0 → text ≡ []
is_nothing [] none = refl
is_nothing (b ∷ text) none = absurd (let e = eqb-true (suc (length text)) 0 (sym none) in omega arith)

-- nought goes on from nothing
pub ends_nothing : (text : List ℕ) → text ≡ [] → EndsWell types.Number text (codes "0")
ends_nothing text none = ends_number text (codes "0") (λ z more small is. record { number = pos 0; small = omega arith; is = decimal_digit 0 (omega arith) ∙ ap (λ (bs : List ℕ). bs ++ codes "0") (sym none) })

-- and minus one from a minus
pub ends_minus : (text : List ℕ) → text ≡ codes "-" → EndsWell types.Number text (codes "1")
ends_minus text minus = ends_number text (codes "1") (λ z more small is. record {
  number = negsuc 0;
  small = omega arith;
  is = ap (λ (ds : List ℕ). 45 ∷ ds) (decimal_digit 1 (omega arith)) ∙ ap (λ (bs : List ℕ). bs ++ codes "1") (sym minus);
})

digits_end : (text more : List ℕ) (n : ℕ) → n < 2 ^ 63 → text ≢ [] → text ++ more ≡ decimal n → IsNumber (text ++ [])
digits_end text more n small some is =
    let d = number_front n (omega arith) text more some (sym is) in
    let fewer = d.low in
    record { number = pos d.number; small = omega arith; is = sym d.is ∙ sym (append-nil text) }

negative_end : (text more : List ℕ) (n : ℕ) → n < 2 ^ 63 → text ≢ [] → text ≢ codes "-" → text ++ more ≡ 45 ∷ decimal (suc n) → IsNumber (text ++ [])
negative_end [] more n small some other is = absurd (some refl)
negative_end (c ∷ text) more n small some other is =
    let minus = first_same c 45 (text ++ more) (decimal (suc n)) is in
    let digits = rest_same c 45 (text ++ more) (decimal (suc n)) is in
    let d = number_front (suc n) (omega arith) text more (λ none. other (ap (λ (b : ℕ). b ∷ text) minus ∙ ap (λ (bs : List ℕ). 45 ∷ bs) none)) (sym digits) in
    let fewer = d.low in
    let least : 1 ≤ d.number = above d.number (λ none. let e = digits_some (suc n) text more d (omega arith) (sym digits) none in omega arith) in
    record {
      number = negsuc (d.number - 1);
      small = omega arith;
      is = ap (λ (k : ℕ). 45 ∷ decimal k) (omega arith)
          ∙ (ap (λ (ds : List ℕ). 45 ∷ ds) (sym d.is) ∙ (ap (λ (b : ℕ). b ∷ text) (sym minus) ∙ sym (append-nil (c ∷ text))));
    } where
      above : (k : ℕ) → (k ≡ 0 → ⊥) → 1 ≤ k
      above zero h = absurd (h refl)
      above (suc k) h = omega arith

-- each other front is a number itself
pub ends_digits : (text : List ℕ) → text ≢ [] → text ≢ codes "-" → EndsWell types.Number text []
ends_digits text some other = ends_number text [] at where
  at : (z : ℤ) (more : List ℕ) → IsSmall z → text ++ more ≡ signed_decimal z → IsNumber (text ++ [])
  at (pos n) more small is = digits_end text more n small some is
  at (negsuc n) more small is = negative_end text more n small some other is

-- ---- texts

ends_text : (text rest : List ℕ) → ((s more : List ℕ) → HasNone ends_line s → text ++ more ≡ text_text s → (t : List ℕ) × HasNone ends_line t × (text_text t ≡ text ++ rest)) → EndsWell types.Bytes text rest
ends_text text rest h = λ field more typed is. at field more typed is where
  at : (field : Field) (more : List ℕ) → HasType types.Bytes field → text ++ more ≡ field_text field → (other : Field) × HasType types.Bytes other × (field_text other ≡ text ++ rest)
  at (Number z) more typed is = absurd typed
  at (Bytes s) more typed is = let r = h s more typed is in (Bytes r.0, r.1, r.2)

-- bytes that don't begin with a quote
abbrev pub IsBare : List ℕ → Type 0
IsBare [] = Unit {0}
IsBare (b ∷ bytes) = b ≢ quote

pub is_bare : (text : List ℕ) → starts_with nat_eq text (codes "\"") ≡ false → IsBare text
is_bare [] none = tt
is_bare (b ∷ text) none = λ is. let some = and_from (eqb quote b) true (eq-eqb quote b (sym is)) refl in let e = sym some ∙ none in cc

-- a bare text is a field's text itself
pub ends_bare : (text : List ℕ) → IsBare text → EndsWell types.Bytes text []
ends_bare text bare = ends_text text [] (λ s more none is. at text s more bare none (list_any is_special s) refl is) where
  front_none : (p : ℕ → Bool) (text more s : List ℕ) → text ++ more ≡ s → HasNone p s → HasNone p text
  front_none p text more s is none = (or_parts (list_any p text) (list_any p more) (sym (list_any-append p text more) ∙ (ap (list_any p) is ∙ none))).0

  at : (text s more : List ℕ) → IsBare text → HasNone ends_line s → (test : Bool) → list_any is_special s ≡ test → text ++ more ≡ cond test (quoted s) s → (t : List ℕ) × HasNone ends_line t × (text_text t ≡ text ++ [])
  at [] s more bare none test special is = ([], refl, refl)
  at (b ∷ text) s more bare none true special is = absurd (bare (first_same b quote (text ++ more) (flat_map doubled s ++ quote ∷ []) is))
  at (b ∷ text) s more bare none false special is =
      let plain = front_none is_special (b ∷ text) more s is special in
      (b ∷ text, front_none ends_line (b ∷ text) more s is none, ap (λ (t : Bool). cond t (quoted (b ∷ text)) (b ∷ text)) plain ∙ sym (append-nil (b ∷ text)))

-- what stands behind the first quote of a front of a quoted text: some text with its quotes twice
record IsInside (bytes : List ℕ) : Type 0 where
  text : List ℕ
  none : HasNone ends_line text
  is : bytes ≡ flat_map doubled text

-- or this and one quote more
record IsClosed (bytes : List ℕ) : Type 0 where
  text : List ℕ
  none : HasNone ends_line text
  is : bytes ≡ flat_map doubled text ++ quote ∷ []

doubled_quote : (b : ℕ) → eqb b quote ≡ true → doubled b ≡ quote ∷ quote ∷ []
doubled_quote b is = ap (λ (t : Bool). cond t (quote ∷ quote ∷ []) (b ∷ [])) is

doubled_other : (b : ℕ) → eqb b quote ≡ false → doubled b ≡ b ∷ []
doubled_other b is = ap (λ (t : Bool). cond t (quote ∷ quote ∷ []) (b ∷ [])) is

-- one byte of the text more
one_inside : (b : ℕ) (front bytes : List ℕ) → ends_line b ≡ false → doubled b ≡ front → IsInside bytes ⊎ IsClosed bytes → IsInside (front ++ bytes) ⊎ IsClosed (front ++ bytes)
one_inside b front bytes none is (inl r) = inl (record { text = b ∷ r.text; none = none-cons ends_line b r.text none r.none; is = ap (λ (bs : List ℕ). bs ++ bytes) (sym is) ∙ ap (λ (bs : List ℕ). doubled b ++ bs) r.is })
one_inside b front bytes none is (inr r) = inr (record {
  text = b ∷ r.text;
  none = none-cons ends_line b r.text none r.none;
  is = ap (λ (bs : List ℕ). bs ++ bytes) (sym is) ∙ (ap (λ (bs : List ℕ). doubled b ++ bs) r.is ∙ sym (append_assoc (doubled b) (flat_map doubled r.text) (quote ∷ [])));
})

inside_at : (b : ℕ) (s : List ℕ) (c : ℕ) (more : List ℕ) (test : Bool) (bytes : List ℕ) → eqb b quote ≡ test → ends_line b ≡ false → ((rest : List ℕ) → rest ++ more ≡ flat_map doubled s ++ quote ∷ [] → IsInside rest ⊎ IsClosed rest)
    → c ∷ (bytes ++ more) ≡ (cond test (quote ∷ quote ∷ []) (b ∷ []) ++ flat_map doubled s) ++ quote ∷ [] → IsInside (c ∷ bytes) ⊎ IsClosed (c ∷ bytes)
inside_at b s c more false bytes test here others h =
    let first = first_same c b (bytes ++ more) (flat_map doubled s ++ quote ∷ []) h in
    one_inside b (c ∷ []) bytes here (doubled_other b test ∙ ap (λ (x : ℕ). x ∷ []) (sym first)) (others bytes (rest_same c b (bytes ++ more) (flat_map doubled s ++ quote ∷ []) h))
inside_at b s c more true [] test here others h = inr (record { text = []; none = refl; is = ap (λ (x : ℕ). x ∷ []) (first_same c quote more (quote ∷ (flat_map doubled s ++ quote ∷ [])) h) })
inside_at b s c more true (d ∷ bytes) test here others h =
    let first = first_same c quote (d ∷ (bytes ++ more)) (quote ∷ (flat_map doubled s ++ quote ∷ [])) h in
    let second = rest_same c quote (d ∷ (bytes ++ more)) (quote ∷ (flat_map doubled s ++ quote ∷ [])) h in
    let next = first_same d quote (bytes ++ more) (flat_map doubled s ++ quote ∷ []) second in
    one_inside b (c ∷ d ∷ []) bytes here (doubled_quote b test ∙ (ap (λ (x : ℕ). x ∷ quote ∷ []) (sym first) ∙ ap (λ (x : ℕ). c ∷ x ∷ []) (sym next)))
    (others bytes (rest_same d quote (bytes ++ more) (flat_map doubled s ++ quote ∷ []) second))

inside : (s bytes more : List ℕ) → HasNone ends_line s → bytes ++ more ≡ flat_map doubled s ++ quote ∷ [] → IsInside bytes ⊎ IsClosed bytes
inside s [] more none is = inl (record { text = []; none = refl; is = refl })
inside [] (c ∷ bytes) more none is =
    let end = both_none bytes more (sym (rest_same c quote (bytes ++ more) [] is)) in
    inr (record { text = []; none = refl; is = ap (λ (b : ℕ). b ∷ bytes) (first_same c quote (bytes ++ more) [] is) ∙ ap (λ (bs : List ℕ). quote ∷ bs) end.0 })
inside (b ∷ s) (c ∷ bytes) more none is =
    let parts = or_parts (ends_line b) (list_any ends_line s) none in
    inside_at b s c more (eqb b quote) bytes refl parts.0 (λ rest h. inside s rest more parts.1 h) is

open_at : (test : Bool) (b : ℕ) (bs : List ℕ) → eqb b quote ≡ test → is_quote_open true bs ≡ true → is_quote_open true (cond test (quote ∷ quote ∷ []) (b ∷ []) ++ bs) ≡ true
open_at true b bs is rest = rest
open_at false b bs is rest = ap (λ (t : Bool). is_quote_open (cond t false true) bs) is ∙ rest

-- within a text the quote is open
inside_open : (text : List ℕ) → is_quote_open true (flat_map doubled text) ≡ true
inside_open [] = refl
inside_open (b ∷ text) = open_at (eqb b quote) b (flat_map doubled text) refl (inside_open text)

closed_shut : (text : List ℕ) → is_quote_open true (flat_map doubled text ++ quote ∷ []) ≡ false
closed_shut text = open-more true (flat_map doubled text) quote ∙ ap (λ (t : Bool). open_after t quote) (inside_open text)

doubled-append : (xs ys : List ℕ) → flat_map doubled (xs ++ ys) ≡ flat_map doubled xs ++ flat_map doubled ys
doubled-append [] ys = refl
doubled-append (x ∷ xs) ys = ap (λ (bs : List ℕ). doubled x ++ bs) (doubled-append xs ys) ∙ sym (append_assoc (doubled x) (flat_map doubled xs) (flat_map doubled ys))

or_true : (b : Bool) → (b || true) ≡ true
or_true true = refl
or_true false = refl

-- a text with a special byte at its end
special_text : (text : List ℕ) (b : ℕ) (written : List ℕ) → is_special b ≡ true → doubled b ≡ written → text_text (text ++ b ∷ []) ≡ quote ∷ (flat_map doubled text ++ (written ++ quote ∷ []))
special_text text b written special is =
    let some : list_any is_special (text ++ b ∷ []) ≡ true = list_any-append is_special text (b ∷ []) ∙ (ap (λ (t : Bool). list_any is_special text || (t || false)) special ∙ or_true (list_any is_special text)) in
    ap (λ (t : Bool). cond t (quoted (text ++ b ∷ [])) (text ++ b ∷ [])) some
    ∙ (ap (λ (bs : List ℕ). quote ∷ (bs ++ quote ∷ [])) (doubled-append text (b ∷ []))
    ∙ (ap (λ (bs : List ℕ). quote ∷ ((flat_map doubled text ++ bs) ++ quote ∷ [])) (append-nil (doubled b) ∙ is)
    ∙ ap (λ (bs : List ℕ). quote ∷ bs) (append_assoc (flat_map doubled text) written (quote ∷ []))))

quoted_front : (s bytes more : List ℕ) → HasNone ends_line s → (test : Bool) → list_any is_special s ≡ test → quote ∷ (bytes ++ more) ≡ cond test (quoted s) s → IsInside bytes ⊎ IsClosed bytes
quoted_front s bytes more none true special is = inside s bytes more none (rest_same quote quote (bytes ++ more) (flat_map doubled s ++ quote ∷ []) is)
quoted_front s bytes more none false special is = absurd (let e : list_any is_special (quote ∷ (bytes ++ more)) ≡ false = ap (list_any is_special) is ∙ special in cc)

-- an opened quote is closed behind a comma
pub ends_open : (text bytes : List ℕ) → text ≡ quote ∷ bytes → is_quote_open false text ≡ true → EndsWell types.Bytes text (codes ",\"")
ends_open text bytes begins opened = ends_text text (codes ",\"") (λ s more none is. at (quoted_front s bytes more none (list_any is_special s) refl (ap (λ (bs : List ℕ). bs ++ more) (sym begins) ∙ is))) where
  at : IsInside bytes ⊎ IsClosed bytes → (t : List ℕ) × HasNone ends_line t × (text_text t ≡ text ++ codes ",\"")
  at (inl r) = (
    r.text ++ comma ∷ [],
    none-append ends_line r.text (comma ∷ []) r.none refl,
    special_text r.text comma (comma ∷ []) refl refl ∙ (ap (λ (bs : List ℕ). quote ∷ (bs ++ codes ",\"")) (sym r.is) ∙ ap (λ (bs : List ℕ). bs ++ codes ",\"") (sym begins)),
  )
  at (inr r) = absurd (let e = sym opened ∙ (ap (is_quote_open false) begins ∙ (ap (is_quote_open true) r.is ∙ closed_shut r.text)) in cc)

-- and a closed one is one of two
pub ends_closed : (text bytes : List ℕ) → text ≡ quote ∷ bytes → is_quote_open false text ≡ false → EndsWell types.Bytes text (codes "\"\"")
ends_closed text bytes begins shut = ends_text text (codes "\"\"") (λ s more none is. at (quoted_front s bytes more none (list_any is_special s) refl (ap (λ (bs : List ℕ). bs ++ more) (sym begins) ∙ is))) where
  at : IsInside bytes ⊎ IsClosed bytes → (t : List ℕ) × HasNone ends_line t × (text_text t ≡ text ++ codes "\"\"")
  at (inl r) = absurd (let e = sym shut ∙ (ap (is_quote_open false) begins ∙ (ap (is_quote_open true) r.is ∙ inside_open r.text)) in cc)
  at (inr r) = (
    r.text ++ quote ∷ [],
    none-append ends_line r.text (quote ∷ []) r.none refl,
    special_text r.text quote (quote ∷ quote ∷ []) refl refl
        ∙ (ap (λ (bs : List ℕ). quote ∷ bs) (sym (append_assoc (flat_map doubled r.text) (quote ∷ []) (quote ∷ quote ∷ [])))
        ∙ (ap (λ (bs : List ℕ). quote ∷ (bs ++ codes "\"\"")) (sym r.is) ∙ ap (λ (bs : List ℕ). bs ++ codes "\"\"") (sym begins))),
  )
