-- The first field of bytes that an event's line begins with.
use Rattle.std.proofs.Common.{◌≡◌, ℕ, ◌+◌, ◌<◌, inl, inr, List, [], ◌∷◌, ◌++◌, length, take, get_or, Bool, true, false, not, cond, eqb, ◌&&◌, refl, ap, sym, ◌∙◌, subst, append_assoc}
use Rattle.std.specs.List.{flat_map}
use Rattle.std.proofs.lemmas.Bool.{or_parts, and_from, eq-eqb}
use Rattle.std.proofs.lemmas.List.{take_more}
use Rattle.cedr_base.specs.declared.field.Field.{Field}
use Rattle.cedr_base.specs.Bytes.{comma}
use Rattle.cedr_text.specs.Quoting.{has_quote, has_comma, IsField}
use Rattle.cedr_text.specs.Texts.{quote, doubled, quoted, payload_text}
use Rattle.cedr_save.specs.Fronts.{is_quote_open, is_uncut, IsOneField, CutsText}
use Rattle.cedr_save.proofs.ListLemmas.{first_same, rest_same}

-- ---- one byte more

-- what a byte makes of an opened quote
abbrev pub open_after : Bool → ℕ → Bool
open_after opened b = cond (eqb b quote) (not opened) opened

pub open-more : (opened : Bool) (xs : List ℕ) (b : ℕ) → is_quote_open opened (xs ++ b ∷ []) ≡ open_after (is_quote_open opened xs) b
open-more opened [] b = refl
open-more opened (x ∷ xs) b = open-more (open_after opened x) xs b

uncut_parts : (test rest : Bool) → cond test false rest ≡ true → (test ≡ false) × (rest ≡ true)
uncut_parts true rest h = absurd (let e = h in cc)
uncut_parts false rest h = (refl, h)

uncut_from : (test rest : Bool) → test ≡ false → rest ≡ true → cond test false rest ≡ true
uncut_from true rest none h = absurd (let e = none in cc)
uncut_from false rest none h = h

pub uncut-more : (opened : Bool) (xs : List ℕ) (b : ℕ) → is_uncut opened xs ≡ true → (eqb b comma && not (is_quote_open opened xs)) ≡ false → is_uncut opened (xs ++ b ∷ []) ≡ true
uncut-more opened [] b uncut none = uncut_from (eqb b comma && not opened) true none refl
uncut-more opened (x ∷ xs) b uncut none =
    let parts = uncut_parts (eqb x comma && not opened) (is_uncut (open_after opened x) xs) uncut in
    uncut_from (eqb x comma && not opened) (is_uncut (open_after opened x) (xs ++ b ∷ [])) parts.0 (uncut-more (open_after opened x) xs b parts.1 none)

-- so far over a text
pub open_next : (text : List ℕ) (at : ℕ) (opened : Bool) → at < length text → is_quote_open false (take at text) ≡ opened → is_quote_open false (take (at + 1) text) ≡ open_after opened (get_or text at 0)
open_next text at opened within is = ap (is_quote_open false) (take_more text at 0 within) ∙ (open-more false (take at text) (get_or text at 0) ∙ ap (λ (o : Bool). open_after o (get_or text at 0)) is)

pub uncut_next : (text : List ℕ) (at : ℕ) (opened : Bool) → at < length text → is_quote_open false (take at text) ≡ opened → is_uncut false (take at text) ≡ true → (eqb (get_or text at 0) comma && not opened) ≡ false → is_uncut false (take (at + 1) text) ≡ true
uncut_next text at opened within is uncut none =
    ap (is_uncut false) (take_more text at 0 within) ∙ uncut-more false (take at text) (get_or text at 0) uncut (ap (λ (o : Bool). eqb (get_or text at 0) comma && not o) is ∙ none)

pub at_quote : (opened next : Bool) (b : ℕ) → eqb b quote ≡ true → next ≡ not opened → open_after opened b ≡ next
at_quote opened next b is turned = ap (λ (t : Bool). cond t (not opened) opened) is ∙ sym turned

pub at_other : (opened next : Bool) (b : ℕ) → eqb b quote ≡ false → next ≡ opened → open_after opened b ≡ next
at_other opened next b is same = ap (λ (t : Bool). cond t (not opened) opened) is ∙ sym same

pub no_end_open : (opened : Bool) (b : ℕ) → opened ≡ true → (eqb b comma && not opened) ≡ false
no_end_open opened b is = at (eqb b comma) opened is where
  at : (t o : Bool) → o ≡ true → (t && not o) ≡ false
  at true true e = refl
  at false true e = refl
  at t false e = absurd (let no = e in cc)

pub no_end_other : (opened : Bool) (b : ℕ) → eqb b comma ≡ false → (eqb b comma && not opened) ≡ false
no_end_other opened b is = ap (λ (t : Bool). t && not opened) is

-- ---- where the first field ends

-- nothing stands behind a field, or a comma does
abbrev pub IsBehind : List ℕ → Type 0
IsBehind [] = Unit {0}
IsBehind (b ∷ bytes) = b ≡ comma

pub payload_behind : (fields : List Field) → IsBehind (payload_text fields)
payload_behind [] = tt
payload_behind (field ∷ fields) = refl

-- no comma stands where no quote is open
no_comma : (opened : Bool) (b : ℕ) (bs : List ℕ) → b ≡ comma → opened ≡ false → is_uncut opened (b ∷ bs) ≡ true → ⊥
no_comma opened b bs is closed uncut =
    let none = (uncut_parts (eqb b comma && not opened) (is_uncut (open_after opened b) bs) uncut).0 in
    let some = and_from (eqb b comma) (not opened) (eq-eqb b comma is) (ap not closed) in
    let e = sym some ∙ none in cc

uncut_rest : (opened : Bool) (b : ℕ) (bs : List ℕ) → is_uncut opened (b ∷ bs) ≡ true → is_uncut (open_after opened b) bs ≡ true
uncut_rest opened b bs uncut = (uncut_parts (eqb b comma && not opened) (is_uncut (open_after opened b) bs) uncut).1

same_from : (opened : Bool) (xs ys rest tail : List ℕ) → is_uncut opened xs ≡ true → is_quote_open opened xs ≡ false → is_uncut opened ys ≡ true → is_quote_open opened ys ≡ false → IsBehind tail → xs ++ comma ∷ rest ≡ ys ++ tail → (xs ≡ ys) × (comma ∷ rest ≡ tail)
same_from opened [] [] rest tail uncut closed one shut behind h = (refl, h)
same_from opened [] (y ∷ ys) rest tail uncut closed one shut behind h = absurd (no_comma opened y ys (sym (first_same comma y rest (ys ++ tail) h)) closed one)
same_from opened (x ∷ xs) [] rest [] uncut closed one shut behind h = absurd (let e = h in cc)
same_from opened (x ∷ xs) [] rest (t ∷ tail) uncut closed one shut behind h = absurd (no_comma opened x xs (first_same x t (xs ++ comma ∷ rest) tail h ∙ behind) shut uncut)
same_from opened (x ∷ xs) (y ∷ ys) rest tail uncut closed one shut behind h =
    let e = first_same x y (xs ++ comma ∷ rest) (ys ++ tail) h in
    let r = same_from (open_after opened x) xs ys rest tail (uncut_rest opened x xs uncut) closed
    (subst (λ (b : ℕ). is_uncut (open_after opened b) ys ≡ true) (sym e) (uncut_rest opened y ys one)) (subst (λ (b : ℕ). is_quote_open (open_after opened b) ys ≡ false) (sym e) shut) behind
    (rest_same x y (xs ++ comma ∷ rest) (ys ++ tail) h) in
    (ap (λ (b : ℕ). b ∷ xs) e ∙ ap (λ (bs : List ℕ). y ∷ bs) r.0, r.1)

front_from : (opened : Bool) (xs ys more tail : List ℕ) → is_uncut opened xs ≡ true → is_uncut opened ys ≡ true → is_quote_open opened ys ≡ false → IsBehind tail → xs ++ more ≡ ys ++ tail → (rest : List ℕ) × (ys ≡ xs ++ rest)
front_from opened [] ys more tail uncut one shut behind h = (ys, refl)
front_from opened (x ∷ xs) [] more [] uncut one shut behind h = absurd (let e = h in cc)
front_from opened (x ∷ xs) [] more (t ∷ tail) uncut one shut behind h = absurd (no_comma opened x xs (first_same x t (xs ++ more) tail h ∙ behind) shut uncut)
front_from opened (x ∷ xs) (y ∷ ys) more tail uncut one shut behind h =
    let e = first_same x y (xs ++ more) (ys ++ tail) h in
    let r = front_from (open_after opened x) xs ys more tail (uncut_rest opened x xs uncut)
    (subst (λ (b : ℕ). is_uncut (open_after opened b) ys ≡ true) (sym e) (uncut_rest opened y ys one)) (subst (λ (b : ℕ). is_quote_open (open_after opened b) ys ≡ false) (sym e) shut) behind
    (rest_same x y (xs ++ more) (ys ++ tail) h) in
    (r.0, ap (λ (b : ℕ). b ∷ ys) (sym e) ∙ ap (λ (bs : List ℕ). x ∷ bs) r.1)

-- where a comma ends the first field of a text that goes on to a field and what stands behind that, this is the field
pub field_same : (text field rest more one tail : List ℕ) → CutsText text field rest → IsOneField one → IsBehind tail → text ++ more ≡ one ++ tail → (field ≡ one) × (comma ∷ (rest ++ more) ≡ tail)
field_same text field rest more one tail cut is behind h =
    same_from false field one (rest ++ more) tail cut.one.uncut cut.one.closed is.uncut is.closed behind (sym (append_assoc field (comma ∷ rest) more) ∙ (ap (λ (bs : List ℕ). bs ++ more) (sym cut.is) ∙ h))

-- and where no comma does, the field begins with it
pub field_front : (text more one tail : List ℕ) → is_uncut false text ≡ true → IsOneField one → IsBehind tail → text ++ more ≡ one ++ tail → (rest : List ℕ) × (one ≡ text ++ rest)
field_front text more one tail uncut is behind h = front_from false text one more tail uncut is.uncut is.closed behind h

-- ---- texts that are one field

plain_uncut : (is_comma is_quote : Bool) (bs : List ℕ) → is_comma ≡ false → is_quote ≡ false → is_uncut false bs ≡ true → cond (is_comma && true) false (is_uncut (cond is_quote true false) bs) ≡ true
plain_uncut true q bs bare none rest = absurd (let e = bare in cc)
plain_uncut false true bs bare none rest = absurd (let e = none in cc)
plain_uncut false false bs bare none rest = rest

-- bytes without a quote and a comma
pub plain_one : (bytes : List ℕ) → has_quote bytes ≡ false → has_comma bytes ≡ false → IsOneField bytes
plain_one [] bare none = record { uncut = refl; closed = refl }
plain_one (b ∷ bytes) bare none =
    let quotes = or_parts (eqb b quote) (has_quote bytes) bare in
    let commas = or_parts (eqb b comma) (has_comma bytes) none in
    let rest = plain_one bytes quotes.1 commas.1 in
    record {
      uncut = plain_uncut (eqb b comma) (eqb b quote) bytes commas.0 quotes.0 rest.uncut;
      closed = ap (λ (t : Bool). is_quote_open (cond t true false) bytes) quotes.0 ∙ rest.closed;
    }

uncut_open : (is_comma is_quote : Bool) (bs : List ℕ) → is_quote ≡ false → is_uncut true bs ≡ true → cond (is_comma && false) false (is_uncut (cond is_quote false true) bs) ≡ true
uncut_open true true bs none rest = absurd (let e = none in cc)
uncut_open false true bs none rest = absurd (let e = none in cc)
uncut_open true false bs none rest = rest
uncut_open false false bs none rest = rest

-- what stands behind the first quote
record IsInner (bytes : List ℕ) : Type 0 where
  uncut : is_uncut true bytes ≡ true
  closed : is_quote_open true bytes ≡ false

inner_at : (test : Bool) (b : ℕ) (bs : List ℕ) → eqb b quote ≡ test → IsInner (bs ++ quote ∷ []) → IsInner ((cond test (quote ∷ quote ∷ []) (b ∷ []) ++ bs) ++ quote ∷ [])
inner_at true b bs is rest = record { uncut = rest.uncut; closed = rest.closed }
inner_at false b bs is rest = record {
  uncut = uncut_open (eqb b comma) (eqb b quote) (bs ++ quote ∷ []) is rest.uncut;
  closed = ap (λ (t : Bool). is_quote_open (cond t false true) (bs ++ quote ∷ [])) is ∙ rest.closed;
}

inner : (text : List ℕ) → IsInner (flat_map doubled text ++ quote ∷ [])
inner [] = record { uncut = refl; closed = refl }
inner (b ∷ text) = inner_at (eqb b quote) b (flat_map doubled text) refl (inner text)

pub quoted_one : (text : List ℕ) → IsOneField (quoted text)
quoted_one text = let r = inner text in record { uncut = r.uncut; closed = r.closed }

pub field_one : (text value : List ℕ) → IsField text value → IsOneField text
field_one text value (inl plain) = plain_one text plain.0 plain.1
field_one text value (inr is) = subst IsOneField (sym is) (quoted_one value)
