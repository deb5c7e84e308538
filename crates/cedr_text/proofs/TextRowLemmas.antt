-- How the fields of two texts compare, byte by byte.
use Rattle.std.proofs.Common.{◌≡◌, ℕ, ◌+◌, ◌<◌, ◌≤◌, ◌==◌, List, [], ◌∷◌, Bool, true, false, cond, length, get_or, drop, map, refl, ap, sym, ◌∙◌}
use Rattle.std.specs.declared.cmp.Ordering.TheVariants.{Less, Greater}
use Rattle.std.specs.List.{onto_first}
use Rattle.std.specs.Ordering.{ordering_then}
use Rattle.std.proofs.lemmas.Cmp.{nat_cmp_total, tied_itself}
use Rattle.std.proofs.lemmas.List.{drop_more, drop_all}
use Rattle.cedr_base.specs.declared.field.Field.TheVariants.{Bytes}
use Rattle.cedr_base.specs.Order.{text_cmp, payload_cmp}
use Rattle.cedr_base.specs.Bytes.{comma}
use Rattle.cedr_text.specs.Parts.{fields_of}
use Rattle.cedr_text.specs.TextRows.{texts_of, texts_cmp}
use Rattle.cedr_text.proofs.LineLemmas.{some_at}

-- a text has a first field
pub first_field : (text : List ℕ) → (q : List ℕ) × (qs : List (List ℕ)) × (fields_of text ≡ q ∷ qs)
first_field [] = ([], [], refl)
first_field (b ∷ text) = some_at (b == comma) b (fields_of text)

-- the fields of two texts, of which both begin with the same byte
same_at : (test : Bool) (b : ℕ) (p : List ℕ) (ps : List (List ℕ)) (q : List ℕ) (qs : List (List ℕ)) →
    payload_cmp (map (λ part. Bytes part) (cond test ([] ∷ p ∷ ps) (onto_first b (p ∷ ps)))) (map (λ part. Bytes part) (cond test ([] ∷ q ∷ qs) (onto_first b (q ∷ qs))))
    ≡ payload_cmp (map (λ part. Bytes part) (p ∷ ps)) (map (λ part. Bytes part) (q ∷ qs))
same_at true b p ps q qs = refl
same_at false b p ps q qs =
    ap (λ first. ordering_then (ordering_then first (text_cmp p q)) (payload_cmp (map (λ part. Bytes part) ps) (map (λ part. Bytes part) qs))) (tied_itself nat_cmp_total b)

-- a byte that both begin with decides nothing
pub same_first : (b : ℕ) (text other : List ℕ) → texts_cmp (b ∷ text) (b ∷ other) ≡ texts_cmp text other
same_first b text other =
    let one = first_field text in
    let two = first_field other in
    (λ i. payload_cmp (map (λ part. Bytes part) (cond (b == comma) ([] ∷ one.2 i) (onto_first b (one.2 i)))) (map (λ part. Bytes part) (cond (b == comma) ([] ∷ two.2 i) (onto_first b (two.2 i)))))
    ∙ same_at (b == comma) b one.0 one.1 two.0 two.1
    ∙ (λ i. payload_cmp (map (λ part. Bytes part) (sym one.2 i)) (map (λ part. Bytes part) (sym two.2 i)))

longer_at : (test : Bool) (b : ℕ) (p : List ℕ) (ps : List (List ℕ)) →
    payload_cmp (map (λ part. Bytes part) (cond test ([] ∷ p ∷ ps) (onto_first b (p ∷ ps)))) (texts_of []) ≡ Greater
longer_at true b p ps = refl
longer_at false b p ps = refl

shorter_at : (test : Bool) (b : ℕ) (p : List ℕ) (ps : List (List ℕ)) →
    payload_cmp (texts_of []) (map (λ part. Bytes part) (cond test ([] ∷ p ∷ ps) (onto_first b (p ∷ ps)))) ≡ Less
shorter_at true b p ps = refl
shorter_at false b p ps = refl

longer : (b : ℕ) (text : List ℕ) → texts_cmp (b ∷ text) [] ≡ Greater
longer b text =
    let one = first_field text in
    (λ i. payload_cmp (map (λ part. Bytes part) (cond (b == comma) ([] ∷ one.2 i) (onto_first b (one.2 i)))) (texts_of [])) ∙ longer_at (b == comma) b one.0 one.1

shorter : (b : ℕ) (text : List ℕ) → texts_cmp [] (b ∷ text) ≡ Less
shorter b text =
    let one = first_field text in
    (λ i. payload_cmp (texts_of []) (map (λ part. Bytes part) (cond (b == comma) ([] ∷ one.2 i) (onto_first b (one.2 i))))) ∙ shorter_at (b == comma) b one.0 one.1

-- of two texts that are alike so far, the one that goes on comes second
pub goes_on : (text other : List ℕ) (at : ℕ) → at < length text → length other ≤ at → texts_cmp (drop at text) (drop at other) ≡ Greater
goes_on text other at within beyond =
    ap (λ rest. texts_cmp rest (drop at other)) (drop_more text at 0 within)
    ∙ ap (λ rest. texts_cmp (get_or text at 0 ∷ drop (at + 1) text) rest) (drop_all at other beyond)
    ∙ longer (get_or text at 0) (drop (at + 1) text)

-- of two texts that are alike so far, the one that ends comes first
pub ends : (text other : List ℕ) (at : ℕ) → length text ≤ at → at < length other → texts_cmp (drop at text) (drop at other) ≡ Less
ends text other at beyond within =
    ap (λ rest. texts_cmp rest (drop at other)) (drop_all at text beyond)
    ∙ ap (λ rest. texts_cmp [] rest) (drop_more other at 0 within)
    ∙ shorter (get_or other at 0) (drop (at + 1) other)

-- two texts that have the same byte here compare by what stands after it
pub same_here : (text other : List ℕ) (at byte : ℕ) → at < length text → at < length other → get_or text at 0 ≡ byte → byte ≡ get_or other at byte
    → texts_cmp (drop at text) (drop at other) ≡ texts_cmp (drop (at + 1) text) (drop (at + 1) other)
same_here text other at byte within other_within here there =
    ap (λ rest. texts_cmp rest (drop at other)) (drop_more text at 0 within)
    ∙ ap (λ rest. texts_cmp (get_or text at 0 ∷ drop (at + 1) text) rest) (drop_more other at byte other_within)
    ∙ ap (λ first. texts_cmp (first ∷ drop (at + 1) text) (get_or other at byte ∷ drop (at + 1) other)) here
    ∙ ap (λ first. texts_cmp (byte ∷ drop (at + 1) text) (first ∷ drop (at + 1) other)) (sym there)
    ∙ same_first byte (drop (at + 1) text) (drop (at + 1) other)

first_after_none : (q : List ℕ) (qs : List (List ℕ)) (parts : List (List ℕ)) → parts ≡ q ∷ qs → payload_cmp (map (λ part. Bytes part) parts) [] ≡ Greater
first_after_none q qs parts is = ap (λ parts. payload_cmp (map (λ part. Bytes part) parts) []) is

none_before_first : (q : List ℕ) (qs : List (List ℕ)) (parts : List (List ℕ)) → parts ≡ q ∷ qs → payload_cmp [] (map (λ part. Bytes part) parts) ≡ Less
none_before_first q qs parts is = ap (λ parts. payload_cmp [] (map (λ part. Bytes part) parts)) is

-- a text has a field, and so comes after a payload that has none
pub after_none : (text : List ℕ) → payload_cmp (texts_of text) [] ≡ Greater
after_none text = let one = first_field text in first_after_none one.0 one.1 (fields_of text) one.2

-- a payload that has no field comes before a text
pub none_first : (text : List ℕ) → payload_cmp [] (texts_of text) ≡ Less
none_first text = let one = first_field text in none_before_first one.0 one.1 (fields_of text) one.2
