-- Tags of payloads that pass tests together are one.
use Rattle.std.proofs.Common.{◌≡◌, ℕ, ◌+◌, ◌/◌, ◌<◌, List, [], ◌∷◌, ◌++◌, length, take, get_or, true, refl, ap, ◌∙◌}
use Rattle.std.proofs.lemmas.List.{take_more}
use Rattle.cedr_base.specs.declared.field.Field.{Field}
use Rattle.cedr_expr.specs.declared.side.Side.{Side}
use Rattle.cedr_expr.specs.declared.side.Side.TheVariants.{Left, Right}
use Rattle.cedr_expr.specs.declared.test.Test.{Test}
use Rattle.cedr_expr.specs.Tests.{passes}
use Rattle.cedr_expr.specs.Ties.{tied_fields}
use Rattle.cedr_expr.specs.Tags.{mixed, all_mixed, field_mixed, fields_mixed, tag_of}
use Rattle.cedr_expr.proofs.TieLemmas.{tied_more, tied_same}

-- numbers are mixed in one part after the other
all_mixed-append : (h : ℕ) (ms ns : List ℕ) → all_mixed h (ms ++ ns) ≡ all_mixed (all_mixed h ms) ns
all_mixed-append h [] ns = refl
all_mixed-append h (m ∷ ms) ns = all_mixed-append (mixed h m) ms ns

-- one number more is mixed into what is there
pub mixed_more : (h : ℕ) (ns : List ℕ) (i d : ℕ) → i < length ns → all_mixed h (take (i + 1) ns) ≡ mixed (all_mixed h (take i ns)) (get_or ns i d)
mixed_more h ns i d within = ap (all_mixed h) (take_more ns i d within) ∙ all_mixed-append h (take i ns) (get_or ns i d ∷ [])

-- fields are mixed in one part after the other
fields_mixed-append : (h : ℕ) (fs gs : List Field) → fields_mixed h (fs ++ gs) ≡ fields_mixed (fields_mixed h fs) gs
fields_mixed-append h [] gs = refl
fields_mixed-append h (f ∷ fs) gs = fields_mixed-append (field_mixed h f) fs gs

-- the field of one test more is mixed into what is there
pub tied_mixed_more : (h : ℕ) (side : Side) (width : ℕ) (payload : List Field) (tests : List Test) (i : ℕ) (d : Test) → i < length tests
    → fields_mixed h (tied_fields side width payload (take (i + 1) tests)) ≡ fields_mixed (fields_mixed h (tied_fields side width payload (take i tests))) (tied_fields side width payload (get_or tests i d ∷ []))
tied_mixed_more h side width payload tests i d within =
    ap (fields_mixed h) (tied_more side width payload tests i d within)
    ∙ fields_mixed-append h (tied_fields side width payload (take i tests)) (tied_fields side width payload (get_or tests i d ∷ []))

-- a left payload and a right one that pass tests have one tag
pub tag_same : (tests : List Test) (left right : List Field) → passes tests left right ≡ true → tag_of Left (length left) tests left ≡ tag_of Right (length left) tests right
tag_same tests left right h = ap (λ fields. fields_mixed 0 fields / 4 + 1) (tied_same left right tests h)
