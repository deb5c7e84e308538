-- A line that goes on from some bytes has no line feed.
use Rattle.std.proofs.Common.{◌≡◌, ℕ, ◌^◌, ◌<◌, List, [], ◌∷◌, ◌++◌, eqb, refl}
use Rattle.std.specs.Prelude.{false, decimal}
use Rattle.cedr_base.specs.declared.field.FieldType.{FieldType}
use Rattle.cedr_base.specs.declared.field.FieldType.TheVariants as types
use Rattle.cedr_base.specs.Bytes.{line_feed}
use Rattle.cedr_text.specs.Lines.{has_line_feed}
use Rattle.cedr_save.specs.Checkpoints.{ends_line}
use Rattle.cedr_save.specs.Fronts.{default_field, default_fields}
use Rattle.cedr_save.proofs.TextLemmas.{none-append, digits_none, ends_no_digit, no_ends}

pub whole_append : (xs ys : List ℕ) → has_line_feed xs ≡ false → has_line_feed ys ≡ false → has_line_feed (xs ++ ys) ≡ false
whole_append xs ys none more = none-append (λ b. eqb b line_feed) xs ys none more

pub number_whole : (n : ℕ) → n < 2 ^ 64 → has_line_feed (decimal n) ≡ false
number_whole n fits = (no_ends (decimal n) (digits_none ends_line ends_no_digit n fits)).1

default_whole : (type : FieldType) → has_line_feed (default_field type) ≡ false
default_whole types.Number = refl
default_whole types.Bytes = refl

pub defaults_whole : (fields : List FieldType) → has_line_feed (default_fields fields) ≡ false
defaults_whole [] = refl
defaults_whole (type ∷ fields) = whole_append (default_field type) (default_fields fields) (default_whole type) (defaults_whole fields)
