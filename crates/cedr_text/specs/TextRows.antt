-- Payloads that stand as text in a line without quotes.
use Rattle.std.specs.Prelude.{ℕ, List, [], map, Option, None, Some}
use Rattle.std.specs.declared.cmp.Ordering.{Ordering}
use Rattle.cedr_base.specs.Order.{payload_cmp}
use Rattle.cedr_base.specs.declared.field.Field.{Field}
use Rattle.cedr_base.specs.declared.field.Field.TheVariants.{Bytes}
use Rattle.cedr_text.specs.Parts.{fields_of}

-- the fields between the commas of a text
abbrev pub texts_of : List ℕ → List Field
texts_of text = map (λ part. Bytes part) (fields_of text)

-- what stands after the times of a line: no field where there is no text, and else one at least
abbrev pub bare_fields : Option (List ℕ) → List Field
bare_fields None = []
bare_fields (Some text) = texts_of text

-- how the fields of two texts compare
abbrev pub texts_cmp : List ℕ → List ℕ → Ordering
texts_cmp text other = payload_cmp (texts_of text) (texts_of other)
