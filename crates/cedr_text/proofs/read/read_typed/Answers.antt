use Rattle.std.proofs.Common.{◌≡◌, ◌∙◌, ◌+◌, ◌∷◌, [], sym, ap, drop, get_or, rules}
use Rattle.std.specs.Prelude.{option_map}
use Rattle.std.proofs.lemmas.List.{drop_more, drop_all}
use Rattle.cedr_base.specs.declared.field.FieldType.TheVariants as column
use Rattle.cedr_text.specs.Parts.{parts_of, parts_left}
use Rattle.cedr_text.specs.Reading.{onto, typed_payload, field_value}
use Rattle.cedr_text.proofs.BareLemmas.{first_of}
use Rattle.cedr_text.proofs.TypedLemmas.{onto_next}
use Rattle.cedr_text.proofs.read.read_typed.Goals as goal

pub loop-field_type-preserved : goal.loop-field_type-preserved
loop-field_type-preserved c =
    let types = c.args.types.now in
    let at = c.loop-field_type.field_type-index in
    let type = get_or types at column.Number in
    let read = c.loop-field_type.read in
    let texts = parts_left c.args.separator (option_map (λ text. text.now) c.loop-field_type.rest) in
    let cut = c.in_ok-with_next.ensures in
    let rest = typed_payload (drop (at + 1) types) (parts_left c.args.separator (option_map (λ text. text.now) c.in_ok-with_next.left)) in
    let here : parts_of c.args.separator c.in-Some.bytes.now ≡ texts = search rules in
    ap (λ read. onto read rest) cut.holds
    ∙ onto_next read (field_value type cut.field) rest
    ∙ ap (λ texts. onto read (typed_payload (type ∷ drop (at + 1) types) texts)) (sym cut.parts_are ∙ here)
    ∙ ap (λ types. onto read (typed_payload types texts)) (sym (drop_more types at column.Number c.loop-field_type-test.true))
    ∙ c.loop-field_type.invariant

pub returns-in_default : goal.returns-in_default
returns-in_default c =
    let types = c.args.types.now in
    let at = c.loop-field_type.field_type-index in
    let read = c.loop-field_type.read in
    let texts = parts_left c.args.separator (option_map (λ text. text.now) c.loop-field_type.rest) in
    sym c.loop-field_type.invariant
    ∙ ap (λ types. onto read (typed_payload types texts)) (drop_more types at column.Number c.loop-field_type-test.true)
    ∙ ap (λ rest. onto read (typed_payload (get_or types at column.Number ∷ drop (at + 1) types) (parts_left c.args.separator (option_map (λ text. text.now) rest)))) c.in_default.is

pub returns-in-Some-rest : goal.returns-in-Some-rest
returns-in-Some-rest c =
    let types = c.args.types.now in
    let separator = c.args.separator in
    let read = c.loop-field_type.read in
    let texts = parts_left separator (option_map (λ text. text.now) c.loop-field_type.rest) in
    sym c.loop-field_type.invariant
    ∙ ap (λ types. onto read (typed_payload types texts)) (drop_all c.loop-field_type.field_type-index types c.loop-field_type-test.false)
    ∙ ap (λ rest. onto read (typed_payload [] (parts_left separator (option_map (λ text. text.now) rest)))) c.in-Some-rest.is
    ∙ ap (λ texts. onto read (typed_payload [] texts)) (first_of separator c.in-Some-rest.field-0.now).2
