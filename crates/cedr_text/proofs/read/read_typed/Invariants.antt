use Rattle.std.proofs.Common.{◌≡◌, drop}
use Rattle.std.specs.Prelude.{option_map}
use Rattle.cedr_text.specs.Parts.{parts_left}
use Rattle.cedr_text.specs.Reading.{typed_payload, onto}
use Rattle.cedr_text.proofs.read.read_typed.Given as goal

abbrev pub invariant-loop-field_type : goal.invariant-loop-field_type
invariant-loop-field_type l =
    onto l.read (typed_payload (drop l.field_type-index l.types) (parts_left l.separator (option_map (λ text. text.now) l.rest)))
    ≡ typed_payload l.types (parts_left l.separator (option_map (λ text. text.now) l.fn.rest))
