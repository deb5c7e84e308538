use Rattle.std.proofs.Common.{◌≡◌, ◌<◌, ◌∙◌, length, ap, sym, rules}
use Rattle.std.proofs.Common.{Some}
use Rattle.std.specs.List.{slice_get}
use Rattle.cedr_base.proofs.StoredLemmas.{no_codes, first_code}
use Rattle.cedr_base.proofs.field_refs.first_field.Goals as goal

pub returns-then-is_empty : goal.returns-then-is_empty
returns-then-is_empty c = λ fields holds.
    let none : length c.args.bytes.now ≡ 0 = (let test = c.if-is_empty.ensures in search rules) in
    ap (λ fs. slice_get fs 0) (sym (no_codes c.args.bytes.now fields holds none))

pub new-requires : goal.new-requires
new-requires c =
    let some : 0 < length c.args.bytes.now = (let test = c.if-is_empty.ensures in search rules) in
    let found = first_code c.args.bytes.now c.field_len.result c.requires.0 c.requires.1 some c.field_len.ensures.first in
    (found.first, found.this)

pub returns : goal.returns
returns c = λ fields holds.
    let some : 0 < length c.args.bytes.now = (let test = c.if-is_empty.ensures in search rules) in
    let found = first_code c.args.bytes.now c.field_len.result fields holds some c.field_len.ensures.first in
    ap Some (c.new.ensures found.first found.this) ∙ ap (λ fs. slice_get fs 0) (sym found.are)
