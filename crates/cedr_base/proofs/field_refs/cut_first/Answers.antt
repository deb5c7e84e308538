use Rattle.std.proofs.Common.{◌∙◌, ◌∷◌, ap₂, sym}
use Rattle.cedr_base.proofs.StoredLemmas.{first_code}
use Rattle.cedr_base.proofs.field_refs.cut_first.Goals as goal

pub new-first-requires : goal.new-first-requires
new-first-requires c =
    let found = first_code c.args.bytes.now c.field_len-len.result c.requires.codes.0 c.requires.codes.1 c.requires.some c.field_len-len.ensures.first in
    (found.first, found.this)

pub new-others-requires : goal.new-others-requires
new-others-requires c =
    let found = first_code c.args.bytes.now c.field_len-len.result c.requires.codes.0 c.requires.codes.1 c.requires.some c.field_len-len.ensures.first in
    (found.others, found.those)

pub returns : goal.returns
returns c = λ fields holds.
    let found = first_code c.args.bytes.now c.field_len-len.result fields holds c.requires.some c.field_len-len.ensures.first in
    found.are ∙ ap₂ ◌∷◌ (sym (c.new-first.ensures found.first found.this)) (sym (c.new-others.ensures found.others found.those))
