use Rattle.std.proofs.Common.{length, ap, ◌∙◌, pos, arith}
use Rattle.std.proofs.lemmas.List.{length-map}
use Rattle.cedr_base.specs.declared.field.Field.TheVariants.{Number}
use Rattle.cedr_expr.specs.Columns.{kept_columns}
use Rattle.cedr_expr.specs.Types.{type_of}
use Rattle.cedr_expr.proofs.KeptLemmas.{kept-map, length-kept}
use Rattle.cedr_expr.proofs.TypeLemmas.{all_like_sides, kept_within}
use Rattle.cedr_expr.proofs.law.types_law.Goals as goal

pub returns-clause-sides : goal.returns-clause-sides
returns-clause-sides c = λ tests left_types right_types left right fits have_left have_right. all_like_sides tests left right (rw (have_left, have_right) fits)

pub returns-clause-kept_types : goal.returns-clause-kept_types
returns-clause-kept_types c = λ columns types fields have. kept-map type_of columns fields ∙ ap (kept_columns columns) have

pub returns-clause-kept_length : goal.returns-clause-kept_length
returns-clause-kept_length c = λ columns types fields fits have. length-kept (Number (pos 0)) columns fields (λ k low. omega (arith, kept_within columns types fits k low, length-map fields type_of, ap length have))
