-- What bags of fields keep depends on the bag of rows alone.
use Rattle.std.proofs.Common.{◌≡◌, ℕ, List, [], ◌∷◌, refl, sym, ◌∙◌, arith}
use Rattle.std.specs.Prelude.{Option, None, Some, sum_by}
use Rattle.std.proofs.lemmas.List.Sums.{sum_by-cons, sum_by-append}
use Rattle.cedr_base.specs.declared.row.Row.{Row}
use Rattle.cedr_living.specs.declared.living.LivingFields.{LivingFields}
use Rattle.op_group.specs.declared.segment.Totalled.{Totalled}
use Rattle.cedr_living.specs.Lives.{Living, SameLives}
use Rattle.cedr_living.specs.BagLaws.{keeps_alike}
use Rattle.op_group.specs.Bags.{BagKeeps, field_lives, indexed, lives_of}
use Rattle.op_group.specs.LawWords.{row_weight}

-- a sum over the fields of rows is one over the rows
pub lives_sum : (asked : Totalled) (w : Living → ℕ) (rows : List Row) → sum_by w (lives_of asked rows) ≡ sum_by (row_weight asked w) rows
lives_sum asked w [] = refl
lives_sum asked w (r ∷ rows) = omega (arith, sum_by-append w (field_lives (indexed asked) r) (lives_of asked rows), sum_by-cons (row_weight asked w) r rows, lives_sum asked w rows)

-- rows over which all sums are the same have the same fields
pub lives_same : (asked : Totalled) (xs ys : List Row) → ((w : Row → ℕ) → sum_by w xs ≡ sum_by w ys) → SameLives (lives_of asked xs) (lives_of asked ys)
lives_same asked xs ys h w = lives_sum asked w xs ∙ (h (row_weight asked w) ∙ sym (lives_sum asked w ys))

-- what is kept of some lives is kept of the same bag of lives
pub bag_alike : (o : Option LivingFields) (passed : ℕ) (lives others : List Living) → SameLives lives others → BagKeeps o passed lives → BagKeeps o passed others
bag_alike None passed lives others same all = λ w early. sym (same w) ∙ all w early
bag_alike (Some bag) passed lives others same h = (keeps_alike bag lives others same h.0, h.1)
