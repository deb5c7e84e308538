-- Operators that make their rows of one row each keep its key.
use Rattle.std.proofs.Common.{◌≡◌, ℕ, length, List, [], ◌∷◌, ◌++◌, Bool, true, false, cond, refl, ap, sym, ◌∙◌}
use Rattle.std.specs.Prelude.{Option}
use Rattle.std.specs.List.{AllByRecursion}
use Rattle.std.proofs.lemmas.List.Elements.{filter-append}
use Rattle.cedr_base.specs.declared.field.Field.{Field}
use Rattle.cedr_base.specs.declared.interval.Interval.{Interval}
use Rattle.cedr_base.specs.declared.row.Row.{Row}
use Rattle.cedr_expr.specs.declared.test.Test.{Test}
use Rattle.cedr_expr.specs.Tests.{passes}
use Rattle.cedr_table.specs.Operators.{Tables}
use Rattle.cedr_table.specs.RowWise.{row_wise, lives, row_during}
use Rattle.op_row.specs.Rows.{selected}
use Rattle.op_row.specs.Unions.{united, union_of}
use Rattle.op_life.specs.Lifetimes.{with_life}
use Rattle.op_node.specs.Outputs.{handed_on}
use Rattle.plan_keys.specs.Keys.{KeyedPort, IsAnsweredByKey, HaveColumn, FitPorts, row_key, key_part, key_parts}
use Rattle.plan_keys.proofs.Parts.{HaveKey, parted_by_key}

-- an operator whose rows have the key of the row that makes them
pub image_keyed : (image : Row → List Row) (guarantee : ℕ → ℕ) (ports : List KeyedPort) (column : ℕ) → AllByRecursion (λ (p : KeyedPort). (r : Row) → length r.payload ≡ p.width → HaveKey column (row_key p.column r) (image r)) ports
    → IsAnsweredByKey (row_wise image guarantee) ports column
image_keyed image guarantee [] column have mine [] fit = refl
image_keyed image guarantee [] column have mine (t ∷ ts) fit = absurd fit
image_keyed image guarantee (p ∷ ports) column have mine [] fit = absurd fit
image_keyed image guarantee (p ∷ ports) column have mine (t ∷ ts) fit = parted_by_key (λ (r : Row). length r.payload ≡ p.width) (row_key p.column) mine column image image (λ r is h. refl) have.0 t fit.0

-- what holds of each port with the column holds of all of them
each_port : (column : ℕ) (P : KeyedPort → Type 0) (ports : List KeyedPort) → HaveColumn column ports → ((p : KeyedPort) → p.column ≡ column → P p) → AllByRecursion P ports
each_port column P [] have f = tt
each_port column P (p ∷ ports) have f = (f p have.0, each_port column P ports have.1 f)

same_key : (p : KeyedPort) (column : ℕ) (r : Row) → p.column ≡ column → row_key column r ≡ row_key p.column r
same_key p column r e = ap (λ c. row_key c r) (sym e)

selected_key : (p : KeyedPort) (column : ℕ) (r : Row) (b : Bool) → p.column ≡ column → HaveKey column (row_key p.column r) (cond b (r ∷ []) [])
selected_key p column r true e = (same_key p column r e, tt)
selected_key p column r false e = tt

-- selection keeps the key column
pub select_keyed : (tests : List Test) (guarantee : ℕ → ℕ) (ports : List KeyedPort) (column : ℕ) → HaveColumn column ports → IsAnsweredByKey (row_wise (selected tests) guarantee) ports column
select_keyed tests guarantee ports column have =
    image_keyed (selected tests) guarantee ports column (each_port column _ ports have (λ p e r wide. selected_key p column r (passes tests r.payload []) e))

lived_key : (p : KeyedPort) (column : ℕ) (r : Row) (life : Interval) (b : Bool) → p.column ≡ column → HaveKey column (row_key p.column r) (cond b (row_during life r.payload ∷ []) [])
lived_key p column r life true e = (same_key p column r e, tt)
lived_key p column r life false e = tt

-- so does what makes each row's life anew
pub life_keyed : (life : ℕ → ℕ → Interval) (guarantee : ℕ → ℕ) (ports : List KeyedPort) (column : ℕ) → HaveColumn column ports → IsAnsweredByKey (row_wise (with_life life) guarantee) ports column
life_keyed life guarantee ports column have =
    image_keyed (with_life life) guarantee ports column (each_port column _ ports have (λ p e r wide. lived_key p column r (life r.begin r.end) (lives (life r.begin r.end)) e))

united_keyed : (mine : Option Field → Bool) (ports : List KeyedPort) (column : ℕ) (tables : Tables) → HaveColumn column ports → FitPorts ports tables → united (key_parts mine ports tables) ≡ key_part mine column (united tables)
united_keyed mine [] column [] have fit = refl
united_keyed mine [] column (t ∷ ts) have fit = absurd fit
united_keyed mine (p ∷ ports) column [] have fit = absurd fit
united_keyed mine (p ∷ ports) column (t ∷ ts) have fit =
    ap (λ rows. rows ++ united (key_parts mine ports ts)) (ap (λ c. key_part mine c t) have.0)
    ∙ (ap (λ rows. key_part mine column t ++ rows) (united_keyed mine ports column ts have.1 fit.1) ∙ sym (filter-append (λ (r : Row). mine (row_key column r)) t (united ts)))

-- so does a union of ports with one key column
pub union_keyed : (count : ℕ) (ports : List KeyedPort) (column : ℕ) → HaveColumn column ports → IsAnsweredByKey (union_of count) ports column
union_keyed count ports column have mine tables fit = united_keyed mine ports column tables have fit

-- so does an output
pub output_keyed : (ports : List KeyedPort) (column : ℕ) → HaveColumn column ports → IsAnsweredByKey handed_on ports column
output_keyed [] column have mine [] fit = refl
output_keyed [] column have mine (t ∷ ts) fit = absurd fit
output_keyed (p ∷ ports) column have mine [] fit = absurd fit
output_keyed (p ∷ ports) column have mine (t ∷ ts) fit = ap (λ c. key_part mine c t) have.0
