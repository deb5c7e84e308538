-- What is filed, and what a change makes of it.
use Rattle.std.proofs.Common.{◌≡◌, ◌≢◌, ℕ, ◌≤◌, ◌⊎◌, inl, inr, List, [], ◌∷◌, ◌++◌, refl, ap, sym, ◌∙◌, subst, arith, length}
use Rattle.std.specs.List.Sorted.{IsStrictlySortedBy}
use Rattle.std.specs.Map.{keys_of}
use Rattle.std.specs.Ordering.{nat_cmp}
use Rattle.std.proofs.lemmas.Bool.{cases_eq}
use Rattle.cedr_base.specs.declared.field.Field.{Field}
use Rattle.cedr_base.specs.declared.row.Row.{Row}
use Rattle.cedr_base.specs.declared.change.Change.{Change}
use Rattle.cedr_base.specs.declared.change.Change.TheVariants.{Add, Cut}
use Rattle.cedr_base.specs.Rows.{count_of, SameRows}
use Rattle.cedr_base.specs.Changes.{puts, takes, MayFollow, changed_row}
use Rattle.cedr_base.proofs.Bags.{count_of-append}
use Rattle.change_laws.specs.Repairs.{IsMoved}
use Rattle.cedr_table.specs.Counted.{LacksRow}
use Rattle.filed_rows.specs.Filed.{FiledRows, under, all_under, Files}
use Rattle.filed_rows.proofs.FiledLemmas.{files_moved, count_all}

-- what is filed goes through a change as its bag does, with the tag as the code has it
pub files_after : (tag : List Field → ℕ) (c : Change) (t : ℕ) (old new : FiledRows) (table after : List Row) → t ≡ tag (changed_row c).payload → Files tag old table
    → SameRows (under new t ++ takes c) (under old t ++ puts c) → ((q : ℕ) → q ≢ t → under new q ≡ under old q) → IsMoved c table after → Files tag new after
files_after tag c t old new table after is files here others moved =
    subst (λ (k : ℕ). SameRows (under new k ++ takes c) (under old k ++ puts c) → ((q : ℕ) → q ≢ k → under new q ≡ under old q) → Files tag new after) (sym is)
    (λ here_at others_at. files_moved tag c old new table after files here_at others_at moved) here others

-- a row that may be cut is under its tag
pub row_there : (tag : List Field → ℕ) (c : Change) (t : ℕ) (filed : FiledRows) (rows : List Row) → t ≡ tag (changed_row c).payload → Files tag filed rows → MayFollow rows [] c → LacksRow (under filed t) c → ⊥
row_there tag (Add a) t filed rows is files may lacks = lacks
row_there tag (Cut a e) t filed rows is files may lacks =
    let there = may.1 in
    let filed_there = files.there a in
    let at = ap (λ (k : ℕ). count_of a (under filed k)) is in
    omega (arith, lacks, filed_there, at, there)

-- the rows under all tags are those that are filed
pub all_same : (tag : List Field → ℕ) (filed : FiledRows) (rows : List Row) → IsStrictlySortedBy nat_cmp (keys_of filed) → Files tag filed rows → SameRows (all_under filed) rows
all_same tag filed rows sorted files = record { each = λ r. count_all filed sorted (tag r.payload) r (λ q other. files.only q r other) ∙ files.there r }

-- of no row nothing is filed
pub none_filed : (tag : List Field → ℕ) (filed : FiledRows) → ((q : ℕ) → under filed q ≡ []) → Files tag filed []
none_filed tag filed none = record { there = λ r. ap (count_of r) (none (tag r.payload)); only = λ t r apart. ap (count_of r) (none t) }

-- an addition puts a row at a list's end
pub pushed_moves : (rows : List Row) (row : Row) → IsMoved (Add row) rows (rows ++ row ∷ [])
pushed_moves rows row = record { sums = record { each = λ r. omega (arith, count_of-append r (rows ++ row ∷ []) []) } }

none_left : (tag : List Field → ℕ) (filed : FiledRows) (rows : List Row) → length filed ≡ 0 → Files tag filed rows → (r : Row) → count_of r rows ≡ 0
none_left tag [] rows empty files r = sym (files.there r)
none_left tag (e ∷ es) rows empty files r = absurd (omega arith)

-- where nothing is filed, nothing is under other tags
pub filed_anew : (old_tag new_tag : List Field → ℕ) (filed : FiledRows) (rows : List Row) → length filed ≡ 0 → Files old_tag filed rows → Files new_tag filed rows
filed_anew old_tag new_tag [] rows empty files = record { there = λ r. sym (none_left old_tag [] rows empty files r); only = λ q r apart. refl }
filed_anew old_tag new_tag (e ∷ es) rows empty files = absurd (omega arith)

under_at : (tag : List Field → ℕ) (filed : FiledRows) (rows : List Row) (t : ℕ) (r : Row) → Files tag filed rows → (t ≡ tag r.payload) ⊎ (t ≢ tag r.payload) → count_of r (under filed t) ≤ count_of r rows
under_at tag filed rows t r files (inl same) = let there = files.there r in let at = ap (λ (k : ℕ). count_of r (under filed k)) same in omega (arith, there, at)
under_at tag filed rows t r files (inr other) = let nothing = files.only t r other in omega (arith, nothing)

-- no row is under a tag more often than in the bag
pub under_most : (tag : List Field → ℕ) (filed : FiledRows) (rows : List Row) (t : ℕ) (r : Row) → Files tag filed rows → count_of r (under filed t) ≤ count_of r rows
under_most tag filed rows t r files = under_at tag filed rows t r files (cases_eq t (tag r.payload))
