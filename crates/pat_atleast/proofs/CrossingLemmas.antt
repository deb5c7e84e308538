-- The rows of ports of which each has its tags.
use Rattle.std.proofs.Common.{◌≡◌, ℕ, zero, suc, ◌<◌, ◌+◌, List, [], ◌∷◌, ◌++◌, length, replicate, get_or, refl, ap, sym, ◌∙◌, subst, arith}
use Rattle.std.specs.Prelude.{slice_index, slice_set}
use Rattle.std.specs.List.{All}
use Rattle.std.proofs.lemmas.List.{map-set, map-append, replicate_more}
use Rattle.std.proofs.lemmas.List.Elements.{All-nil, All-cons, All-head, All-tail, All-append}
use Rattle.cedr_base.specs.declared.field.Field.{Field}
use Rattle.cedr_base.specs.declared.row.Row.{Row}
use Rattle.cedr_base.specs.declared.change.Change.{Change}
use Rattle.cedr_base.specs.Rows.{SameRows}
use Rattle.cedr_base.specs.Changes.{puts, takes}
use Rattle.cedr_expr.specs.Tags.{left_tag, right_tag}
use Rattle.cedr_expr.specs.declared.test.Test.{Test}
use Rattle.cedr_table.specs.Operators.{Tables, table_at}
use Rattle.cedr_table.specs.PortLaws.{table_at-with, table_at-with_other}
use Rattle.pat_state.specs.declared.crossing.Crossing.{Crossing}
use Rattle.pat_state.specs.Answers.{IsKeptStep}
use Rattle.pat_state.specs.Starts.{all_endless}
use Rattle.pat_state.specs.Steps.{picked, matches}
use Rattle.pat_state.specs.Tags.{IsTagged}
use Rattle.pat_state.specs.Tied.{AreCrossed}
use Rattle.pat_atleast.specs.Crossings.{rows_by_port, HaveNoRow}

-- without rows the tags are those of any width
none_tagged : (tag other : List Field → ℕ) (rows tags : List Row) → rows ≡ [] → IsTagged tag rows tags → IsTagged other rows tags
none_tagged tag other rows tags none was = subst (λ (xs : List Row). IsTagged other xs tags) (sym none) (record { same = (subst (λ (xs : List Row). IsTagged tag xs tags) none was).same })

pub resettled : (width other : ℕ) (tests : List Test) (ports : List Crossing) → All HaveNoRow ports → All (AreCrossed width tests) ports → All (AreCrossed other tests) ports
resettled width other tests [] none are = All-nil (AreCrossed other tests)
resettled width other tests (c ∷ cs) none are =
    let here = All-head HaveNoRow c cs none in
    let was = All-head (AreCrossed width tests) c cs are in
    All-cons (AreCrossed other tests) c cs
    (record {
      first_are = none_tagged (left_tag width tests) (left_tag other tests) c.rows c.first_tags here was.first_are;
      second_are = none_tagged (right_tag width tests) (right_tag other tests) c.rows c.second_tags here was.second_are;
    })
    (resettled width other tests cs (All-tail HaveNoRow c cs none) (All-tail (AreCrossed width tests) c cs are))

-- the rows of a port
pub rows_at : (ports : List Crossing) (port : ℕ) (c : Crossing) → port < length ports → c ≡ get_or ports port c → table_at (rows_by_port ports) port ≡ c.rows
rows_at [] port c within is = absurd (omega arith)
rows_at (d ∷ ports) zero c within is = ap (λ (e : Crossing). e.rows) (sym is)
rows_at (d ∷ ports) (suc port) c within is = rows_at ports port c (omega arith) is

-- there are as many tables as ports
pub length-rows : (ports : List Crossing) → length (rows_by_port ports) ≡ length ports
length-rows [] = refl
length-rows (c ∷ ports) = ap (λ n. suc n) (length-rows ports)

-- a port went through a change
pub crossing_steps : (ports : List Crossing) (port : ℕ) (c d : Crossing) (change : Change) → port < length ports → c ≡ get_or ports port c → SameRows (d.rows ++ all_endless (takes change)) (c.rows ++ all_endless (puts change))
    → IsKeptStep (rows_by_port ports) (rows_by_port (slice_set ports port d)) port change
crossing_steps ports port c d change within is step = record {
  rows = d.rows;
  kept_is = map-set (λ (e : Crossing). e.rows) ports port d;
  step = subst (λ (rows : List Row). SameRows (d.rows ++ all_endless (takes change)) (rows ++ all_endless (puts change))) (sym (rows_at ports port c within is)) step;
}

-- the tables of two ports
two_picked : (order : List ℕ) (ts : Tables) → length order ≡ 2 → picked order ts ≡ table_at ts (slice_index order 0) ∷ table_at ts (slice_index order 1) ∷ []
two_picked [] ts two = absurd (omega arith)
two_picked (a ∷ []) ts two = absurd (omega arith)
two_picked (a ∷ b ∷ []) ts two = refl
two_picked (a ∷ b ∷ c ∷ order) ts two = absurd (omega arith)

-- what is found beside a changed first row, and beside a changed second one
pub found_seconds : (scope : ℕ) (tests : List Test) (x : Row) (order : List ℕ) (changed : ℕ) (ports : List Crossing) (seconds : Crossing) (found : List Row) → length order ≡ 2 → changed ≡ 0 → slice_index order 1 < length ports → seconds ≡ get_or ports (slice_index order 1) seconds
    → ((firsts : List Row) → SameRows found (matches scope tests x 0 (firsts ∷ seconds.rows ∷ []))) → SameRows found (matches scope tests x changed (picked order (rows_by_port ports)))
found_seconds scope tests x order changed ports seconds found two at within is were =
    let firsts = table_at (rows_by_port ports) (slice_index order 0) in
    subst (λ (n : ℕ). SameRows found (matches scope tests x n (picked order (rows_by_port ports)))) (sym at)
    (subst (λ (ts : Tables). SameRows found (matches scope tests x 0 ts)) (ap (λ (rows : List Row). table_at (rows_by_port ports) (slice_index order 0) ∷ rows ∷ []) (sym (rows_at ports (slice_index order 1) seconds within is)) ∙ sym (two_picked order (rows_by_port ports) two)) (were firsts))

pub found_firsts : (scope : ℕ) (tests : List Test) (x : Row) (order : List ℕ) (changed : ℕ) (ports : List Crossing) (firsts : Crossing) (found : List Row) → length order ≡ 2 → changed < 2 → (changed ≡ 0 → ⊥) → slice_index order 0 < length ports → firsts ≡ get_or ports (slice_index order 0) firsts
    → ((seconds : List Row) → SameRows found (matches scope tests x 1 (firsts.rows ∷ seconds ∷ []))) → SameRows found (matches scope tests x changed (picked order (rows_by_port ports)))
found_firsts scope tests x order changed ports firsts found two few other within is were =
    let one : changed ≡ 1 = omega arith in
    let seconds = table_at (rows_by_port ports) (slice_index order 1) in
    subst (λ (n : ℕ). SameRows found (matches scope tests x n (picked order (rows_by_port ports)))) (sym one)
    (subst (λ (ts : Tables). SameRows found (matches scope tests x 1 ts)) (ap (λ (rows : List Row). rows ∷ table_at (rows_by_port ports) (slice_index order 1) ∷ []) (sym (rows_at ports (slice_index order 0) firsts within is)) ∙ sym (two_picked order (rows_by_port ports) two)) (were seconds))

-- one port more without rows
pub one_more : (ports ports' : List Crossing) (c : Crossing) (n : ℕ) → ports' ≡ ports ++ c ∷ [] → c.rows ≡ [] → rows_by_port ports ≡ replicate n [] → rows_by_port ports' ≡ replicate (n + 1) []
one_more ports ports' c n is none was =
    ap rows_by_port is
    ∙ (map-append (λ (e : Crossing). e.rows) ports (c ∷ [])
    ∙ ((λ i. was i ++ none i ∷ []) ∙ replicate_more {X = List Row} n []))

-- what holds of some ports and of one more holds of all of them
pub all_more : (holds : Crossing → Type 0) (ports ports' : List Crossing) (c : Crossing) → ports' ≡ ports ++ c ∷ [] → holds c → All holds ports → All holds ports'
all_more holds ports ports' c is here all = subst (λ (cs : List Crossing). All holds cs) (sym is) (All-append holds ports (c ∷ []) all (All-cons holds c [] here (All-nil holds)))

-- no row is none
pub no_row : (rows : List Row) → length rows ≡ 0 → rows ≡ []
no_row [] none = refl
no_row (r ∷ rows) none = absurd (omega arith)

-- another port's rows stay
pub others_stay : (ports : List Crossing) (port k : ℕ) (c : Crossing) → (k ≡ port → ⊥) → table_at (rows_by_port (slice_set ports port c)) k ≡ table_at (rows_by_port ports) k
others_stay ports port k c other = ap (λ (ts : Tables). table_at ts k) (map-set (λ (e : Crossing). e.rows) ports port c) ∙ table_at-with_other (rows_by_port ports) port k c.rows other

-- what becomes of a port's rows
pub one_forgotten : (f : List Row → List Row) (ports : List Crossing) (port : ℕ) (c : Crossing) (before now : List Row) → port < length ports → now ≡ before → SameRows c.rows (f now) → SameRows (table_at (rows_by_port (slice_set ports port c)) port) (f before)
one_forgotten f ports port c before now within is left =
    let here : table_at (rows_by_port (slice_set ports port c)) port ≡ c.rows =
    ap (λ (ts : Tables). table_at ts port) (map-set (λ (e : Crossing). e.rows) ports port c) ∙ table_at-with (rows_by_port ports) port c.rows (omega (arith, within, length-rows ports)) in
    subst (λ (xs : List Row). SameRows xs (f before)) (sym here) (subst (λ (xs : List Row). SameRows c.rows (f xs)) is left)
