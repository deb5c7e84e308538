-- The rows of ports, each of which has its tags.
use Rattle.std.proofs.Common.{◌≡◌, ℕ, zero, suc, ◌<◌, ◌+◌, List, [], ◌∷◌, ◌++◌, length, replicate, get_or, Option, None, refl, ap, sym, ◌∙◌, subst, arith}
use Rattle.std.specs.Prelude.{slice_set}
use Rattle.std.specs.List.{All}
use Rattle.std.proofs.lemmas.List.{map-set, map-append, replicate_more}
use Rattle.std.proofs.lemmas.List.Elements.{All-nil, All-cons, All-head, All-tail, All-append}
use Rattle.cedr_base.specs.declared.field.Field.{Field}
use Rattle.cedr_base.specs.declared.row.Row.{Row}
use Rattle.cedr_base.specs.declared.change.Change.{Change}
use Rattle.cedr_base.specs.Rows.{SameRows}
use Rattle.cedr_base.specs.Changes.{puts, takes}
use Rattle.cedr_table.specs.Operators.{Tables, table_at}
use Rattle.cedr_table.specs.PortLaws.{table_at-with, table_at-with_other}
use Rattle.pat_state.specs.declared.keyed.Keyed.{Keyed}
use Rattle.pat_state.specs.Answers.{IsKeptStep}
use Rattle.pat_state.specs.Starts.{all_endless}
use Rattle.pat_state.specs.Keys.{key_tag}
use Rattle.pat_state.specs.Tags.{IsTagged}
use Rattle.pat_state.specs.Groups.{all_seen, IsKeyed, IsBare}

none_tagged : (tag other : List Field → ℕ) (rows tags : List Row) → rows ≡ [] → IsTagged tag rows tags → IsTagged other rows tags
none_tagged tag other rows tags none was = subst (λ (xs : List Row). IsTagged other xs tags) (sym none) (record { same = (subst (λ (xs : List Row). IsTagged tag xs tags) none was).same })

-- without rows the tags are those of any width and of any column
pub rekeyed : (width width' : ℕ) (column column' : Option ℕ) (ports : List Keyed) → All IsBare ports → All (IsKeyed width column) ports → All (IsKeyed width' column') ports
rekeyed width width' column column' [] none are = All-nil (IsKeyed width' column')
rekeyed width width' column column' (c ∷ cs) none are =
    let was = All-head (IsKeyed width column) c cs are in
    All-cons (IsKeyed width' column') c cs
    (record { tagged = none_tagged (key_tag width column) (key_tag width' column') c.rows c.tags (All-head IsBare c cs none) was.tagged })
    (rekeyed width width' column column' cs (All-tail IsBare c cs none) (All-tail (IsKeyed width column) c cs are))

-- the rows of a port
pub rows_at : (ports : List Keyed) (port : ℕ) (c : Keyed) → port < length ports → c ≡ get_or ports port c → table_at (all_seen None ports) port ≡ c.rows
rows_at [] port c within is = absurd (omega arith)
rows_at (d ∷ ports) zero c within is = ap (λ (e : Keyed). e.rows) (sym is)
rows_at (d ∷ ports) (suc port) c within is = rows_at ports port c (omega arith) is

-- there are as many tables as ports
pub length-seen : (ports : List Keyed) → length (all_seen None ports) ≡ length ports
length-seen [] = refl
length-seen (c ∷ ports) = ap (λ n. suc n) (length-seen ports)

-- a port went through a change
pub port_steps : (ports : List Keyed) (port : ℕ) (c d : Keyed) (change : Change) → port < length ports → c ≡ get_or ports port c → SameRows (d.rows ++ all_endless (takes change)) (c.rows ++ all_endless (puts change))
    → IsKeptStep (all_seen None ports) (all_seen None (slice_set ports port d)) port change
port_steps ports port c d change within is step = record {
  rows = d.rows;
  kept_is = map-set (λ (e : Keyed). e.rows) ports port d;
  step = subst (λ (rows : List Row). SameRows (d.rows ++ all_endless (takes change)) (rows ++ all_endless (puts change))) (sym (rows_at ports port c within is)) step;
}

-- one port more without rows
pub one_more : (ports ports' : List Keyed) (c : Keyed) (n : ℕ) → ports' ≡ ports ++ c ∷ [] → c.rows ≡ [] → all_seen None ports ≡ replicate n [] → all_seen None ports' ≡ replicate (n + 1) []
one_more ports ports' c n is none was =
    ap (all_seen None) is
    ∙ (map-append (λ (e : Keyed). e.rows) ports (c ∷ [])
    ∙ ((λ i. was i ++ none i ∷ []) ∙ replicate_more {X = List Row} n []))

-- what holds of some ports and of one more holds of all of them
pub all_more : (holds : Keyed → Type 0) (ports ports' : List Keyed) (c : Keyed) → ports' ≡ ports ++ c ∷ [] → holds c → All holds ports → All holds ports'
all_more holds ports ports' c is here all = subst (λ (cs : List Keyed). All holds cs) (sym is) (All-append holds ports (c ∷ []) all (All-cons holds c [] here (All-nil holds)))

-- no row is none
pub no_row : (rows : List Row) → length rows ≡ 0 → rows ≡ []
no_row [] none = refl
no_row (r ∷ rows) none = absurd (omega arith)

-- another port's rows stay
pub others_stay : (ports : List Keyed) (port k : ℕ) (c : Keyed) → (k ≡ port → ⊥) → table_at (all_seen None (slice_set ports port c)) k ≡ table_at (all_seen None ports) k
others_stay ports port k c other = ap (λ (ts : Tables). table_at ts k) (map-set (λ (e : Keyed). e.rows) ports port c) ∙ table_at-with_other (all_seen None ports) port k c.rows other

-- what becomes of a port's rows
pub one_forgotten : (f : List Row → List Row) (ports : List Keyed) (port : ℕ) (c : Keyed) (before now : List Row) → port < length ports → now ≡ before → SameRows c.rows (f now) → SameRows (table_at (all_seen None (slice_set ports port c)) port) (f before)
one_forgotten f ports port c before now within is left =
    let here : table_at (all_seen None (slice_set ports port c)) port ≡ c.rows =
    ap (λ (ts : Tables). table_at ts port) (map-set (λ (e : Keyed). e.rows) ports port c) ∙ table_at-with (all_seen None ports) port c.rows (omega (arith, within, length-seen ports)) in
    subst (λ (xs : List Row). SameRows xs (f before)) (sym here) (subst (λ (xs : List Row). SameRows c.rows (f xs)) is left)
