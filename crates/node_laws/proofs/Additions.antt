-- Changes that take nothing back.
use Rattle.std.proofs.Common.{◌≡◌, List, [], ◌∷◌, ◌++◌, map, refl, ap, ◌∙◌, sym}
use Rattle.std.proofs.lemmas.List.{append-nil}
use Rattle.cedr_base.specs.declared.row.Row.{Row}
use Rattle.cedr_base.specs.declared.change.Change.{Change}
use Rattle.cedr_base.specs.declared.change.Change.TheVariants.{Add, Cut}
use Rattle.cedr_base.specs.declared.change.Message.{Message}
use Rattle.cedr_base.specs.Rows.{count_of}
use Rattle.cedr_base.specs.Changes.{all_puts, all_takes}
use Rattle.cedr_base.specs.Messages.{changes_of, IsTableOf}
use Rattle.node_laws.specs.Pass.{added, HasNoCut}

-- they are the additions of the rows that they add
pub only_adds : (cs : List Change) → HasNoCut cs → cs ≡ map (λ (r : Row). Add r) (added cs)
only_adds [] none = refl
only_adds (Add r ∷ cs) none = ap (λ (ds : List Change). Add r ∷ ds) (only_adds cs none)
only_adds (Cut r e ∷ cs) none = absurd none

takes_none : (cs : List Change) → HasNoCut cs → all_takes cs ≡ []
takes_none [] none = refl
takes_none (Add r ∷ cs) none = takes_none cs none
takes_none (Cut r e ∷ cs) none = absurd none

puts_added : (cs : List Change) → HasNoCut cs → all_puts cs ≡ added cs
puts_added [] none = refl
puts_added (Add r ∷ cs) none = ap (λ (rows : List Row). r ∷ rows) (puts_added cs none)
puts_added (Cut r e ∷ cs) none = absurd none

-- and these are the rows of their table
pub added_table : (ms : List Message) (rows : List Row) → IsTableOf ms rows → HasNoCut (changes_of ms) → (r : Row) → count_of r (added (changes_of ms)) ≡ count_of r rows
added_table ms rows table none r =
    ap (λ (xs : List Row). count_of r xs) (sym (puts_added (changes_of ms) none))
    ∙ (sym (table.sums.each r)
    ∙ (ap (λ (xs : List Row). count_of r (rows ++ xs)) (takes_none (changes_of ms) none) ∙ ap (λ (xs : List Row). count_of r xs) (append-nil rows)))
