-- What may be held at a mark doesn't end before it.
use Rattle.std.proofs.Common.{◌≡◌, ℕ, ◌<◌, ◌≤◌, List, [], ◌∷◌, Bool, true, false, refl}
use Rattle.std.specs.Prelude.{nat_le, ◌||◌}
use Rattle.std.specs.List.{list_any}
use Rattle.std.proofs.lemmas.Bool.{and_parts, leb-true}
use Rattle.cedr_base.specs.declared.row.Row.{Row}
use Rattle.op_group.specs.Groups.{Grouping, shows_field, may_be_held, field_may_be_held, group_of}
use Rattle.op_group.proofs.HeldLemmas.{held_ends}

held_at : (g : Grouping) (rows : List Row) (mark : ℕ) (r : Row) (b : Bool) → may_be_held g rows mark r ≡ b → (b || field_may_be_held g rows mark r) ≡ true → r.begin < r.end → mark ≤ r.end
held_at g rows mark r true is h less = held_ends g rows mark r is less
held_at g rows mark r false is h less = leb-true mark r.end (and_parts (nat_le mark r.end) (list_any (shows_field g r) rows) h).0

pub held_late : (g : Grouping) (rows : List Row) (mark : ℕ) (r : Row) → (group_of g).may_hold (rows ∷ []) (mark ∷ []) 0 r ≡ true → r.begin < r.end → mark ≤ r.end
held_late g rows mark r h less = held_at g rows mark r (may_be_held g rows mark r) refl h less
