use Rattle.std.proofs.Common.{◌≡◌, ℕ, List, true, false, sym, ◌∙◌, subst}
use Rattle.std.specs.Ordering.{nat_cmp}
use Rattle.std.specs.Map.{lookup}
use Rattle.std.specs.BTreeMap.{get, is_at}
use Rattle.cedr_base.specs.declared.row.Row.{Row}
use Rattle.open_events.specs.declared.ending.Ending.{Ending}
use Rattle.open_events.proofs.EndingLemmas.{AreEndings, placed, endings_moved, endings_stay, endings_added, endings_undone}
use Rattle.open_events.proofs.events.OpenEvents.put.Goals as goal

-- the same entries have the same rows
same_rows : (old new : List (ℕ × Row)) (endings : List Ending) → new ≡ old → AreEndings endings (λ id. lookup (is_at (nat_cmp id)) old) → AreEndings endings (λ id. lookup (is_at (nat_cmp id)) new)
same_rows old new endings same are = subst (λ (entries : List (ℕ × Row)). AreEndings endings (λ id. lookup (is_at (nat_cmp id)) entries)) (sym same) are

pub invariant_of-self-then-old-end : goal.invariant_of-self-then-old-end
invariant_of-self-then-old-end c =
    let self = c.args.self.now in
    record {
      indexed = endings_moved self.ends.keys c.insert.new.self.keys c.remove.new.self.keys (get nat_cmp self.rows) (get nat_cmp c.insert-2.new.self) c.args.id c.in-Ok-Some.old c.args.row self.indexed
          (placed self.ends.keys c.insert.new.self.keys c.args.row.end c.args.id true c.in_ok-insert.ensures.updates.0)
          (placed c.insert.new.self.keys c.remove.new.self.keys c.in-Ok-Some.old.end c.args.id false c.remove.ensures.updates.0)
          c.in-Ok-Some.ensures.updates.0
          (sym c.in-Ok-Some.ensures.old ∙ c.in-Ok-Some.field-0-is)
          c.if-old-end.true;
    }

pub invariant_of-self-else-old-end : goal.invariant_of-self-else-old-end
invariant_of-self-else-old-end c =
    let self = c.args.self.now in
    record {
      indexed = endings_stay self.ends.keys c.insert.new.self.keys (get nat_cmp self.rows) (get nat_cmp c.insert-2.new.self) c.args.id c.in-Ok-Some.old c.args.row self.indexed
          (placed self.ends.keys c.insert.new.self.keys c.args.row.end c.args.id true c.in_ok-insert.ensures.updates.0)
          c.in-Ok-Some.ensures.updates.0
          (sym c.in-Ok-Some.ensures.old ∙ c.in-Ok-Some.field-0-is)
          c.if-old-end.false;
    }

pub invariant_of-self-in-Ok-None : goal.invariant_of-self-in-Ok-None
invariant_of-self-in-Ok-None c =
    let self = c.args.self.now in
    record {
      indexed = endings_added self.ends.keys c.insert.new.self.keys (get nat_cmp self.rows) (get nat_cmp c.insert-2.new.self) c.args.id c.args.row self.indexed
          (placed self.ends.keys c.insert.new.self.keys c.args.row.end c.args.id true c.in_ok-insert.ensures.updates.0)
          c.in-Ok-None.ensures.updates.0
          (sym c.in-Ok-None.ensures.old ∙ c.in-Ok-None.field-0-is);
    }

pub invariant_of-self-in-Err : goal.invariant_of-self-in-Err
invariant_of-self-in-Err c =
    let self = c.args.self.now in
    let undone = endings_undone self.ends.keys c.insert.new.self.keys c.remove-in-Err.new.self.keys (get nat_cmp self.rows) c.args.id c.args.row.end self.indexed
    (placed self.ends.keys c.insert.new.self.keys c.args.row.end c.args.id true c.in_ok-insert.ensures.updates.0)
    (placed c.insert.new.self.keys c.remove-in-Err.new.self.keys c.args.row.end c.args.id false c.remove-in-Err.ensures.updates.0)
    c.in-Err.ensures.absent in
    record { indexed = same_rows self.rows.entries c.insert-2.new.self.entries c.remove-in-Err.new.self.keys c.in-Err.ensures.err undone }
