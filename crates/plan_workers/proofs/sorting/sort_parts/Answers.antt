use Rattle.std.proofs.Common.{rules, ◌≡◌, ◌∷◌, ◌++◌, ◌∙◌, List, ap, arith, sym}
use Rattle.std.specs.Prelude.{option_to_list}
use Rattle.std.proofs.lemmas.Grind.{common_steps}
use Rattle.plan_workers.specs.declared.held.HeldWriter.{HeldWriter}
use Rattle.plan_workers.specs.Sortings.{writers_in}
use Rattle.plan_workers.proofs.SortingLemmas.{only_one}
use Rattle.plan_workers.proofs.sorting.sort_parts.Goals as goal

pub loop-part-preserved-in-Some-sort_part : goal.loop-part-preserved-in-Some-sort_part
loop-part-preserved-in-Some-sort_part g c =
    let l = c.loop-part in
    let held = c.in-Some-sort_part.held in
    let rest = c.pop_front.new.self.items in
    let next : l.left.items ≡ c.in-Some.part ∷ rest = search rules in
    let writers = ap writers_in next ∙ ap (λ (ws : List (HeldWriter g.row.R.Denot)). ws ++ writers_in rest) c.in-Some-sort_part.ensures.some in
    record {
      sources = grind (arith, common_steps);
      writer = only_one l.writer held (writers_in rest) (writers_in c.args.parts.items) c.requires.one (ap (λ (ws : List (HeldWriter g.row.R.Denot)). option_to_list l.writer ++ ws) (sym writers) ∙ l.invariant.writer);
      room = search rules;
    }
