use Rattle.std.proofs.Common.{◌≡◌, List, None, ap, sym, ◌∙◌, subst}
use Rattle.std.specs.Option.{option_or}
use Rattle.std.specs.Ordering.{nat_cmp}
use Rattle.std.specs.Map.{lookup}
use Rattle.std.specs.BTreeMap.{get, is_at}
use Rattle.cedr_guard.specs.declared.ids.IdPlace.{IdPlace}
use Rattle.cedr_guard.specs.Ids.{place_among, AreRising}
use Rattle.cedr_guard.proofs.IdOrder.{placed_places, placed_rising, no_other}
use Rattle.cedr_guard.proofs.ids.Ids.of_events.Goals as goal

pub invariant_of-result-clause-rises : goal.invariant_of-result-clause-rises
invariant_of-result-clause-rises c = subst AreRising (sym c.in_ok-rising.ensures) (placed_rising c.args.events.now c.requires)

pub invariant_of-result-clause-below : goal.invariant_of-result-clause-below
invariant_of-result-clause-below c = λ id below. ap (lookup (is_at (nat_cmp id))) c.new-others.ensures.empty

pub invariant_of-result-clause-apart : goal.invariant_of-result-clause-apart
invariant_of-result-clause-apart c = λ id there. ap (lookup (is_at (nat_cmp id))) c.new-others.ensures.empty

pub returns : goal.returns
returns c = λ id.
    let none : get nat_cmp c.new-others.result id ≡ None = ap (lookup (is_at (nat_cmp id))) c.new-others.ensures.empty in
    ap (λ (entries : List IdPlace). option_or (place_among id entries) (get nat_cmp c.new-others.result id)) c.in_ok-rising.ensures
    ∙ (no_other (place_among id _) (get nat_cmp c.new-others.result id) none ∙ placed_places id c.args.events.now)
