use Rattle.std.proofs.Common.{◌≡◌, ℕ, List, [], ◌∷◌, ◌++◌, Bool, true, false, cond, Option, None, ap, sym, ◌∙◌, subst}
use Rattle.std.specs.Prelude.{is_none, is_some, is_ok}
use Rattle.std.specs.Option.{option_or}
use Rattle.std.specs.Ordering.{nat_cmp}
use Rattle.std.specs.BTreeMap.{get}
use Rattle.cedr_guard.specs.Ids.{place_among, AreBelow}
use Rattle.cedr_guard.specs.declared.ids.IdPlace.{IdPlace}
use Rattle.cedr_guard.proofs.IdLemmas.{place_among-below, places-push}
use Rattle.cedr_guard.proofs.IdOrder.{apart_push, below_front}
use Rattle.cedr_guard.proofs.ids.Ids.insert.Goals as goal

-- an id above all in the list is in neither
pub returns-then-is_above-clause-new : goal.returns-then-is_above-clause-new
returns-then-is_above-clause-new c =
    let ids = c.args.self.now in
    let above = c.is_above.ensures.0 c.if-is_above.true in
    sym (ap (λ place. is_none (option_or place (get nat_cmp ids.others c.args.id))) (place_among-below c.args.id ids.rising.items above) ∙ ap is_none (ids.below c.args.id above))

pub returns-then-is_above-clause-places : goal.returns-then-is_above-clause-places
returns-then-is_above-clause-places c = λ q.
    let ids = c.args.self.now in
    let above = c.is_above.ensures.0 c.if-is_above.true in
    ap (λ entries. option_or (place_among q entries) (get nat_cmp ids.others q)) c.in_ok-push.ensures.items
    ∙ places-push q ids.rising.items (record { id = c.args.id; place = c.args.place }) (get nat_cmp ids.others) (ids.below c.args.id above)

-- what the list has isn't in the map, also once the id stands in it
apart_after : (ok : Bool) (before after : List IdPlace) (last : IdPlace) (other : ℕ → Option ℕ) → after ≡ cond ok (before ++ last ∷ []) before
    → ((id : ℕ) → is_some (place_among id before) ≡ true → other id ≡ None) → other last.id ≡ None → (id : ℕ) → is_some (place_among id after) ≡ true → other id ≡ None
apart_after true before after last other is apart new id there = apart_push id before last other apart new (ap (λ (entries : List IdPlace). is_some (place_among id entries)) (sym is) ∙ there)
apart_after false before after last other is apart new id there = apart id (ap (λ (entries : List IdPlace). is_some (place_among id entries)) (sym is) ∙ there)

pub invariant_of-self-clause-apart : goal.invariant_of-self-clause-apart
invariant_of-self-clause-apart c =
    let ids = c.args.self.now in
    apart_after (is_ok c.push.result) ids.rising.items c.push.new.self.items (record { id = c.args.id; place = c.args.place }) (get nat_cmp ids.others) c.push.ensures.items ids.apart (ids.below c.args.id (c.is_above.ensures.0 c.if-is_above.true))

-- an id above all of the list once another stands in it was above all before
below_after : (ok : Bool) (before after : List IdPlace) (last : IdPlace) (id : ℕ) → after ≡ cond ok (before ++ last ∷ []) before → AreBelow id after → AreBelow id before
below_after true before after last id is below = below_front id before (last ∷ []) (subst (AreBelow id) is below)
below_after false before after last id is below = subst (AreBelow id) is below

pub invariant_of-self-clause-below : goal.invariant_of-self-clause-below
invariant_of-self-clause-below c = λ id below.
    let ids = c.args.self.now in
    ids.below id (below_after (is_ok c.push.result) ids.rising.items c.push.new.self.items (record { id = c.args.id; place = c.args.place }) id c.push.ensures.items below)
