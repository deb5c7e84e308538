use Rattle.std.proofs.Common.{◌≡◌, ◌∷◌, ◌∙◌, ◌<◌, ℕ, List, [], None, Option, Some, ap, arith, length, rules, set, slice_index_or, subst, sym, true, refl}
use Rattle.std.specs.Prelude.{◌↔◌, ◌≢◌, All, is_some}
use Rattle.std.proofs.lemmas.List.Elements.{All-head, All-tail}
use Rattle.plan_keys.specs.Keys.{AreKeyed, column_at}
use Rattle.plan_key_choice.specs.Choices.{AreInWidths}
use Rattle.plan_key_choice.specs.Partial.{AwaitAll, HasChosen, IsSameChoice, chosen_at, is_among}
use Rattle.plan_key_choice.specs.declared.search.Progress.{Progress}
use Rattle.plan_key_choice.proofs.Chosen.{among_next, awaits_rest, awaits_same, awaits_set, extends_more, extends_same, limited_on, none_there, own_among, same_choice, same_on, some_there, taken_back}
use Rattle.plan_key_choice.proofs.search.+search.Goals as goal
use Rattle.plan_key_choice.proofs.search.+search.Goals.{else-branch-via-then-branch+in_ok-search+else-branch-2, else-branch-via-else-branch}

pub search-requires : goal.search-requires
search-requires t c =
    let choice = c.args.choice.now in
    let place = c.in-Some.place.now in
    let rest = c.in-Some.rest.now in
    let order_is : c.args.order.now ≡ place ∷ rest = search rules in
    let there : chosen_at choice place ≢ None = some_there (chosen_at choice place) (ap is_some (sym c.chosen_at.ensures) ∙ (sym c.is_some.ensures ∙ c.if-is_some.true)) in
    let inside = subst (λ (order : List ℕ). All (λ (at : ℕ). at < length c.args.nodes.now) order) order_is c.requires.inside in
    (search rules, (c.requires.nodes, (c.requires.count, (All-tail (λ (at : ℕ). at < length c.args.nodes.now) place rest inside, (awaits_rest rest choice place there (subst (λ (order : List ℕ). AwaitAll order choice) order_is c.requires.awaited), (c.requires.known, (c.requires.many, c.requires.node)))))))

pub loop-column-init : goal.loop-column-init
loop-column-init t c =
    let place = c.in-Some.place.now in
    let own = c.index-candidates-place.result in
    record {
      same = same_choice c.args.choice.now;
      left = λ columns extends widths keyed.
          subst (λ (items : List ℕ). is_among items (column_at columns place) ≡ true) (sym c.deref-column-items.ensures.value)
          (own_among c.args.candidates.now columns place own (search rules) c.index-candidates-place.is (c.requires.known columns widths keyed));
      node = c.requires.node;
      limited = (λ e. e, λ e. e);
    }

pub search-requires-then-branch : goal.search-requires-then-branch
search-requires-then-branch t c =
    let old = c.args.choice.now in
    let before = c.loop-column.choice in
    let place = c.in-Some.place.now in
    let rest = c.in-Some.rest.now in
    let column = slice_index_or c.deref-column-items.result.now c.loop-column.column-index 0 in
    let order_is : c.args.order.now ≡ place ∷ rest = search rules in
    let inside = subst (λ (order : List ℕ). All (λ (at : ℕ). at < length c.args.nodes.now) order) order_is c.requires.inside in
    let first = All-head (λ (at : ℕ). at < length c.args.nodes.now) place rest inside in
    let within : place < length old = omega (arith, first, c.requires.count) in
    let awaits = awaits_set rest old before place column within c.loop-column.invariant.same (subst (λ (order : List ℕ). AwaitAll order old) order_is c.requires.awaited) in
    (search rules, (c.requires.nodes, (search rules, (All-tail (λ (at : ℕ). at < length c.args.nodes.now) place rest inside, (awaits_same rest c.stands.new.choice (set before place (Some column)) c.in_ok-stands.ensures.same awaits, (c.requires.known, (c.requires.many, search rules)))))))

pub loop-column-preserved : goal.loop-column-preserved
loop-column-preserved t c =
    let nodes = c.args.nodes.now in
    let old = c.args.choice.now in
    let before = c.loop-column.choice in
    let place = c.in-Some.place.now in
    let items = c.deref-column-items.result.now in
    let k = c.loop-column.column-index in
    let column = slice_index_or items k 0 in
    let tried = set before place (Some column) in
    let same = c.loop-column.invariant.same in
    let order_is : c.args.order.now ≡ place ∷ c.in-Some.rest.now = search rules in
    let first = All-head (λ (at : ℕ). at < length nodes) place c.in-Some.rest.now (subst (λ (order : List ℕ). All (λ (at : ℕ). at < length nodes) order) order_is c.requires.inside) in
    let within : place < length old = omega (arith, first, c.requires.count) in
    let free : chosen_at old place ≡ None = none_there (chosen_at old place) (ap is_some (sym c.chosen_at.ensures) ∙ (sym c.is_some.ensures ∙ c.if-is_some.false)) in
    let gone : IsSameChoice c.else-branch.choice tried =
    elim c.else-branch.branch [
      | else-branch-via-then-branch+in_ok-search+else-branch-2 w ↦
          subst (λ (x : List (Option ℕ)). IsSameChoice x tried) (sym w.choice-is) (same_on w.search-then-branch.new.choice c.stands.new.choice tried (w.in_ok-search.ensures.same w.if-branch-2.false) c.in_ok-stands.ensures.same)
      | else-branch-via-else-branch w ↦ subst (λ (x : List (Option ℕ)). IsSameChoice x tried) (sym w.choice-is) c.in_ok-stands.ensures.same
    ] in
    let none : (columns : List ℕ) → HasChosen tried columns → AreInWidths columns nodes → AreKeyed columns [] nodes → ⊥ =
    elim c.else-branch.branch [
      | else-branch-via-then-branch+in_ok-search+else-branch-2 w ↦ λ columns extends. w.in_ok-search.ensures.none w.if-branch-2.false columns (extends_same c.stands.new.choice tried columns c.in_ok-stands.ensures.same extends)
      | else-branch-via-else-branch w ↦ c.in_ok-stands.ensures.none w.if-branch.false
    ] in
    record {
      same = taken_back old before c.else-branch.choice place (Some column) within free same gone;
      left = λ columns extends widths keyed.
          let apart : column ≢ column_at columns place = λ is. none columns (extends_more old before columns place column within same extends (sym is)) widths keyed in
          among_next items k column (column_at columns place) (search rules) (search rules) apart (c.loop-column.invariant.left columns extends widths keyed);
      node = elim c.else-branch.branch [
        | else-branch-via-then-branch+in_ok-search+else-branch-2 w ↦ subst (λ (p : Progress). p.node < length nodes) (sym w.progress-is) w.in_ok-search.ensures.node
        | else-branch-via-else-branch w ↦ subst (λ (p : Progress). p.node < length nodes) (sym w.progress-is) c.in_ok-stands.ensures.node
      ];
      limited =
          let counted = limited_on c.stands.new.progress.tries c.stands.new.progress.tries c.take_try.new.self.tries c.loop-column.progress.tries (λ e. e, λ e. e) c.in_ok-stands.ensures.tries c.in_ok-take_try.ensures.limited in
          let up_to_here = limited_on c.stands.new.progress.tries c.loop-column.progress.tries c.loop-column.progress.tries c.args.progress.now.tries counted refl c.loop-column.invariant.limited in
          elim c.else-branch.branch [
            | else-branch-via-then-branch+in_ok-search+else-branch-2 w ↦
                subst (λ (p : Progress). p.tries ≡ None ↔ c.args.progress.now.tries ≡ None) (sym w.progress-is)
                (limited_on w.search-then-branch.new.progress.tries c.stands.new.progress.tries c.stands.new.progress.tries c.args.progress.now.tries w.in_ok-search.ensures.limited refl up_to_here)
            | else-branch-via-else-branch w ↦ subst (λ (p : Progress). p.tries ≡ None ↔ c.args.progress.now.tries ≡ None) (sym w.progress-is) up_to_here
          ];
    }
