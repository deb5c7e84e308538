-- The rounds in which sources are fed.
use Rattle.std.specs.Prelude.{map, drop}
use Rattle.std.proofs.Common.{◌≡◌, ◌+◌, ℕ, zero, suc, ◌<◌, false, refl, List, [], ◌∷◌, ◌++◌, length, take, ap, sym, ◌∙◌, subst, arith, append-nil}
use Rattle.std.proofs.lemmas.List.{take-append-drop}
use Rattle.std.proofs.Math.Seq.{drop-nil}
use Rattle.cedr_base.specs.declared.change.Message.{Message}
use Rattle.cedr_base.specs.Messages.{IsLegal}
use Rattle.cedr_guard.specs.Messages.{messages_in}
use Rattle.cedr_guard.proofs.LineMessages.{held_append}
use Rattle.node_laws.specs.Lists.{Lists, list_at}
use Rattle.cedr_plan.specs.declared.plan.PlanNode.{PlanNode}
use Rattle.cedr_plan.specs.Places.{is_source}
use Rattle.plan_runs.specs.Runs.{lists_at}
use Rattle.cedr_net.specs.Flows.{reads_of, IsSourceAt}
use Rattle.cedr_net.specs.declared.net.SerialNet.{SerialNet}
use Rattle.cedr_net.specs.Networks.{AllTake, HasSettled}
use Rattle.cedr_net.proofs.RunLemmas.{settled_run}
use Rattle.cedr_net.proofs.SettleLemmas.{grow_along, takes_as}
use Rattle.plan_serial.specs.Rounds.{ByLine, entries_at, IsRound, CameInRounds}
use Rattle.plan_serial.specs.Feeding.{MayBeFed, FeedsEach, StandsAfterRounds, IsSettledAt, behind_first}

-- ---- the entry of a round

take_one : (n : ℕ) (entries : List (List Message)) → take n entries ++ take 1 (drop n entries) ≡ take (suc n) entries
take_one zero entries = refl
take_one (suc n) [] = refl
take_one (suc n) (e ∷ entries) = ap (λ (es : List (List Message)). e ∷ es) (take_one n entries)

drop_one : (n : ℕ) (entries : List (List Message)) → drop 1 (drop n entries) ≡ drop (suc n) entries
drop_one zero entries = refl
drop_one (suc n) [] = refl
drop_one (suc n) (e ∷ entries) = drop_one n entries

more_rounds : (n : ℕ) → suc n ≡ n + 1
more_rounds n = omega arith

behind_at : (left : ByLine) (k : ℕ) → entries_at (map behind_first left) k ≡ behind_first (entries_at left k)
behind_at [] k = refl
behind_at (l ∷ left) zero = refl
behind_at (l ∷ left) (suc k) = behind_at left k

-- where no entry was left before a round, none is left after it
pub none_after : (left left' : ByLine) → left' ≡ map behind_first left → ((k : ℕ) → entries_at left k ≡ []) → (k : ℕ) → entries_at left' k ≡ []
none_after left left' taken none k = ap (λ (ls : ByLine). entries_at ls k) taken ∙ (behind_at left k ∙ ap behind_first (none k))

some_before : (n : ℕ) (entries : List (List Message)) (entry : List Message) (more : List (List Message)) → drop n entries ≡ entry ∷ more → (first : List Message) × (rest : List (List Message)) × (entries ≡ first ∷ rest)
some_before n [] entry more is = absurd (let none = sym (drop-nil n) ∙ is in cc)
some_before n (e ∷ entries) entry more is = (e, entries, refl)

-- ---- what sources gave

-- in so many rounds a source gave the messages of as many entries
pub gave_so_far : (nodes : List PlanNode) (lines : ByLine) (rounds : ℕ) (ports : List Lists) (given : Lists) → CameInRounds nodes lines rounds ports given → (k : ℕ) → k < length nodes → IsSourceAt nodes k
    → list_at given k ≡ messages_in (take rounds (entries_at lines k))
gave_so_far nodes lines zero ports given came k within source = came.1 k
gave_so_far nodes lines (suc rounds) ports given came k within source = came.3.fed k within source ∙ ap (λ (n : ℕ). messages_in (take n (entries_at lines k))) (sym (more_rounds rounds))

module _ (nodes : List PlanNode) (old : SerialNet) (left whole : ByLine) (rounds : ℕ) (s : StandsAfterRounds nodes old left whole rounds) where
  gave : (k : ℕ) → k < length nodes → IsSourceAt nodes k → list_at s.given k ≡ messages_in (take rounds (entries_at whole k))
  gave k within source = gave_so_far nodes whole rounds s.ports s.given s.came k within source

  all_there : (k : ℕ) → k < length nodes → IsSourceAt nodes k → list_at s.given k ++ messages_in (entries_at left k) ≡ messages_in (entries_at whole k)
  all_there k within source =
      ap (λ (ms : List Message). ms ++ messages_in (entries_at left k)) (gave k within source)
      ∙ (ap (λ (es : List (List Message)). messages_in (take rounds (entries_at whole k)) ++ messages_in es) (s.left_are k)
      ∙ (sym (held_append (take rounds (entries_at whole k)) (drop rounds (entries_at whole k))) ∙ ap messages_in (take-append-drop rounds (entries_at whole k))))

  -- after some rounds what is left may be fed
  pub may_be_fed : MayBeFed nodes s.given left
  may_be_fed = record {
    count = s.wide;
    legal = λ k within source. subst IsLegal (sym (all_there k within source)) (s.sources.legal k);
    others = λ k entry more e. let some = some_before rounds (entries_at whole k) entry more (sym (s.left_are k) ∙ e) in s.sources.others k some.0 some.1 some.2;
  }

  -- ---- one round more

  module _ (mid : SerialNet) (left' : ByLine) (f : FeedsEach nodes mid s.ports s.given left left') (taken : left' ≡ map behind_first left) (net : SerialNet) (h : HasSettled nodes net s.ports f.given') where
    fed_now : (k : ℕ) → k < length nodes → IsSourceAt nodes k → list_at h.given' k ≡ messages_in (take (rounds + 1) (entries_at whole k))
    fed_now k within source =
        h.sources k source
        ∙ (f.fed k
        ∙ (ap (λ (ms : List Message). ms ++ messages_in (take 1 (entries_at left k))) (gave k within source)
        ∙ (ap (λ (es : List (List Message)). messages_in (take rounds (entries_at whole k)) ++ messages_in (take 1 es)) (s.left_are k)
        ∙ (sym (held_append (take rounds (entries_at whole k)) (take 1 (drop rounds (entries_at whole k))))
        ∙ ap messages_in (take_one rounds (entries_at whole k) ∙ ap (λ (n : ℕ). take n (entries_at whole k)) (more_rounds rounds))))))

    nothing_fed : (before after : List PlanNode) (n : PlanNode) → nodes ≡ before ++ n ∷ after → is_source n.kind ≡ false → list_at f.given' (length before) ≡ list_at s.given (length before)
    nothing_fed before after n is isnt = f.fed (length before) ∙ (ap (λ (es : List (List Message)). list_at s.given (length before) ++ messages_in (take 1 es)) (none (entries_at left (length before)) refl) ∙ append-nil (list_at s.given (length before))) where
      none : (es : List (List Message)) → entries_at left (length before) ≡ es → entries_at left (length before) ≡ []
      none [] e = e
      none (x ∷ es) e = absurd (let source = may_be_fed.others (length before) x es e before after n is refl in cc)

    takes_now : AllTake nodes (λ k. k < length nodes) s.ports s.given h.ports h.given'
    takes_now before after n is isnt within =
        let k = length before in
        takes_as n (lists_at s.ports k) (lists_at s.ports k) (lists_at h.ports k) (lists_at h.ports k) (list_at f.given' k) (list_at s.given k) (list_at h.given' k) (list_at h.given' k)
        refl (sym (nothing_fed before after n is isnt)) refl refl (h.takes before after n is isnt within)

    round_now : IsRound nodes whole rounds s.ports s.given h.ports h.given'
    round_now = record {
      fed = fed_now;
      takes = takes_now;
      grow = grow_along s.given f.given' h.given' (record { grows = λ k. (messages_in (take 1 (entries_at left k)), f.fed k) }) h.grow;
      run = settled_run nodes (reads_of nodes) net.flow.waiting.items net.flow.works.items h.ports h.given' h.stands.stands.flows h.empty;
    }

    -- the network stands after one round more, and has settled
    pub round_more : StandsAfterRounds nodes net left' whole (rounds + 1) × IsSettledAt nodes net
    round_more = (
      record {
        ports = h.ports;
        given = h.given';
        stands = h.stands;
        sources = s.sources;
        wide = f.may.count;
        left_are = λ k. ap (λ (ls : ByLine). entries_at ls k) taken ∙ (behind_at left k ∙ (ap behind_first (s.left_are k) ∙ (drop_one rounds (entries_at whole k) ∙ ap (λ (n : ℕ). drop n (entries_at whole k)) (more_rounds rounds))));
        came = subst (λ (n : ℕ). CameInRounds nodes whole n h.ports h.given') (more_rounds rounds) (s.ports, s.given, s.came, round_now);
      },
      h.empty,
    )
