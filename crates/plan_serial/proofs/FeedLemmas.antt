-- Sources that are fed, line by line.
use Rattle.std.specs.Prelude.{◌||◌, map, Option, Some, IfSome, Vec}
use Rattle.std.specs.Global.{Global}
use Rattle.std.proofs.lemmas.Bool.{cases_lt}
use Rattle.std.proofs.Common.{◌≡◌, ◌≢◌, ◌⊎◌, ◌≤◌, ◌+◌, ℕ, zero, suc, ◌<◌, inl, inr, Bool, true, false, refl, List, [], ◌∷◌, ◌++◌, length, take, set, get_or, ap, sym, ◌∙◌, subst, arith, append_assoc, append-nil, get_or-set_same, get_or-set_other}
use Rattle.std.proofs.lemmas.List.{length-set, length-append, set-get_or}
use Rattle.std.proofs.lemmas.List.Sums.{sum_by-cons}
use Rattle.cedr_base.specs.declared.change.Message.{Message}
use Rattle.cedr_base.specs.Messages.{IsLegal}
use Rattle.cedr_guard.specs.Messages.{messages_in}
use Rattle.node_laws.specs.Lists.{Lists, list_at, with_more}
use Rattle.cedr_plan.specs.declared.plan.PlanNode.{PlanNode}
use Rattle.cedr_net.specs.Flows.{IsSourceAt}
use Rattle.cedr_net.specs.declared.net.SerialNet.{SerialNet}
use Rattle.cedr_net.specs.Networks.{NetStands}
use Rattle.node_laws.proofs.ListLemmas.{at_more_other, at_more}
use Rattle.cedr_net.proofs.FlowLemmas.{same_or_not}
use Rattle.cedr_net.proofs.PlaceLemmas.{source_here}
use Rattle.change_laws.proofs.Legal.{legal_first}
use Rattle.cedr_plan.specs.Places.{is_source}
use Rattle.plan_serial.specs.Rounds.{ByLine, entries_at}
use Rattle.plan_serial.specs.Feeding.{MayBeFed, FeedsOne, FeedsEach, behind_first, left_count}

-- ---- one entry fewer

-- one entry fewer is left
pub one_fewer : (left : ByLine) (place : ℕ) (entry : List Message) (more : List (List Message)) → entries_at left place ≡ entry ∷ more → left_count (set left place more) < left_count left
one_fewer [] place entry more front = absurd (let e = ap (λ (es : List (List Message)). length es) front in omega arith)
one_fewer (l ∷ left) zero entry more front = let e = ap (λ (es : List (List Message)). length es) front in omega (arith, e, sum_by-cons (λ (x : List (List Message)). length x) l left, sum_by-cons (λ (x : List (List Message)). length x) more left)
one_fewer (l ∷ left) (suc place) entry more front = omega (arith, one_fewer left place entry more front, sum_by-cons (λ (x : List (List Message)). length x) l left, sum_by-cons (λ (x : List (List Message)). length x) l (set left place more))

-- the first entry and those behind it hold what all hold
pub first_and_behind : (entries : List (List Message)) → messages_in (take 1 entries) ++ messages_in (behind_first entries) ≡ messages_in entries
first_and_behind [] = refl
first_and_behind (entry ∷ entries) = ap (λ (ms : List Message). ms ++ messages_in entries) (append-nil entry)

-- there are no entries behind the last node
pub no_entries : (left : ByLine) (k : ℕ) → length left ≤ k → entries_at left k ≡ []
no_entries [] k past = refl
no_entries (l ∷ left) zero past = absurd (omega arith)
no_entries (l ∷ left) (suc k) past = no_entries left k (omega arith)

-- the node at a place gave what its first entry holds, and the others nothing
module _ (nodes : List PlanNode) (given given' : Lists) (left left' : ByLine) (place : ℕ) (h : MayBeFed nodes given left) (rest : left' ≡ set left place (behind_first (entries_at left place))) (within : place < length nodes)
    (fed : list_at given' place ≡ list_at given place ++ messages_in (take 1 (entries_at left place))) (others : (k : ℕ) → k ≢ place → list_at given' k ≡ list_at given k) where
  other_left : (k : ℕ) → k ≢ place → entries_at left' k ≡ entries_at left k
  other_left k ne = ap (λ (ls : ByLine). entries_at ls k) rest ∙ get_or-set_other left place k (behind_first (entries_at left place)) [] ne

  own_left : entries_at left' place ≡ behind_first (entries_at left place)
  own_left = ap (λ (ls : ByLine). entries_at ls place) rest ∙ get_or-set_same left place (behind_first (entries_at left place)) [] (omega (arith, h.count))

  all_as_before : (k : ℕ) → (k ≡ place) ⊎ (k ≢ place) → list_at given' k ++ messages_in (entries_at left' k) ≡ list_at given k ++ messages_in (entries_at left k)
  all_as_before k (inl e) =
      ap (λ (j : ℕ). list_at given' j ++ messages_in (entries_at left' j)) e
      ∙ (ap (λ (ms : List Message). ms ++ messages_in (entries_at left' place)) fed
      ∙ (ap (λ (es : List (List Message)). (list_at given place ++ messages_in (take 1 (entries_at left place))) ++ messages_in es) own_left
      ∙ (append_assoc (list_at given place) (messages_in (take 1 (entries_at left place))) (messages_in (behind_first (entries_at left place)))
      ∙ (ap (λ (ms : List Message). list_at given place ++ ms) (first_and_behind (entries_at left place)) ∙ ap (λ (j : ℕ). list_at given j ++ messages_in (entries_at left j)) (sym e)))))
  all_as_before k (inr ne) = ap (λ (ms : List Message). ms ++ messages_in (entries_at left' k)) (others k ne) ∙ ap (λ (es : List (List Message)). list_at given k ++ messages_in es) (other_left k ne)

  still_source : (k : ℕ) (entry : List Message) (more : List (List Message)) → entries_at left' k ≡ entry ∷ more → (k ≡ place) ⊎ (k ≢ place) → IsSourceAt nodes k
  still_source k entry more e (inl same) = subst (IsSourceAt nodes) (sym same) (has_some (entries_at left place) refl) where
    here : behind_first (entries_at left place) ≡ entry ∷ more
    here = sym own_left ∙ (ap (entries_at left') (sym same) ∙ e)

    has_some : (es : List (List Message)) → entries_at left place ≡ es → IsSourceAt nodes place
    has_some [] is = absurd (let none = sym (ap behind_first is) ∙ here in cc)
    has_some (x ∷ es) is = h.others place x es is
  still_source k entry more e (inr ne) = h.others k entry more (sym (other_left k ne) ∙ e)

  -- so the rest may be fed
  pub may_still : MayBeFed nodes given' left'
  may_still = record {
    count = ap (λ (ls : ByLine). length ls) rest ∙ (length-set left place (behind_first (entries_at left place)) ∙ h.count);
    legal = λ k inside source. subst IsLegal (sym (all_as_before k (same_or_not k place))) (h.legal k inside source);
    others = λ k entry more e. still_source k entry more e (same_or_not k place);
  }

-- the node at a place was fed the messages of its first entry
module _ (nodes : List PlanNode) (net : SerialNet) (ports : List Lists) (given : Lists) (left left' : ByLine) (place : ℕ) (ms : List Message) (h : MayBeFed nodes given left) (within : place < length nodes)
    (front : entries_at left place ≡ ms ∷ entries_at left' place) (rest : left' ≡ set left place (entries_at left' place)) where
  -- it is a source
  pub next_source : IsSourceAt nodes place
  next_source = h.others place ms (entries_at left' place) front

  -- the messages may come
  pub next_legal : IsLegal (list_at given place ++ ms)
  next_legal =
      let rest = messages_in (entries_at left' place) in
      legal_first [] (list_at given place ++ ms) rest
      (subst IsLegal (ap (λ (es : List (List Message)). list_at given place ++ messages_in es) front ∙ sym (append_assoc (list_at given place) ms rest)) (h.legal place within next_source))

  -- and are fed
  pub fed_line : length given ≡ length nodes → NetStands nodes net ports (with_more given place ms) → FeedsOne nodes net ports given place left left'
  fed_line wide stands =
      let same : left' ≡ set left place (behind_first (entries_at left place)) = rest ∙ ap (set left place) (sym (ap behind_first front)) in
      let own : list_at (with_more given place ms) place ≡ list_at given place ++ messages_in (take 1 (entries_at left place)) =
      at_more given place ms (omega (arith, wide))
      ∙ (ap (λ (xs : List Message). list_at given place ++ xs) (sym (append-nil ms))
      ∙ ap (λ (es : List (List Message)). list_at given place ++ messages_in (take 1 es)) (sym front)) in
      let apart : (k : ℕ) → k ≢ place → list_at (with_more given place ms) k ≡ list_at given k = λ k ne. at_more_other given place k ms ne in
      record {
        given' = with_more given place ms;
        stands = stands;
        may = may_still nodes given (with_more given place ms) left left' place h same within own apart;
        fed = own;
        others = apart;
      }

-- the entry that was taken of the node at a place
pub taken_some : (left now : ByLine) (place : ℕ) (entry : Option (Vec Message Global)) (messages : Vec Message Global) → entry ≡ Some messages → IfSome entry (λ ms. (entries_at left place ≡ ms.items ∷ entries_at now place) × (now ≡ set left place (entries_at now place)))
    → (entries_at left place ≡ messages.items ∷ entries_at now place) × (now ≡ set left place (entries_at now place))
taken_some left now place entry messages is some = subst (λ (e : Option (Vec Message Global)). IfSome e (λ ms. (entries_at left place ≡ ms.items ∷ entries_at now place) × (now ≡ set left place (entries_at now place)))) is some

-- the node at a place has no entry
pub fed_none : (nodes : List PlanNode) (net : SerialNet) (ports : List Lists) (given : Lists) (left left' : ByLine) (place : ℕ) → NetStands nodes net ports given → MayBeFed nodes given left → entries_at left place ≡ [] → left' ≡ left → FeedsOne nodes net ports given place left left'
fed_none nodes net ports given left left' place stands h none same = record {
  given' = given;
  stands = stands;
  may = subst (MayBeFed nodes given) (sym same) h;
  fed = sym (append-nil (list_at given place)) ∙ ap (λ (es : List (List Message)). list_at given place ++ messages_in (take 1 es)) (sym none);
  others = λ k ne. refl;
}

-- ---- a round, source by source

-- the nodes before a place were fed the messages of their first entries
pub record FedUpTo (nodes : List PlanNode) (net : SerialNet) (ports : List Lists) (given : Lists) (left now : ByLine) (place : ℕ) : Type 0 where
  pub given' : Lists
  pub stands : NetStands nodes net ports given'
  pub may : MayBeFed nodes given' now
  pub fed : (k : ℕ) → k < place → list_at given' k ≡ list_at given k ++ messages_in (take 1 (entries_at left k))
  pub rest : (k : ℕ) → place ≤ k → list_at given' k ≡ list_at given k
  pub rest_left : (k : ℕ) → place ≤ k → entries_at now k ≡ entries_at left k

-- one node more was fed
pub fed_further : (nodes : List PlanNode) (net net' : SerialNet) (ports : List Lists) (given : Lists) (left now now' : ByLine) (place : ℕ) → (u : FedUpTo nodes net ports given left now place) → FeedsOne nodes net' ports u.given' place now now'
    → now' ≡ set now place (behind_first (entries_at now place)) → FedUpTo nodes net' ports given left now' (place + 1)
fed_further nodes net net' ports given left now now' place u f taken = record {
  given' = f.given';
  stands = f.stands;
  may = f.may;
  fed = λ k within. elim (cases_lt k place) [
    | inl h ↦ f.others k (λ e. absurd (omega arith)) ∙ u.fed k h
    | inr h ↦
        let here : k ≡ place = omega arith in
        ap (list_at f.given') here
        ∙ (f.fed
        ∙ (ap (λ (ms : List Message). ms ++ messages_in (take 1 (entries_at now place))) (u.rest place (omega arith))
        ∙ (ap (λ (es : List (List Message)). list_at given place ++ messages_in (take 1 es)) (u.rest_left place (omega arith)) ∙ ap (λ (j : ℕ). list_at given j ++ messages_in (take 1 (entries_at left j))) (sym here))))
  ];
  rest = λ k later. f.others k (λ e. absurd (omega arith)) ∙ u.rest k (omega arith);
  rest_left = λ k later. ap (λ (ls : ByLine). entries_at ls k) taken ∙ (get_or-set_other now place k (behind_first (entries_at now place)) [] (λ e. absurd (omega arith)) ∙ u.rest_left k (omega arith));
}

-- all were
pub fed_each : (nodes : List PlanNode) (net : SerialNet) (ports : List Lists) (given : Lists) (left now : ByLine) (place : ℕ) → length left ≡ place → FedUpTo nodes net ports given left now place → FeedsEach nodes net ports given left now
fed_each nodes net ports given left now place all u = record {
  given' = u.given';
  stands = u.stands;
  may = u.may;
  fed = λ k. elim (cases_lt k place) [
    | inl h ↦ u.fed k h
    | inr h ↦ u.rest k h ∙ (sym (append-nil (list_at given k)) ∙ ap (λ (es : List (List Message)). list_at given k ++ messages_in (take 1 es)) (sym (no_entries left k (omega arith))))
  ];
}

-- two nodes may have had an entry, one after the other
pub fed_either : (b c : Bool) (first old new : ByLine) → (b ≡ true → left_count old < left_count first) → (b ≡ false → old ≡ first) → (c ≡ true → left_count new < left_count old) → (c ≡ false → new ≡ old) → b || c ≡ true → left_count new < left_count first
fed_either true true first old new fed still more none e = omega (arith, fed refl, more refl)
fed_either true false first old new fed still more none e = omega (arith, fed refl, ap left_count (none refl))
fed_either false true first old new fed still more none e = omega (arith, ap left_count (still refl), more refl)
fed_either false false first old new fed still more none e = absurd (let x = e in cc)

-- where no node before a place had a message, and the one there has none, all is as before, and no node up to
-- that place has one
pub none_either : (b c : Bool) (first old new : ByLine) (place : ℕ) → (b ≡ false → (old ≡ first) × ((k : ℕ) → k < place → entries_at old k ≡ [])) → (c ≡ false → (entries_at old place ≡ []) × (new ≡ old)) → b || c ≡ false → (new ≡ first) × ((k : ℕ) → k < place + 1 → entries_at new k ≡ [])
none_either true c first old new place still none e = absurd (let x = e in cc)
none_either false true first old new place still none e = absurd (let x = e in cc)
none_either false false first old new place still none e =
    let s = still refl in
    let n = none refl in (
      n.1 ∙ s.0,
      λ k within. ap (λ (ls : ByLine). entries_at ls k) n.1 ∙ elim (cases_lt k place) [
        | inl h ↦ s.1 k h
        | inr h ↦ ap (entries_at old) (let here : k ≡ place = omega arith in here) ∙ n.0
      ],
    )

-- there is no entry behind the last node
pub none_left : (ls : ByLine) (count k : ℕ) → length ls ≤ count → ((j : ℕ) → j < count → entries_at ls j ≡ []) → entries_at ls k ≡ []
none_left ls count k wide none = elim (cases_lt k count) [
  | inl h ↦ none k h
  | inr h ↦ no_entries ls k (omega arith)
]

-- the first lists are without their first entry
pub taken_up_to : ℕ → ByLine → ByLine
taken_up_to zero ls = ls
taken_up_to (suc k) [] = []
taken_up_to (suc k) (l ∷ ls) = behind_first l ∷ taken_up_to k ls

one_taken : (k : ℕ) (ls : ByLine) → set (taken_up_to k ls) k (behind_first (entries_at (taken_up_to k ls) k)) ≡ taken_up_to (suc k) ls
unfolding taken_up_to
one_taken zero [] = refl
one_taken zero (l ∷ ls) = refl
one_taken (suc k) [] = refl
one_taken (suc k) (l ∷ ls) = ap (λ (ms : ByLine). behind_first l ∷ ms) (one_taken k ls)

-- one list more is without its first entry
pub taken_more : (k : ℕ) (ls old new : ByLine) → old ≡ taken_up_to k ls → new ≡ set old k (behind_first (entries_at old k)) → new ≡ taken_up_to (k + 1) ls
taken_more k ls old new before now =
    let next : suc k ≡ k + 1 = omega arith in
    now ∙ (ap (λ (ms : ByLine). set ms k (behind_first (entries_at ms k))) before ∙ (one_taken k ls ∙ ap (λ (n : ℕ). taken_up_to n ls) next))

-- at the start of a round no list is without its first entry
pub taken_none : (ls : ByLine) → ls ≡ taken_up_to 0 ls
unfolding taken_up_to
taken_none ls = refl

all_taken : (ls : ByLine) → taken_up_to (length ls) ls ≡ map behind_first ls
unfolding taken_up_to
all_taken [] = refl
all_taken (l ∷ ls) = ap (λ (ms : ByLine). behind_first l ∷ ms) (all_taken ls)

-- at the end of a round each list is without its first entry
pub taken_all : (k : ℕ) (ls now : ByLine) → k ≡ length ls → now ≡ taken_up_to k ls → now ≡ map behind_first ls
taken_all k ls now end is = is ∙ (ap (λ (n : ℕ). taken_up_to n ls) end ∙ all_taken ls)

-- where an entry of a source was taken, its list is without its first entry
pub one_behind : (old new : ByLine) (k : ℕ) (entry : List Message) → entries_at old k ≡ entry ∷ entries_at new k → new ≡ set old k (entries_at new k) → new ≡ set old k (behind_first (entries_at old k))
one_behind old new k entry front rest = rest ∙ ap (set old k) (sym (ap behind_first front))

-- where a source had no entry, its list is as it was, which is the same without a first entry
pub none_behind : (old new : ByLine) (k : ℕ) → entries_at old k ≡ [] → new ≡ old → new ≡ set old k (behind_first (entries_at old k))
none_behind old new k none same = same ∙ (sym (set-get_or old k []) ∙ ap (set old k) (none ∙ sym (ap behind_first none)))

-- ---- sources, node by node

push_cases : (left : ByLine) (x : List (List Message)) (k : ℕ) (m : List Message) (more : List (List Message)) → entries_at (left ++ x ∷ []) k ≡ m ∷ more → (entries_at left k ≡ m ∷ more) ⊎ ((k ≡ length left) × (x ≡ m ∷ more))
push_cases [] x zero m more e = inr (refl, e)
push_cases [] x (suc k) m more e = cc
push_cases (l ∷ left) x zero m more e = inl e
push_cases (l ∷ left) x (suc k) m more e = elim (push_cases left x k m more e) [
  | inl h ↦ inl h
  | inr h ↦ inr (ap (λ j. suc j) h.0, h.1)
]

legal_push : (left : ByLine) (x : List (List Message)) → ((k : ℕ) → IsLegal (messages_in (entries_at left k))) → IsLegal (messages_in x) → (k : ℕ) → IsLegal (messages_in (entries_at (left ++ x ∷ []) k))
legal_push [] x all one zero = one
legal_push [] x all one (suc k) = tt
legal_push (l ∷ left) x all one zero = all 0
legal_push (l ∷ left) x all one (suc k) = legal_push left x (λ j. all (suc j)) one k

-- the first nodes have entries that may be theirs
pub record SourcesUpTo (nodes : List PlanNode) (place : ℕ) (whole : ByLine) : Type 0 where
  pub count : length whole ≡ place
  pub legal : (k : ℕ) → IsLegal (messages_in (entries_at whole k))
  pub others : (k : ℕ) (m : List Message) (more : List (List Message)) → entries_at whole k ≡ m ∷ more → IsSourceAt nodes k

-- and so has one node more
pub sources_push : (nodes : List PlanNode) (whole : ByLine) (x : List (List Message)) (n : PlanNode) (place : ℕ) → SourcesUpTo nodes place whole → place < length nodes → get_or nodes place n ≡ n → IsLegal (messages_in x) → (is_source n.kind ≡ false → x ≡ []) → SourcesUpTo nodes (place + 1) (whole ++ x ∷ [])
sources_push nodes whole x n place h within here legal none = record {
  count = omega (arith, length-append whole (x ∷ []), h.count);
  legal = legal_push whole x h.legal legal;
  others = λ k m more e. elim (push_cases whole x k m more e) [
    | inl old ↦ h.others k m more old
    | inr new ↦ subst (IsSourceAt nodes) (sym (new.0 ∙ h.count)) (at (is_source n.kind) refl m more new.1)
  ];
} where
  at : (b : Bool) → is_source n.kind ≡ b → (m : List Message) (more : List (List Message)) → x ≡ m ∷ more → IsSourceAt nodes place
  at true is m more e = source_here nodes place n within here is
  at false is m more e = absurd (let z = none is in cc)
