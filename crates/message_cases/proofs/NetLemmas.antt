-- What came of the sources of a network that is fed.
use Rattle.std.proofs.Common.{◌≡◌, ◌≢◌, ◌⊎◌, ℕ, zero, suc, ◌<◌, inl, inr, List, [], ◌∷◌, ◌++◌, length, set, get_or, replicate, sym, ◌∙◌, subst, arith, get_or-set_same, get_or-set_other}
use Rattle.std.proofs.lemmas.List.{length-set}
use Rattle.cedr_base.specs.declared.change.Message.{Message}
use Rattle.node_laws.specs.Lists.{Lists, list_at, with_more}
use Rattle.cedr_plan.specs.declared.plan.PlanNode.{PlanNode}
use Rattle.test_feeding.specs.Came.{CameFor}
use Rattle.test_feeding.specs.declared.came.Came.{Came}
use Rattle.cedr_net.specs.declared.net.SerialNet.{SerialNet}
use Rattle.message_cases.specs.FedNets.{NetWasFed}
use Rattle.cedr_net.specs.Flows.{IsSourceAt}
use Rattle.cedr_net.specs.Networks.{NetStands}
use Rattle.cedr_net.proofs.FlowLemmas.{same_or_not}
use Rattle.node_laws.proofs.ListLemmas.{at_more_other, at_more}
use Rattle.cedr_net.proofs.NewLemmas.{no_list}

-- a message came of a source that may come there
module _ (nodes : List PlanNode) (net net' : SerialNet) (came : List Came) (h : NetWasFed nodes net came) (place : ℕ) (m : Message) (within : place < length nodes) (source : IsSourceAt nodes place) (old new : Came) (old_is : get_or came place old ≡ old) where
  pub stood : CameFor old (list_at h.given place)
  stood = subst (λ (c : Came). CameFor c (list_at h.given place)) old_is (h.came_are place old within source)

  came_now : CameFor new (list_at h.given place ++ m ∷ []) → (k : ℕ) (d : Came) → k < length nodes → IsSourceAt nodes k → (k ≡ place) ⊎ (k ≢ place) → CameFor (get_or (set came place new) k d) (list_at (with_more h.given place (m ∷ [])) k)
  came_now stands k d inside is (inl e) =
      subst (λ (j : ℕ). CameFor (get_or (set came place new) j d) (list_at (with_more h.given place (m ∷ [])) j)) (sym e)
      (subst (λ (c : Came). CameFor c (list_at (with_more h.given place (m ∷ [])) place)) (sym (get_or-set_same came place new d (omega (arith, h.count, within))))
      (subst (CameFor new) (sym (at_more h.given place (m ∷ []) (omega (arith, h.stands.stands.flows.given_count, within)))) stands))
  came_now stands k d inside is (inr ne) =
      subst (λ (c : Came). CameFor c (list_at (with_more h.given place (m ∷ [])) k)) (sym (get_or-set_other came place k new d ne))
      (subst (CameFor (get_or came k d)) (sym (at_more_other h.given place k (m ∷ []) ne)) (h.came_are k d inside is))

  pub fed_more : NetStands nodes net' h.ports (with_more h.given place (m ∷ [])) → CameFor new (list_at h.given place ++ m ∷ []) → NetWasFed nodes net' (set came place new)
  fed_more stands now = record {
    ports = h.ports;
    given = with_more h.given place (m ∷ []);
    stands = stands;
    count = length-set came place new ∙ h.count;
    came_are = λ k d inside is. came_now now k d inside is (same_or_not k place);
  }

-- the network went on without its sources
pub fed_still : (nodes : List PlanNode) (net net' : SerialNet) (came : List Came) → (h : NetWasFed nodes net came) → (ports : List Lists) (given : Lists) → NetStands nodes net' ports given → ((k : ℕ) → IsSourceAt nodes k → list_at given k ≡ list_at h.given k) → NetWasFed nodes net' came
fed_still nodes net net' came h ports given stands same = record {
  ports = ports;
  given = given;
  stands = stands;
  count = h.count;
  came_are = λ k d inside is. subst (CameFor (get_or came k d)) (sym (same k is)) (h.came_are k d inside is);
}

none_came : (came : List Came) (count : ℕ) → ((k : ℕ) (d : Came) → k < length came → CameFor (get_or came k d) []) → (k : ℕ) (d : Came) → k < length came → CameFor (get_or came k d) (list_at (replicate count []) k)
none_came came count all k d inside = subst (CameFor (get_or came k d)) (sym (no_list count k)) (all k d inside)

-- nothing came yet
pub fed_none : (nodes : List PlanNode) (net : SerialNet) (came : List Came) (ports : List Lists) → NetStands nodes net ports (replicate (length nodes) []) → length came ≡ length nodes → ((k : ℕ) (d : Came) → k < length came → CameFor (get_or came k d) []) → NetWasFed nodes net came
fed_none nodes net came ports stands count all = record {
  ports = ports;
  given = replicate (length nodes) [];
  stands = stands;
  count = count;
  came_are = λ k d inside is. none_came came (length nodes) all k d (omega (arith, count, inside));
}

-- one place more to which nothing came, where nothing came to the others
pub came_push : (came : List Came) (c : Came) → ((k : ℕ) (d : Came) → k < length came → CameFor (get_or came k d) []) → CameFor c [] → (k : ℕ) (d : Came) → k < length (came ++ c ∷ []) → CameFor (get_or (came ++ c ∷ []) k d) []
came_push [] c all one zero d inside = one
came_push [] c all one (suc k) d inside = absurd (omega arith)
came_push (x ∷ came) c all one zero d inside = all 0 d (omega arith)
came_push (x ∷ came) c all one (suc k) d inside = came_push came c (λ j e within. all (suc j) e (omega arith)) one k d (omega arith)
