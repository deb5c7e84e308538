-- A network to which the messages of a part are fed, source by source and round by round.
use Rattle.std.proofs.Common.{◌≡◌, ℕ, ◌+◌, ◌<◌, ◌≤◌, inl, inr, List, [], ◌++◌, true, false, ap, sym, ◌∙◌, subst, arith, length, get_or}
use Rattle.std.specs.Prelude.{Option, Bool, take, map, replicate}
use Rattle.std.proofs.lemmas.Bool.{cases_lt, true≢false}
use Rattle.std.proofs.lemmas.List.{take_all, get_or_default}
use Rattle.cedr_base.specs.declared.field.Field.{Field}
use Rattle.cedr_base.specs.declared.change.Message.{Message}
use Rattle.cedr_plan.specs.declared.plan.PlanNode.{PlanNode}
use Rattle.cedr_net.specs.declared.net.SerialNet.{SerialNet}
use Rattle.cedr_net.specs.Flows.{IsSourceAt, no_ports}
use Rattle.cedr_net.specs.Networks.{NetStands, HasSettled}
use Rattle.cedr_net.proofs.NewLemmas.{no_list}
use Rattle.cedr_net.proofs.PlaceLemmas.{source_here}
use Rattle.cedr_base.specs.Messages.{IsLegal}
use Rattle.cedr_plan.specs.Places.{is_source}
use Rattle.plan_answer.proofs.TextLemmas.{node_there}
use Rattle.plan_runs.proofs.PlanNodes.{split}
use Rattle.node_laws.specs.Lists.{Lists, list_at, with_more}
use Rattle.node_laws.proofs.ListLemmas.{at_more, at_more_other}
use Rattle.plan_keys.specs.Keys.{column_at}
use Rattle.plan_parts.specs.Parts.{AreLists, list_part}
use Rattle.plan_parts.specs.Feeds.{IsFedFirst, IsFedWhole}
use Rattle.plan_parts.proofs.PartLemmas.{legal_part}
use Rattle.plan_parts.proofs.ListLemmas.{part-append, next_legal}

-- the sources before a place gave what goes to the part of so many messages, and the others of fewer
pub record IsFedUpTo (nodes : List PlanNode) (net : SerialNet) (mine : Option Field → Bool) (columns : List ℕ) (lists : Lists) (place from until : ℕ) : Type 0 where
  pub ports : List Lists
  pub given : Lists
  pub stands : NetStands nodes net ports given
  pub done : (k : ℕ) → k < place → k < length nodes → IsSourceAt nodes k → list_at given k ≡ list_part mine (column_at columns k) (take until (list_at lists k))
  pub left : (k : ℕ) → place ≤ k → k < length nodes → IsSourceAt nodes k → list_at given k ≡ list_part mine (column_at columns k) (take from (list_at lists k))

-- a node that is no source doesn't stand at the place of one
pub no_source : (nodes : List PlanNode) (place : ℕ) (n : PlanNode) → place < length nodes → n ≡ get_or nodes place n → is_source n.kind ≡ false → IsSourceAt nodes place → ⊥
no_source nodes place n within here isnt source =
    let s = split nodes place within in
    let same : n ≡ s.node = here ∙ node_there nodes s.before s.after s.node n place s.whole s.place in
    true≢false (sym (source s.before s.after s.node s.whole s.place) ∙ (sym (ap (λ (m : PlanNode). is_source m.kind) same) ∙ isnt))

-- the next messages of the source at a place, and that what goes to the part of them may come
pub record AreNext (nodes : List PlanNode) (mine : Option Field → Bool) (columns : List ℕ) (lists given : Lists) (place from until : ℕ) (chunk : List Message) : Type 0 where
  pub source : IsSourceAt nodes place
  pub next : take from (list_at lists place) ++ chunk ≡ take until (list_at lists place)
  pub may : IsLegal (list_at given place ++ list_part mine (column_at columns place) chunk)

module _ (nodes : List PlanNode) (mine : Option Field → Bool) (columns : List ℕ) (lists : Lists) where
  -- what comes between two places of a source's list is next
  pub next_of : (net : SerialNet) (place from until : ℕ) (n : PlanNode) (l chunk : List Message) (h : IsFedUpTo nodes net mine columns lists place from until) → AreLists nodes lists → place < length nodes → n ≡ get_or nodes place n → is_source n.kind ≡ true
      → l ≡ get_or lists place l → take from l ++ chunk ≡ take until l → AreNext nodes mine columns lists h.given place from until chunk
  next_of net place from until n l chunk h are within here is there next =
      let source = source_here nodes place n within (sym here) is in
      let column = column_at columns place in
      let same : l ≡ list_at lists place = there ∙ get_or_default lists place l [] (omega (arith, within, are.count)) in
      let more : take from (list_at lists place) ++ chunk ≡ take until (list_at lists place) = subst (λ (ms : List Message). take from ms ++ chunk ≡ take until ms) same next in
      record {
        source = source;
        next = more;
        may = subst (λ (ms : List Message). IsLegal (ms ++ list_part mine column chunk)) (sym (h.left place (omega arith) within source))
            (next_legal mine columns column from until (list_at lists place) chunk more (legal_part mine column (list_at lists place) (are.legal place)));
      }

  -- nothing was fed
  pub fed_nothing : (net : SerialNet) → NetStands nodes net (map no_ports nodes) (replicate (length nodes) []) → IsFedFirst nodes net mine columns lists 0
  fed_nothing net stands = record { ports = map no_ports nodes; given = replicate (length nodes) []; stands = stands; fed = λ k within source. no_list (length nodes) k }

  -- ---- a round

  -- before the first node
  pub fed_first : (net : SerialNet) (from until : ℕ) → IsFedFirst nodes net mine columns lists from → IsFedUpTo nodes net mine columns lists 0 from until
  fed_first net from until h = record { ports = h.ports; given = h.given; stands = h.stands; done = λ k before within source. absurd (omega (arith, before)); left = λ k behind within source. h.fed k within source }

  -- behind the last one
  pub fed_last : (net : SerialNet) (place from until : ℕ) → length nodes ≤ place → IsFedUpTo nodes net mine columns lists place from until → IsFedFirst nodes net mine columns lists until
  fed_last net place from until end h = record { ports = h.ports; given = h.given; stands = h.stands; fed = λ k within source. h.done k (omega (arith, within, end)) within source }

  -- what is no source gives nothing
  pub fed_other : (net : SerialNet) (place from until : ℕ) → (IsSourceAt nodes place → ⊥) → IsFedUpTo nodes net mine columns lists place from until → IsFedUpTo nodes net mine columns lists (place + 1) from until
  fed_other net place from until isnt h = record {
    ports = h.ports;
    given = h.given;
    stands = h.stands;
    done = λ k before within source. elim (cases_lt k place) [
      | inl less ↦ h.done k less within source
      | inr upto ↦ (let e : k ≡ place = omega (arith, before, upto) in absurd (isnt (subst (IsSourceAt nodes) e source)))
    ];
    left = λ k behind within source. h.left k (omega (arith, behind)) within source;
  }

  -- a source gives what goes to the part of its next messages
  pub fed_source : (old new : SerialNet) (place from until : ℕ) (chunk : List Message) (h : IsFedUpTo nodes old mine columns lists place from until) → place < length nodes → take from (list_at lists place) ++ chunk ≡ take until (list_at lists place)
      → NetStands nodes new h.ports (with_more h.given place (list_part mine (column_at columns place) chunk)) → IsFedUpTo nodes new mine columns lists (place + 1) from until
  fed_source old new place from until chunk h within next stands =
      let more = list_part mine (column_at columns place) chunk in
      let wide : place < length h.given = omega (arith, within, h.stands.stands.flows.given_count) in
      record {
        ports = h.ports;
        given = with_more h.given place more;
        stands = stands;
        done = λ k before inside source. elim (cases_lt k place) [
          | inl less ↦ at_more_other h.given place k more (λ e. omega (arith, less, e)) ∙ h.done k less inside source
          | inr upto ↦
              (let e : k ≡ place = omega (arith, before, upto) in
              subst (λ (j : ℕ). list_at (with_more h.given place more) j ≡ list_part mine (column_at columns j) (take until (list_at lists j))) (sym e) (
              at_more h.given place more wide
              ∙ (ap (λ (ms : List Message). ms ++ more) (h.left place (omega arith) within (subst (IsSourceAt nodes) e source))
              ∙ (sym (part-append mine columns (column_at columns place) (take from (list_at lists place)) chunk) ∙ ap (list_part mine (column_at columns place)) next))))
        ];
        left = λ k behind inside source. at_more_other h.given place k more (λ e. omega (arith, behind, e)) ∙ h.left k (omega (arith, behind)) inside source;
      }

  -- ---- settled

  -- sources give nothing while the network settles
  pub fed_settled : (old new : SerialNet) (count : ℕ) (h : IsFedFirst nodes old mine columns lists count) → HasSettled nodes new h.ports h.given → IsFedFirst nodes new mine columns lists count
  fed_settled old new count h s = record { ports = s.ports; given = s.given'; stands = s.stands; fed = λ k within source. s.sources k source ∙ h.fed k within source }

  -- all were fed
  pub fed_whole : (old new : SerialNet) (count : ℕ) (h : IsFedFirst nodes old mine columns lists count) → HasSettled nodes new h.ports h.given → ((k : ℕ) → length (list_at lists k) ≤ count) → IsFedWhole nodes new mine columns lists
  fed_whole old new count h s few = record {
    ports = s.ports;
    given = s.given';
    stands = s.stands;
    fed = λ k within source. s.sources k source ∙ (h.fed k within source ∙ ap (list_part mine (column_at columns k)) (take_all count (list_at lists k) (few k)));
    empty = s.empty;
  }
