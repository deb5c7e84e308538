-- How many messages the turns of each worker moved.
use Rattle.std.proofs.Common.{◌≡◌, ℕ, zero, suc, ◌+◌, ◌*◌, ◌<◌, Bool, true, false, List, [], ◌∷◌, Option, length, map, nat_eq, if◌then◌else◌, slice_index_or, refl, sym, ap, ◌∙◌, arith}
use Rattle.std.specs.List.{All, sum_by}
use Rattle.std.proofs.lemmas.Bool.{eqb-true}
use Rattle.std.proofs.lemmas.List.{length-map}
use Rattle.std.proofs.lemmas.List.Elements.{All-head, All-tail}
use Rattle.std.proofs.lemmas.List.Sums.{sum_by-cons}
use Rattle.atomic_table.specs.Seated.{TableId}
use Rattle.logbook.specs.Pages.{Book}
use Rattle.cedr_base.specs.declared.change.Message.{Message}
use Rattle.cedr_edge.specs.Ends.{Carried, InEnd, OutEnd, as_u64, taken_of}
use Rattle.node_laws.specs.Lists.{Lists, list_at}
use Rattle.cedr_plan.specs.declared.plan.PlanNode.{PlanNode}
use Rattle.plan_runs.specs.Runs.{lists_at}
use Rattle.plan_edges.specs.Wires.{AreClosed, AreWired, all_ends, carried, edges_from, froms, in_edge, out_edge, puts_at}
use Rattle.cedr_worker.specs.declared.ran.Ran.{Ran}
use Rattle.cedr_worker.specs.Inputs.{taken_count}
use Rattle.plan_workers.specs.declared.ended.Ended.{Ended}
use Rattle.plan_workers.specs.Crews.{AreNumbered, AreRoles, node_in}
use Rattle.plan_workers.specs.Ends.{AllEndAs, sent_length}
use Rattle.plan_workers.specs.Roles.{Role}
use Rattle.plan_workers.specs.Wents.{AreRan, count_from, message_count, putters_left, ran_left, takers_left}
use Rattle.plan_workers.proofs.LeftLemmas.{port_ends, ports_left, wired_left}
use Rattle.plan_workers.proofs.WentLemmas.{AllGave}

-- ---- what went over the edges that come from a node

-- over so many edges went the same list
sent_sum : (list : List Message) (ends : List OutEnd) → All (λ (e : OutEnd). e.sent ≡ list) ends → sum_by sent_length ends ≡ length ends * length list
sent_sum list [] all = omega arith
sent_sum list (e ∷ es) all =
    let first : length e.sent ≡ length list = ap length (All-head (λ (x : OutEnd). x.sent ≡ list) e es all) in
    let later = sent_sum list es (All-tail (λ (x : OutEnd). x.sent ≡ list) e es all) in
    omega (arith, sum_by-cons sent_length e es, first, later)

-- of all edges, those that come from a node carry its list
from_count : (given : Lists) (place : ℕ) (fs : List ℕ) (es : List TableId) → length es ≡ length fs → count_from place fs (map (list_at given) fs) ≡ length (edges_from place fs es) * length (list_at given place)
from_count given place [] es count = omega arith
from_count given place (f ∷ fs) [] count = absurd (omega arith)
from_count given place (f ∷ fs) (e ∷ es) count = at (nat_eq f place) refl (from_count given place fs es (omega arith))
  where
    at : (b : Bool) → nat_eq f place ≡ b → count_from place fs (map (list_at given) fs) ≡ length (edges_from place fs es) * length (list_at given place) → (if b then length (list_at given f) else 0) + count_from place fs (map (list_at given) fs) ≡ length (if b then e ∷ edges_from place fs es else edges_from place fs es) * length (list_at given place)
    at true is later =
        let same : length (list_at given f) ≡ length (list_at given place) = ap (λ k. length (list_at given k)) (eqb-true f place is) in
        omega (arith, same, later)
    at false is later = omega (arith, later)

-- ---- the worker at a place

-- what the turns of a worker came to, of what it took and put
pub record RanAs (number : ℕ) (lists : Lists) (putters : List OutEnd) (ran : Ran) : Type 0 where
  pub number_is : ran.number ≡ number
  pub taken_is : ran.taken ≡ as_u64 (sum_by message_count lists)
  pub put_is : ran.put ≡ as_u64 (sum_by sent_length putters)

-- as many messages were taken as stand in the lists
taken_sum : (takers : List InEnd) → taken_count takers ≡ sum_by message_count (map taken_of takers)
taken_sum [] = refl
taken_sum (e ∷ es) = sum_by-cons (λ (x : InEnd). length x.taken) e es ∙ (ap (λ k. length e.taken + k) (taken_sum es) ∙ sym (sum_by-cons message_count e.taken (map taken_of es)))

-- the worker at a place ran as its end says
ran_as : {S R : Type 0} (rest : S → Option (List ℕ)) (faults : S → ℕ) (roles : List Role) (ends : List (Ended S R)) (first : ℕ) → AllEndAs rest faults roles ends → AreNumbered first roles → (k : ℕ) (d : Ran) → k < length roles
    → RanAs (first + k) (lists_at (map (map taken_of) (map takers_left ends)) k) (puts_at (map putters_left ends) k) (slice_index_or (map ran_left ends) k d)
ran_as rest faults [] ends first are numbered k d within = absurd (omega arith)
ran_as rest faults (r ∷ rs) [] first are numbered k d within = absurd are
ran_as rest faults (r ∷ rs) (e ∷ es) first are numbered zero d within = record {
  number_is = are.0.number ∙ (numbered.0 ∙ omega arith);
  taken_is = are.0.ran_taken ∙ ap as_u64 (taken_sum e.takers);
  put_is = are.0.ran_put;
}
ran_as rest faults (r ∷ rs) (e ∷ es) first are numbered (suc k) d within =
    let later = ran_as rest faults rs es (first + 1) are.1 numbered.1 k d (omega arith) in
    record { number_is = later.number_is ∙ omega arith; taken_is = later.taken_is; put_is = later.put_is }

module _ {S R : Type 0} (rest : S → Option (List ℕ)) (faults : S → ℕ) (nodes : List PlanNode) (takers : List (List InEnd)) (putters : List (List OutEnd)) (sources : List S) (history : Book) (roles : List Role) (ends : List (Ended S R)) (edges : List Carried)
    (wired : AreWired nodes takers putters) (are : AreRoles rest faults nodes takers putters sources history roles) (ended : AllEndAs rest faults roles ends) (closed : AreClosed nodes (map takers_left ends) (map putters_left ends) edges) (all : AllGave rest faults roles ends) where
  -- the ends that are left are those of the plan's edges
  left : AreWired nodes (map takers_left ends) (map putters_left ends)
  left = wired_left rest faults nodes takers putters sources history roles ends wired are ended

  -- what was put over the edges that come from a node is what went over them
  put_sum : (k : ℕ) → sum_by sent_length (puts_at (map putters_left ends) k) ≡ count_from k (froms nodes) (carried edges)
  put_sum k =
      let list = list_at all.given k in
      let own = puts_at (map putters_left ends) k in
      let tables = map in_edge (all_ends (map takers_left ends)) in
      let many : length own ≡ length (edges_from k (froms nodes) tables) = sym (length-map own out_edge) ∙ ap length (left.edges k) in
      let lists : carried edges ≡ map (list_at all.given) (froms nodes) = sym closed.same ∙ closed.sent all.given all.sent in
      sent_sum list own (all.sent k) ∙ (ap (λ j. j * length list) many ∙ (sym (from_count all.given k (froms nodes) tables (port_ends nodes (map takers_left ends) left.ports)) ∙ ap (count_from k (froms nodes)) (sym lists)))

  -- the worker of a node ran as its end says
  ran_here : (k : ℕ) (d : Ran) → k < length nodes → RanAs (0 + k) (lists_at (map (map taken_of) (map takers_left ends)) k) (puts_at (map putters_left ends) k) (slice_index_or (map ran_left ends) k d)
  ran_here k d within = ran_as rest faults roles ends 0 ended are.numbers k d (let e = ap length are.nodes_are in omega (arith, e, within, length-map roles node_in))

  -- the turns of each worker moved what went over the edges of its node
  pub all_ran : AreRan nodes edges (map ran_left ends)
  all_ran = record {
    count = length-map ends ran_left ∙ (sym (length-map ends putters_left) ∙ left.nodes_are);
    number = λ k d within. (ran_here k d within).number_is ∙ omega arith;
    taken = λ k d within. (ran_here k d within).taken_is ∙ ap (λ ls. as_u64 (sum_by message_count (lists_at ls k))) (sym (ports_left rest faults nodes takers putters sources history roles ends wired are ended edges closed));
    put = λ k d within. (ran_here k d within).put_is ∙ ap as_u64 (put_sum k);
  }
