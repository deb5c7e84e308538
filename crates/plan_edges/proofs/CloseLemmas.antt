-- Edges that are closed one by one.
use Rattle.std.proofs.Common.{◌≡◌, ◌≢◌, ℕ, suc, ◌+◌, ◌<◌, Bool, true, false, List, [], ◌∷◌, ◌++◌, length, map, nat_eq, if◌then◌else◌, refl, sym, ap, ◌∙◌, subst, arith, append_assoc, length-append}
use Rattle.std.proofs.lemmas.List.{length-set, get_or-set_same, get_or-set_other, map-append, append-nil, length-map, get_or_append_left, get_or-append-add}
use Rattle.std.proofs.lemmas.Bool.Decides.{nat_tests}
use Rattle.std.specs.List.{All}
use Rattle.atomic_table.specs.Seated.{TableId}
use Rattle.cedr_edge.specs.Ends.{InEnd, OutEnd, Carried, taken_of}
use Rattle.node_laws.specs.Lists.{Lists, list_at}
use Rattle.plan_edges.specs.Wires.{in_edge, out_edge, puts_at, edges_from, AreSent, AreLeft, IsNextEnd, PortClosed, SomeClosed}

-- the next edge to be closed is the first of its node
first_from : (f : ℕ) (fs : List ℕ) (e : TableId) (es : List TableId) → edges_from f (f ∷ fs) (e ∷ es) ≡ e ∷ edges_from f fs es
first_from f fs e es = at (nat_eq f f) refl
  where
    at : (b : Bool) → nat_eq f f ≡ b → (if nat_eq f f then e ∷ edges_from f fs es else edges_from f fs es) ≡ e ∷ edges_from f fs es
    at true is = rw is refl
    at false is = absurd (grind (arith, nat_tests))

-- an edge of another node leaves those of a node as they are
other_from : (place f : ℕ) (fs : List ℕ) (e : TableId) (es : List TableId) → place ≢ f → edges_from place (f ∷ fs) (e ∷ es) ≡ edges_from place fs es
other_from place f fs e es apart = at (nat_eq f place) refl
  where
    at : (b : Bool) → nat_eq f place ≡ b → (if nat_eq f place then e ∷ edges_from place fs es else edges_from place fs es) ≡ edges_from place fs es
    at true is = absurd (grind (arith, nat_tests, apart))
    at false is = rw is refl

-- where the ends that put are those of the edges that are left, the next one of the first edge's node belongs
-- to that edge
pub next_left : (f : ℕ) (fs : List ℕ) (e : InEnd) (es : List InEnd) (putters : List (List OutEnd)) → AreLeft (f ∷ fs) (e ∷ es) putters → IsNextEnd f e putters
next_left f fs e es putters left = at (puts_at putters f) refl
  where
    at : (ends : List OutEnd) → puts_at putters f ≡ ends → IsNextEnd f e putters
    at [] is =
        let none : [] ≡ e.edge ∷ edges_from f fs (map in_edge es) = sym (ap (map out_edge) is) ∙ (left f ∙ first_from f fs e.edge (map in_edge es)) in
        absurd (cc none)
    at (x ∷ xs) is =
        let some : x.edge ∷ map out_edge xs ≡ e.edge ∷ edges_from f fs (map in_edge es) = sym (ap (map out_edge) is) ∙ (left f ∙ first_from f fs e.edge (map in_edge es)) in
        record { first = x; rest = xs; there = is; edge = cc some }

-- once it is closed the others are left
pub left_closed : (f : ℕ) (fs : List ℕ) (e : InEnd) (es : List InEnd) (putters putters' : List (List OutEnd)) (closed closed' : List Carried) → f < length putters → AreLeft (f ∷ fs) (e ∷ es) putters → PortClosed f e putters putters' closed closed' → AreLeft fs es putters'
left_closed f fs e es putters putters' closed closed' lt left one place = at (nat_eq place f) refl
  where
    at : (b : Bool) → nat_eq place f ≡ b → map out_edge (puts_at putters' place) ≡ edges_from place fs (map in_edge es)
    at true is =
        let same : f ≡ place = grind (arith, nat_tests) in
        let now : puts_at putters' f ≡ one.rest = ap (λ ps. puts_at ps f) one.gone ∙ get_or-set_same putters f one.rest [] lt in
        let all : one.first.edge ∷ map out_edge one.rest ≡ e.edge ∷ edges_from f fs (map in_edge es) = sym (ap (map out_edge) one.there) ∙ (left f ∙ first_from f fs e.edge (map in_edge es)) in
        let rest : map out_edge one.rest ≡ edges_from f fs (map in_edge es) = cc all in
        subst (λ (p : ℕ). map out_edge (puts_at putters' p) ≡ edges_from p fs (map in_edge es)) same (ap (map out_edge) now ∙ rest)
    at false is =
        let apart : place ≢ f = grind (arith, nat_tests) in
        let now : puts_at putters' place ≡ puts_at putters place = ap (λ ps. puts_at ps place) one.gone ∙ get_or-set_other putters f place one.rest [] apart in
        ap (map out_edge) now ∙ (left place ∙ other_from place f fs e.edge (map in_edge es) apart)

-- closing an edge leaves a list of ends for as many nodes
pub port_count_stays : (f : ℕ) (e : InEnd) (putters putters' : List (List OutEnd)) (closed closed' : List Carried) → PortClosed f e putters putters' closed closed' → length putters' ≡ length putters
port_count_stays f e putters putters' closed closed' one = ap length one.gone ∙ length-set putters f one.rest

-- where there is no edge, none is closed
pub none_closed : (putters : List (List OutEnd)) (closed : List Carried) → SomeClosed [] [] putters putters closed closed
none_closed putters closed = record {
  edges = [];
  appended = sym (append-nil closed);
  count = refl;
  taken = refl;
  same = refl;
  sent = λ given are. (refl, are);
}

-- what is left of a node's ends was sent over too
still_sent : (given : Lists) (f : ℕ) (e : InEnd) (putters putters' : List (List OutEnd)) (closed closed' : List Carried) → f < length putters → PortClosed f e putters putters' closed closed' → AreSent given putters → AreSent given putters'
still_sent given f e putters putters' closed closed' lt one are place = at (nat_eq place f) refl
  where
    at : (b : Bool) → nat_eq place f ≡ b → All (λ (x : OutEnd). x.sent ≡ list_at given place) (puts_at putters' place)
    at true is =
        let same : f ≡ place = grind (arith, nat_tests) in
        let now : puts_at putters' f ≡ one.rest = ap (λ ps. puts_at ps f) one.gone ∙ get_or-set_same putters f one.rest [] lt in
        let all : All (λ (x : OutEnd). x.sent ≡ list_at given f) (one.first ∷ one.rest) = subst (All (λ (x : OutEnd). x.sent ≡ list_at given f)) one.there (are f) in
        let rest : All (λ (x : OutEnd). x.sent ≡ list_at given f) one.rest = λ k d less. all (suc k) d (omega (arith, less)) in
        subst (λ (p : ℕ). All (λ (x : OutEnd). x.sent ≡ list_at given p) (puts_at putters' p)) same (subst (All (λ (x : OutEnd). x.sent ≡ list_at given f)) (sym now) rest)
    at false is =
        let apart : place ≢ f = grind (arith, nat_tests) in
        let now : puts_at putters' place ≡ puts_at putters place = ap (λ ps. puts_at ps place) one.gone ∙ get_or-set_other putters f place one.rest [] apart in
        subst (All (λ (x : OutEnd). x.sent ≡ list_at given place)) (sym now) (are place)

-- one port, and some more
pub first_closed : (f : ℕ) (fs : List ℕ) (e : InEnd) (es : List InEnd) (putters putters' putters'' : List (List OutEnd)) (closed closed' closed'' : List Carried) → f < length putters → PortClosed f e putters putters' closed closed' → SomeClosed fs es putters' putters'' closed' closed'' → SomeClosed (f ∷ fs) (e ∷ es) putters putters'' closed closed''
first_closed f fs e es putters putters' putters'' closed closed' closed'' lt one some = record {
  edges = one.edge ∷ some.edges;
  appended = some.appended ∙ (ap (λ xs. xs ++ some.edges) one.appended ∙ append_assoc closed (one.edge ∷ []) some.edges);
  count = some.count ∙ port_count_stays f e putters putters' closed closed' one;
  taken = cc (one.taken, some.taken);
  same = cc (one.same, some.same);
  sent = λ given are.
      let rest = some.sent given (still_sent given f e putters putters' closed closed' lt one are) in
      let all : All (λ (x : OutEnd). x.sent ≡ list_at given f) (one.first ∷ one.rest) = subst (All (λ (x : OutEnd). x.sent ≡ list_at given f)) one.there (are f) in
      let here : one.edge.sent ≡ list_at given f = one.sent ∙ all 0 one.first (omega arith) in
      (cc (here, rest.0), rest.1);
}

-- some ports, and some more
pub more_closed : (fs gs : List ℕ) (es ds : List InEnd) (putters putters' putters'' : List (List OutEnd)) (closed closed' closed'' : List Carried) → SomeClosed fs es putters putters' closed closed' → SomeClosed gs ds putters' putters'' closed' closed'' → SomeClosed (fs ++ gs) (es ++ ds) putters putters'' closed closed''
more_closed fs gs es ds putters putters' putters'' closed closed' closed'' a b = record {
  edges = a.edges ++ b.edges;
  appended = b.appended ∙ (ap (λ xs. xs ++ b.edges) a.appended ∙ append_assoc closed a.edges b.edges);
  count = b.count ∙ a.count;
  taken = map-append (λ (e : Carried). e.taken) a.edges b.edges ∙ (cc (a.taken, b.taken) ∙ sym (map-append taken_of es ds));
  same = map-append (λ (e : Carried). e.sent) a.edges b.edges ∙ (cc (a.same, b.same) ∙ sym (map-append (λ (e : Carried). e.taken) a.edges b.edges));
  sent = λ given are.
      let first = a.sent given are in
      let second = b.sent given first.1 in
      (map-append (λ (e : Carried). e.sent) a.edges b.edges ∙ (cc (first.0, second.0) ∙ sym (map-append (list_at given) fs gs)), second.1);
}

-- what holds of each element of two lists holds of each of the first
pub all_front : {X : Type 0} (P : X → Type 0) (xs ys : List X) → All P (xs ++ ys) → All P xs
all_front P xs ys all k d lt = subst P (get_or_append_left xs ys d k lt) (all k d (omega (arith, lt, length-append xs ys)))

-- what holds of each element of two lists holds of each of the second
pub all_back : {X : Type 0} (P : X → Type 0) (xs ys : List X) → All P (xs ++ ys) → All P ys
all_back P xs ys all k d lt = subst P (get_or-append-add xs ys k d) (all (length xs + k) d (omega (arith, lt, length-append xs ys)))

-- as many edges were closed as ends that took were there
pub closed_count : (fs : List ℕ) (es : List InEnd) (putters putters' : List (List OutEnd)) (closed closed' : List Carried) → SomeClosed fs es putters putters' closed closed' → length closed' ≡ length closed + length es
closed_count fs es putters putters' closed closed' some =
    let count : length some.edges ≡ length es = sym (length-map some.edges (λ (e : Carried). e.taken)) ∙ (ap length some.taken ∙ length-map es taken_of) in
    ap length some.appended ∙ (length-append closed some.edges ∙ ap (λ k. length closed + k) count)
