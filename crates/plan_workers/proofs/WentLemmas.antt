-- What the workers of a plan gave together, node by node.
use Rattle.std.proofs.Common.{◌≡◌, ℕ, zero, suc, ◌+◌, ◌-◌, ◌<◌, ◌++◌, Bool, true, false, cond, List, [], ◌∷◌, Option, length, map, slice_index_or, nat_eq, if◌then◌else◌, refl, sym, ap, ◌∙◌, subst, arith}
use Rattle.std.specs.List.{All}
use Rattle.std.proofs.lemmas.Bool.{ne_eqb}
use Rattle.std.proofs.lemmas.List.{get_or-append-add}
use Rattle.std.proofs.lemmas.List.Elements.{All-nil}
use Rattle.std.proofs.lemmas.List.Sums.{sum_by-cons}
use Rattle.std.proofs.Math.ListN.{get_or-map}
use Rattle.logbook.specs.Pages.{Book}
use Rattle.cedr_base.specs.declared.change.Message.{Message}
use Rattle.cedr_edge.specs.Ends.{Carried, InEnd, OutEnd, taken_of}
use Rattle.node_laws.specs.Lawful.{IsLawful}
use Rattle.node_laws.specs.Lists.{Lists, list_at}
use Rattle.node_laws.specs.Pass.{pass}
use Rattle.cedr_plan.specs.declared.plan.PlanNode.{PlanNode}
use Rattle.cedr_plan.specs.Places.{is_output, is_source, source_count}
use Rattle.plan_runs.specs.Runs.{IsRun, lists_at, input_lists, sources_in}
use Rattle.plan_runs.proofs.Partial.{source_at}
use Rattle.plan_runs.proofs.PlanNodes.{place_within}
use Rattle.plan_edges.specs.Wires.{AreClosed, AreSent, AreWired, carried, froms, ports_of}
use Rattle.cedr_worker.specs.declared.source.SourceEnd.{SourceEnd}
use Rattle.op_node.specs.Meanings.{meaning_of, port_levels}
use Rattle.plan_workers.specs.declared.ended.Ended.{Ended}
use Rattle.plan_workers.specs.declared.ended.Part.{Part}
use Rattle.plan_workers.specs.Crews.{AreNumbered, AreRoles, content_in, count_in, node_in, source_roles}
use Rattle.plan_workers.specs.Ends.{AllEndAs}
use Rattle.plan_workers.specs.Roles.{Role}
use Rattle.plan_workers.specs.Wents.{IsBareEnd, LostWent, SourceWent, Went, lacked_at, part_lacked, putters_left, source_left, sources_left, takers_left}
use Rattle.plan_workers.proofs.GaveLemmas.{Gave, SourceGave, gave}
use Rattle.plan_workers.proofs.LeftLemmas.{ports_left}
use Rattle.plan_edges.proofs.RunLemmas.{given_ports}

-- ---- the worker at a place

-- The worker of a node after others, and the list that it gave among those of all nodes.
pub record GaveAt {S R : Type 0} (rest : S → Option (List ℕ)) (faults : S → ℕ) (before : List PlanNode) (n : PlanNode) (roles : List Role) (ends : List (Ended S R)) (given : Lists) : Type 0 where
  pub role : Role
  pub end : Ended S R
  pub node_is : role.node ≡ n
  pub number_is : (place : ℕ) → AreNumbered place roles → role.number ≡ place + length before
  pub gave : Gave rest faults role (map taken_of end.takers) end.putters end.part
  pub given_is : list_at given (length before) ≡ gave.given
  pub lists_are : lists_at (map (map taken_of) (map takers_left ends)) (length before) ≡ map taken_of end.takers
  pub lacked_is : lacked_at ends (length before) ≡ part_lacked end.part
  pub content_is : is_source n.kind ≡ true → (d : Option (List ℕ)) → slice_index_or (map content_in (source_roles roles)) (source_count before) d ≡ role.content
  pub count_is : is_source n.kind ≡ true → (d : ℕ) → slice_index_or (map count_in (source_roles roles)) (source_count before) d ≡ role.count
  pub source_is : (s d : SourceEnd S) → source_left end.part ≡ s ∷ [] → slice_index_or (sources_left ends) (source_count before) d ≡ s

-- the lists that the workers gave, in the order of the nodes
pub record AllGave {S R : Type 0} (rest : S → Option (List ℕ)) (faults : S → ℕ) (roles : List Role) (ends : List (Ended S R)) : Type 0 where
  pub given : Lists
  pub sent : AreSent given (map putters_left ends)
  pub each : (before after : List PlanNode) (n : PlanNode) → map node_in roles ≡ before ++ n ∷ after → GaveAt rest faults before n roles ends given

-- the first source's role is the first of those
first_role : {X : Type 0} (f : Role → X) (b : Bool) (r : Role) (rs : List Role) (d : X) → b ≡ true → slice_index_or (map f (cond b (r ∷ rs) rs)) 0 d ≡ f r
first_role f true r rs d is = refl
first_role f false r rs d is = absurd (cc is)

-- a node before others leaves their sources' roles in their order
later_role : {X : Type 0} (f : Role → X) (b : Bool) (r : Role) (rs : List Role) (k n : ℕ) (d : X) → n ≡ cond {A = ℕ} b 1 0 + k → slice_index_or (map f (cond b (r ∷ rs) rs)) n d ≡ slice_index_or (map f rs) k d
later_role f true r rs k n d is = ap (λ j. slice_index_or (map f (r ∷ rs)) j d) (let e : n ≡ suc k = omega arith in e)
later_role f false r rs k n d is = ap (λ j. slice_index_or (map f rs) j d) (let e : n ≡ k = omega arith in e)

-- the number of a source is one more after a source
count_behind : (b n : PlanNode) (bs : List PlanNode) → b ≡ n → source_count (n ∷ bs) ≡ cond {A = ℕ} (is_source b.kind) 1 0 + source_count bs
count_behind b n bs same = sum_by-cons (λ (x : PlanNode). cond {A = ℕ} (is_source x.kind) 1 0) n bs ∙ ap (λ (x : PlanNode). cond {A = ℕ} (is_source x.kind) 1 0 + source_count bs) (sym same)

-- the first that is left is the first of all
first_left : {X : Type 0} (xs ys : List X) (x d : X) → xs ≡ x ∷ [] → slice_index_or (xs ++ ys) 0 d ≡ x
first_left xs ys x d is = ap (λ zs. slice_index_or (zs ++ ys) 0 d) is

-- so many are left before the others
later_left : {X : Type 0} (xs ys : List X) (k n : ℕ) (d : X) → n ≡ length xs + k → slice_index_or (xs ++ ys) n d ≡ slice_index_or ys k d
later_left xs ys k n d is = ap (λ j. slice_index_or (xs ++ ys) j d) is ∙ get_or-append-add xs ys k d

-- one source is left of a source's worker, and none of another
left_count : {S R : Type 0} (rest : S → Option (List ℕ)) (faults : S → ℕ) (role : Role) (lists : Lists) (putters : List OutEnd) (left : Part S R) → Gave rest faults role lists putters left → length (source_left left) ≡ cond {A = ℕ} (is_source role.node.kind) 1 0
left_count rest faults role lists putters left g = at (is_source role.node.kind) refl
  where
    at : (b : Bool) → is_source role.node.kind ≡ b → length (source_left left) ≡ cond {A = ℕ} b 1 0
    at true is = ap length (g.source is).alone
    at false is = ap length (g.other is)

-- memory was lacking for the later nodes as it was
pub lacked_later : {S R : Type 0} (e : Ended S R) (es : List (Ended S R)) (k : ℕ) → lacked_at (e ∷ es) (suc k) ≡ lacked_at es k
lacked_later e es k =
    let other : nat_eq (suc k) 0 ≡ false = ne_eqb (suc k) 0 (λ same. absurd (omega arith)) in
    let one : suc k - 1 ≡ k = omega arith in
    ap (λ (b : Bool). if b then part_lacked e.part else lacked_at es (suc k - 1)) other ∙ ap (lacked_at es) one

-- one more list goes before
sent_more : (g : List Message) (given : Lists) (ends : List OutEnd) (putters : List (List OutEnd)) → All (λ (e : OutEnd). e.sent ≡ g) ends → AreSent given putters → AreSent (g ∷ given) (ends ∷ putters)
sent_more g given ends putters first later zero = first
sent_more g given ends putters first later (suc place) = later place

-- the first worker
first_gave : {S R : Type 0} (rest : S → Option (List ℕ)) (faults : S → ℕ) (r : Role) (rs : List Role) (e : Ended S R) (es : List (Ended S R)) (n : PlanNode) (given : Lists) → r.node ≡ n → (g : Gave rest faults r (map taken_of e.takers) e.putters e.part) → GaveAt rest faults [] n (r ∷ rs) (e ∷ es) (g.given ∷ given)
first_gave rest faults r rs e es n given same g = record {
  role = r;
  end = e;
  node_is = same;
  number_is = λ place are. omega (arith, are.0);
  gave = g;
  given_is = refl;
  lists_are = refl;
  lacked_is = refl;
  content_is = λ is d. first_role content_in (is_source r.node.kind) r (source_roles rs) d (ap (λ (x : PlanNode). is_source x.kind) same ∙ is);
  count_is = λ is d. first_role count_in (is_source r.node.kind) r (source_roles rs) d (ap (λ (x : PlanNode). is_source x.kind) same ∙ is);
  source_is = λ s d is. first_left (source_left e.part) (sources_left es) s d is;
}

-- a worker after the first
later_gave : {S R : Type 0} (rest : S → Option (List ℕ)) (faults : S → ℕ) (r : Role) (rs : List Role) (e : Ended S R) (es : List (Ended S R)) (b : PlanNode) (bs : List PlanNode) (n : PlanNode) (given : Lists) → r.node ≡ b → (g : Gave rest faults r (map taken_of e.takers) e.putters e.part) → GaveAt rest faults bs n rs es given → GaveAt rest faults (b ∷ bs) n (r ∷ rs) (e ∷ es) (g.given ∷ given)
later_gave rest faults r rs e es b bs n given same g later =
    let count : source_count (b ∷ bs) ≡ cond {A = ℕ} (is_source r.node.kind) 1 0 + source_count bs = count_behind r.node b bs same in
    record {
      role = later.role;
      end = later.end;
      node_is = later.node_is;
      number_is = λ place are. let there = later.number_is (place + 1) are.1 in omega (arith, there);
      gave = later.gave;
      given_is = later.given_is;
      lists_are = later.lists_are;
      lacked_is = lacked_later e es (length bs) ∙ later.lacked_is;
      content_is = λ is d. later_role content_in (is_source r.node.kind) r (source_roles rs) (source_count bs) (source_count (b ∷ bs)) d count ∙ later.content_is is d;
      count_is = λ is d. later_role count_in (is_source r.node.kind) r (source_roles rs) (source_count bs) (source_count (b ∷ bs)) d count ∙ later.count_is is d;
      source_is = λ s d is. later_left (source_left e.part) (sources_left es) (source_count bs) (source_count (b ∷ bs)) d (count ∙ ap (λ j. j + source_count bs) (sym (left_count rest faults r (map taken_of e.takers) e.putters e.part g))) ∙ later.source_is s d is;
    }

-- no worker comes after others where there is none
none_gave : {S R : Type 0} (rest : S → Option (List ℕ)) (faults : S → ℕ) (before after : List PlanNode) (n : PlanNode) → [] ≡ before ++ n ∷ after → GaveAt {S = S} {R = R} rest faults before n [] [] []
none_gave rest faults [] after n is = absurd (cc is)
none_gave rest faults (b ∷ bs) after n is = absurd (cc is)

-- what each worker gave
pub all_gave : {S R : Type 0} (rest : S → Option (List ℕ)) (faults : S → ℕ) (roles : List Role) (ends : List (Ended S R)) → AllEndAs rest faults roles ends → AllGave rest faults roles ends
all_gave rest faults [] [] are = record {
  given = [];
  sent = λ place. All-nil (λ (e : OutEnd). e.sent ≡ list_at [] place);
  each = none_gave rest faults;
}
all_gave rest faults [] (e ∷ es) are = absurd are
all_gave rest faults (r ∷ rs) [] are = absurd are
all_gave rest faults (r ∷ rs) (e ∷ es) are =
    let first = gave rest faults r (map taken_of e.takers) e.putters e.part are.0.part_is in
    let later = all_gave rest faults rs es are.1 in
    record {
      given = first.given ∷ later.given;
      sent = sent_more first.given later.given e.putters (map putters_left es) first.sent later.sent;
      each = at first later;
    }
  where
    at : (first : Gave rest faults r (map taken_of e.takers) e.putters e.part) (later : AllGave rest faults rs es) (before after : List PlanNode) (n : PlanNode) → r.node ∷ map node_in rs ≡ before ++ n ∷ after → GaveAt rest faults before n (r ∷ rs) (e ∷ es) (first.given ∷ later.given)
    at first later [] after n is = first_gave rest faults r rs e es n later.given (cc is) first
    at first later (b ∷ bs) after n is = later_gave rest faults r rs e es b bs n later.given (cc is) first (later.each bs after n (cc is))

-- ---- what went over the edges

-- the lists that a node reads stand at its place
inputs_at : (given : Lists) (before after : List PlanNode) (n : PlanNode) → lists_at (map (input_lists given) (before ++ n ∷ after)) (length before) ≡ input_lists given n
inputs_at given [] after n = refl
inputs_at given (b ∷ before) after n = inputs_at given before after n

-- each port has the list of the node that it reads
edges_went : (nodes : List PlanNode) (takers : List (List InEnd)) (putters : List (List OutEnd)) (edges : List Carried) (given : Lists) → AreClosed nodes takers putters edges → AreSent given putters → (before after : List PlanNode) (n : PlanNode) → nodes ≡ before ++ n ∷ after → lists_at (ports_of nodes (carried edges)) (length before) ≡ input_lists given n
edges_went nodes takers putters edges given closed sent before after n whole =
    let lists : carried edges ≡ map (list_at given) (froms nodes) = sym closed.same ∙ closed.sent given sent in
    ap (λ ls. lists_at (ports_of nodes ls) (length before)) lists ∙ (ap (λ ls. lists_at ls (length before)) (given_ports given nodes) ∙ (ap (λ ns. lists_at (map (input_lists given) ns) (length before)) whole ∙ inputs_at given before after n))

-- the same source, end and list
source_as : {S : Type 0} (rest : S → Option (List ℕ)) (faults : S → ℕ) (m n : PlanNode) (content : Option (List ℕ)) (count : ℕ) (s : S) (end end' : SourceEnd S) (given given' : List Message)
    → m ≡ n → content ≡ rest s → count ≡ faults s → end ≡ end' → given ≡ given' → SourceGave rest faults m content count end given → SourceWent rest faults n s end' given'
source_as rest faults m n content count s end end' given given' same_node same_content same_count same_end same_given g =
    let a = subst (λ x. SourceGave rest faults x content count end given) same_node g in
    let b = subst (λ x. SourceGave rest faults n x count end given) same_content a in
    let c = subst (λ x. SourceGave rest faults n (rest s) x end given) same_count b in
    let d = subst (λ x. SourceGave rest faults n (rest s) (faults s) x given) same_end c in
    let e = subst (λ x. SourceGave rest faults n (rest s) (faults s) end' x) same_given d in
    record { shape = e.shape; types = e.types; ends = e.ends; given_is = e.given_is }

-- the same node, lists and list
lawful_as : (m n : PlanNode) (lists lists' : Lists) (given given' : List Message) → m ≡ n → lists ≡ lists' → given ≡ given' → IsLawful (meaning_of m) (port_levels m) lists given → IsLawful (meaning_of n) (port_levels n) lists' given'
lawful_as m n lists lists' given given' same_node same_lists same_given lawful =
    subst (λ x. IsLawful (meaning_of n) (port_levels n) lists' x) same_given
    (subst (λ x. IsLawful (meaning_of n) (port_levels n) x given) same_lists
    (subst (λ x. IsLawful (meaning_of x) (port_levels x) lists given) same_node lawful))

-- the same of what a node gave for which memory was lacking
lost_as : (m n : PlanNode) (lists lists' : Lists) (given given' : List Message) → m ≡ n → lists ≡ lists' → given ≡ given' → LostWent m lists given → LostWent n lists' given'
lost_as m n lists lists' given given' same_node same_lists same_given lost =
    subst (λ x. LostWent n lists' x) same_given (subst (λ x. LostWent n x given) same_lists (subst (λ x. LostWent x lists given) same_node lost))

module _ {S R : Type 0} (rest : S → Option (List ℕ)) (faults : S → ℕ) (nodes : List PlanNode) (takers : List (List InEnd)) (putters : List (List OutEnd)) (sources : List S) (history : Book) (roles : List Role) (ends : List (Ended S R)) (edges : List Carried)
    (wired : AreWired nodes takers putters) (are : AreRoles rest faults nodes takers putters sources history roles) (ended : AllEndAs rest faults roles ends) (closed : AreClosed nodes (map takers_left ends) (map putters_left ends) edges) (all : AllGave rest faults roles ends) where
  -- the worker of a node
  at : (before after : List PlanNode) (n : PlanNode) → nodes ≡ before ++ n ∷ after → GaveAt rest faults before n roles ends all.given
  at before after n whole = all.each before after n (are.nodes_are ∙ whole)

  -- what came on its ports is what it took
  lists_went : (before after : List PlanNode) (n : PlanNode) (whole : nodes ≡ before ++ n ∷ after) → map taken_of (at before after n whole).end.takers ≡ lists_at (ports_of nodes (carried edges)) (length before)
  lists_went before after n whole = sym (ap (λ ls. lists_at ls (length before)) (ports_left rest faults nodes takers putters sources history roles ends wired are ended edges closed) ∙ (at before after n whole).lists_are)

  -- a source gave what its end says
  source_went : (before after : List PlanNode) (n : PlanNode) → nodes ≡ before ++ n ∷ after → is_source n.kind ≡ true → (s : S) (e : SourceEnd S) → SourceWent rest faults n (slice_index_or sources (source_count before) s) (slice_index_or (sources_left ends) (source_count before) e) (list_at all.given (length before))
  source_went before after n whole is s e =
      let here = at before after n whole in
      let k = source_count before in
      let left = here.gave.source (ap (λ (x : PlanNode). is_source x.kind) here.node_is ∙ is) in
      source_as rest faults here.role.node n here.role.content here.role.count (slice_index_or sources k s) left.end (slice_index_or (sources_left ends) k e) here.gave.given (list_at all.given (length before)) here.node_is
      (sym (here.content_is is (rest s)) ∙ (ap (λ xs. slice_index_or xs k (rest s)) are.contents ∙ get_or-map rest sources k s))
      (sym (here.count_is is (faults s)) ∙ (ap (λ xs. slice_index_or xs k (faults s)) are.counts ∙ get_or-map faults sources k s))
      (sym (here.source_is left.end e left.alone)) (sym here.given_is) left.gave

  -- and its end has the place of its node, and no edges
  end_went : (before after : List PlanNode) (n : PlanNode) → nodes ≡ before ++ n ∷ after → is_source n.kind ≡ true → (e : SourceEnd S) → IsBareEnd (length before) (slice_index_or (sources_left ends) (source_count before) e)
  end_went before after n whole is e =
      let here = at before after n whole in
      let left = here.gave.source (ap (λ (x : PlanNode). is_source x.kind) here.node_is ∙ is) in
      subst (IsBareEnd (length before)) (sym (here.source_is left.end e left.alone)) (record { number = (let placed = here.number_is 0 are.numbers in omega (arith, left.number, placed)); outputs = left.outputs })

  -- any other node is lawful where memory was found
  sound_went : (before after : List PlanNode) (n : PlanNode) → nodes ≡ before ++ n ∷ after → is_source n.kind ≡ false → lacked_at ends (length before) ≡ false → IsLawful (meaning_of n) (port_levels n) (lists_at (ports_of nodes (carried edges)) (length before)) (list_at all.given (length before))
  sound_went before after n whole is found =
      let here = at before after n whole in
      lawful_as here.role.node n (map taken_of here.end.takers) (lists_at (ports_of nodes (carried edges)) (length before)) here.gave.given (list_at all.given (length before)) here.node_is (lists_went before after n whole) (sym here.given_is)
      (here.gave.sound (ap (λ (x : PlanNode). is_source x.kind) here.node_is ∙ is) (sym here.lacked_is ∙ found))

  -- and gave a beginning and one Broken where memory was lacking
  lost_went : (before after : List PlanNode) (n : PlanNode) → nodes ≡ before ++ n ∷ after → is_source n.kind ≡ false → is_output n.kind ≡ false → lacked_at ends (length before) ≡ true → LostWent n (lists_at (ports_of nodes (carried edges)) (length before)) (list_at all.given (length before))
  lost_went before after n whole is inner lacked =
      let here = at before after n whole in
      lost_as here.role.node n (map taken_of here.end.takers) (lists_at (ports_of nodes (carried edges)) (length before)) here.gave.given (list_at all.given (length before)) here.node_is (lists_went before after n whole) (sym here.given_is)
      (here.gave.lost (ap (λ (x : PlanNode). is_source x.kind) here.node_is ∙ is) (ap (λ (x : PlanNode). is_output x.kind) here.node_is ∙ inner) (sym here.lacked_is ∙ lacked))

  -- an output gave what its port passes on
  passed_went : (before after : List PlanNode) (n : PlanNode) → nodes ≡ before ++ n ∷ after → is_output n.kind ≡ true → list_at all.given (length before) ≡ pass n.level (list_at (lists_at (ports_of nodes (carried edges)) (length before)) 0)
  passed_went before after n whole is =
      let here = at before after n whole in
      here.given_is ∙ (here.gave.passed (ap (λ (x : PlanNode). is_output x.kind) here.node_is ∙ is) ∙ (ap (λ (x : PlanNode). pass x.level (list_at (map taken_of here.end.takers) 0)) here.node_is ∙ ap (λ ls. pass n.level (list_at ls 0)) (lists_went before after n whole)))

  -- what went over the edges of the plan
  pub all_went : Went rest faults nodes sources (ports_of nodes (carried edges)) all.given (lacked_at ends) (sources_left ends)
  all_went = record {
    edges = edges_went nodes (map takers_left ends) (map putters_left ends) edges all.given closed all.sent;
    source = source_went;
    end = end_went;
    sound = sound_went;
    lost = lost_went;
    passed = passed_went;
  }

-- where memory was found for each node, what went is a run
pub went_run : {S : Type 0} (rest : S → Option (List ℕ)) (faults : S → ℕ) (nodes : List PlanNode) (sources : List S) (ports : List Lists) (given : Lists) (lacked : ℕ → Bool) (ends : List (SourceEnd S)) → Went rest faults nodes sources ports given lacked ends → ((k : ℕ) → k < length nodes → lacked k ≡ false) → IsRun nodes (sources_in nodes given) ports given
went_run rest faults nodes sources ports given lacked ends went found = record {
  node = λ before after n whole. record {
    source = λ is. sym (ap (λ (ns : List PlanNode). list_at (sources_in ns given) (source_count before)) whole ∙ source_at before after n given is);
    lawful = λ is. went.sound before after n whole is (found (length before) (place_within nodes before after n whole));
  };
  edges = went.edges;
}
