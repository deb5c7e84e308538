-- Workers that are made one by one.
use Rattle.std.proofs.Common.{◌≡◌, ℕ, ◌+◌, Bool, true, false, cond, List, [], ◌∷◌, ◌++◌, length, map, Option, Some, None, refl, sym, ap, ◌∙◌, subst, arith, length-append}
use Rattle.std.specs.Prelude.{count_by, OnOk, Result, Ok, Err}
use Rattle.std.proofs.lemmas.List.{length-map, map-append}
use Rattle.std.proofs.lemmas.List.Elements.{All-cons, filter-append}
use Rattle.std.proofs.lemmas.List.Sums.{sum_by-cons}
use Rattle.logbook.specs.Pages.{Book}
use Rattle.cedr_edge.specs.Ends.{InEnd, OutEnd}
use Rattle.cedr_history.specs.Ends.{ReaderSeen}
use Rattle.cedr_history.specs.Lists.{nothing}
use Rattle.cedr_plan.specs.Drawn.{Node, node_of}
use Rattle.cedr_plan.specs.Places.{is_output, is_source, source_count}
use Rattle.cedr_plan.specs.declared.plan.NodeKind.{NodeKind}
use Rattle.cedr_plan.specs.declared.plan.NodeKind.TheVariants as kind
use Rattle.cedr_plan.specs.declared.plan.PlanNode.{PlanNode}
use Rattle.plan_edges.specs.Wires.{AreWired}
use Rattle.op_node.specs.Ready.{IsReady}
use Rattle.plan_workers.specs.declared.held.HeldWriter.{HeldWriter}
use Rattle.plan_workers.specs.declared.worker.Worker.{Worker}
use Rattle.plan_workers.specs.Crews.{IsCrew, content_in, count_in, source_roles}
use Rattle.plan_workers.specs.Making.{AllCanWork, AreMade, Awaits, HasWriter, IsMade, sources_of_worker}
use Rattle.plan_workers.specs.Roles.{Role}

-- ---- the writer

-- what a node adds to the number of outputs
abbrev counted : Node → ℕ
counted node = cond {A = ℕ} (is_output node.kind) 1 0

-- how many outputs there are with one node more
pub outputs_more : (n : PlanNode) (nodes : List PlanNode) → count_by (λ (node : Node). is_output node.kind) (map node_of (n ∷ nodes)) ≡ cond {A = ℕ} (is_output n.kind) 1 0 + count_by (λ (node : Node). is_output node.kind) (map node_of nodes)
outputs_more n nodes =
    sum_by-cons counted (node_of n) (map node_of nodes)

-- the writer is there for an output
pub writer_there : {R : Type 0} (history : Book) (w : Option (HeldWriter R)) (n : PlanNode) (nodes : List PlanNode) → Awaits history w (n ∷ nodes) → is_output n.kind ≡ true → HasWriter history w
writer_there history None n nodes awaits is = let one = ap {B = ℕ} (λ (b : Bool). cond {A = ℕ} b 1 0) is in absurd (omega (arith, awaits, one, outputs_more n nodes))
writer_there history (Some held) n nodes awaits is = awaits.0

-- and is gone after it; after any other node it is as it was
pub writer_behind : {R : Type 0} (history : Book) (w w' : Option (HeldWriter R)) (n : PlanNode) (nodes : List PlanNode) → Awaits history w (n ∷ nodes) → (is_output n.kind ≡ true → w' ≡ None) → (is_output n.kind ≡ false → w' ≡ w) → Awaits history w' nodes
writer_behind {R} history w w' n nodes awaits gone same = by (is_output n.kind) refl
  where
    fewer : (v : Option (HeldWriter R)) → Awaits history v (n ∷ nodes) → is_output n.kind ≡ false → Awaits history v nodes
    fewer None a isnt = let none = ap {B = ℕ} (λ (b : Bool). cond {A = ℕ} b 1 0) isnt in omega (arith, a, none, outputs_more n nodes)
    fewer (Some held) a isnt = let none = ap {B = ℕ} (λ (b : Bool). cond {A = ℕ} b 1 0) isnt in let most = a.1 in (a.0, omega (arith, most, none, outputs_more n nodes))

    last : (v : Option (HeldWriter R)) → Awaits history v (n ∷ nodes) → is_output n.kind ≡ true → count_by (λ (node : Node). is_output node.kind) (map node_of nodes) ≡ 0
    last None a is = let one = ap {B = ℕ} (λ (b : Bool). cond {A = ℕ} b 1 0) is in omega (arith, a, one, outputs_more n nodes)
    last (Some held) a is = let one = ap {B = ℕ} (λ (b : Bool). cond {A = ℕ} b 1 0) is in let most = a.1 in omega (arith, most, one, outputs_more n nodes)

    by : (b : Bool) → is_output n.kind ≡ b → Awaits history w' nodes
    by true is = subst (λ (v : Option (HeldWriter R)). Awaits history v nodes) (sym (gone is)) (last w awaits is)
    by false isnt = subst (λ (v : Option (HeldWriter R)). Awaits history v nodes) (sym (same isnt)) (fewer w awaits isnt)

-- ---- the workers

-- no worker for no node
pub none_made : {S R : Type 0} (rest : S → Option (List ℕ)) (faults : S → ℕ) (number : ℕ) (history : Book) → AreMade {S = S} {R = R} rest faults number [] [] [] [] history []
none_made rest faults number history = record {
  roles = [];
  stand = refl;
  numbers = tt;
  takes = refl;
  puts = refl;
  contents = refl;
  counts = refl;
  histories = λ k d lt. absurd (omega (arith, lt));
  work = tt;
}

-- a worker, and those of the nodes after its own
pub made_more : {S R : Type 0} (rest : S → Option (List ℕ)) (faults : S → ℕ) (number : ℕ) (n : PlanNode) (nodes : List PlanNode) (t : List InEnd) (ts : List (List InEnd)) (p : List OutEnd) (ps : List (List OutEnd)) (left left' : List S) (history : Book) (w : Worker S R) (ws : List (Worker S R))
    → IsMade rest faults number n t p history w → left ≡ sources_of_worker w ++ left' → AreMade rest faults (number + 1) nodes ts ps left' history ws → AreMade rest faults number (n ∷ nodes) (t ∷ ts) (p ∷ ps) left history (w ∷ ws)
made_more {S} {R} rest faults number n nodes t ts p ps left left' history w ws one sources some = record {
  roles = one.role ∷ some.roles;
  stand = cc (one.stands, some.stand);
  numbers = (one.numbered, some.numbers);
  takes = cc (one.takes, some.takes);
  puts = cc (one.puts, some.puts);
  contents = each content_in rest one.contents some.contents;
  counts = each count_in faults one.counts some.counts;
  histories = All-cons (λ (role : Role). role.history ≡ history) one.role some.roles one.history_is some.histories;
  work = (one.works, some.work);
}
  where
    each : {A : Type 0} (of : Role → A) (from : S → A) → map of (source_roles (one.role ∷ [])) ≡ map from (sources_of_worker w) → map of (source_roles some.roles) ≡ map from left' → map of (source_roles (one.role ∷ some.roles)) ≡ map from left
    each of from first others =
        let roles = ap (map of) (filter-append (λ (role : Role). is_source role.node.kind) (one.role ∷ []) some.roles) ∙ map-append of (source_roles (one.role ∷ [])) (source_roles some.roles) in
        let all = ap (map from) sources ∙ map-append from (sources_of_worker w) left' in
        cc (roles, all, first, others)

-- where no node is left, no worker is made
pub none_left : {S R : Type 0} (rest : S → Option (List ℕ)) (faults : S → ℕ) (number : ℕ) (nodes : List PlanNode) (ts : List (List InEnd)) (ps : List (List OutEnd)) (left : List S) (history : Book)
    → length nodes ≡ 0 → AllCanWork nodes ts ps → length left ≡ source_count nodes → AreMade {S = S} {R = R} rest faults number nodes ts ps left history []
none_left rest faults number [] [] [] [] history none can count = none_made rest faults number history
none_left rest faults number [] [] [] (s ∷ left) history none can count = absurd (omega (arith, count))
none_left rest faults number [] [] (p ∷ ps) left history none can count = absurd can
none_left rest faults number [] (t ∷ ts) ps left history none can count = absurd can
none_left rest faults number (n ∷ nodes) ts ps left history none can count = absurd (omega (arith, none))

-- a worker reads as many sources as its node is
pub made_count : {S R : Type 0} (rest : S → Option (List ℕ)) (faults : S → ℕ) (number : ℕ) (n : PlanNode) (nodes : List PlanNode) (t : List InEnd) (p : List OutEnd) (history : Book) (w : Worker S R)
    → IsMade rest faults number n t p history w → source_count (n ∷ nodes) ≡ length (sources_of_worker w) + source_count nodes
made_count {S} rest faults number n nodes t p history w one =
    let counted = ap (λ (ks : List ℕ). length ks) one.counts in
    let here = one_count one.role in
    let same : cond {A = ℕ} (is_source one.role.node.kind) 1 0 ≡ cond {A = ℕ} (is_source n.kind) 1 0 = ap (λ (k : PlanNode). cond {A = ℕ} (is_source k.kind) 1 0) one.stands in
    omega (arith, counted, here, same, length-map (source_roles (one.role ∷ [])) count_in, length-map (sources_of_worker w) faults, sum_by-cons (λ (k : PlanNode). cond {A = ℕ} (is_source k.kind) 1 0) n nodes)
  where
    by : (b : Bool) (role : Role) → length (cond b (role ∷ []) []) ≡ cond {A = ℕ} b 1 0
    by true role = refl
    by false role = refl

    one_count : (role : Role) → length (source_roles (role ∷ [])) ≡ cond {A = ℕ} (is_source role.node.kind) 1 0
    one_count role = by (is_source role.node.kind) role

-- ---- all workers of a plan

-- workers that were made for all nodes of a plan are its workers
pub crew_made : {S R : Type 0} (rest : S → Option (List ℕ)) (faults : S → ℕ) (nodes : List PlanNode) (takers : List (List InEnd)) (putters : List (List OutEnd)) (sources : List S) (workers : List (Worker S R)) (reader : ReaderSeen)
    → AreWired nodes takers putters → (reader.seen ≡ nothing) × (reader.last ≡ None) → AreMade rest faults 0 nodes takers putters sources reader.history workers → IsCrew rest faults nodes sources workers reader
crew_made rest faults nodes takers putters sources workers reader wired new made = record {
  takers = takers;
  putters = putters;
  roles = made.roles;
  wired = wired;
  roles_are = record {
    nodes_are = made.stand;
    numbers = made.numbers;
    takes = made.takes;
    puts = made.puts;
    contents = made.contents;
    counts = made.counts;
    histories = made.histories;
  };
  work = made.work;
  new = new;
}

-- what follows of what holds where no error is answered
pub on_ok : {T E : Type 0} (r : Result T E) {P Q : Type 0} → (P → Q) → OnOk r P → OnOk r Q
on_ok (Ok x) f p = f p
on_ok (Err e) f p = tt

-- ---- one worker

-- an output has one port
pub output_ports : (k : NodeKind) (ports : ℕ) → is_output k ≡ true → (is_source k ≡ false → IsReady k ports) → ports ≡ 1
output_ports kind.Output ports is ready = ready refl
output_ports other ports is ready = absurd (cc is)

-- an output is no source
pub output_no_source : (k : NodeKind) → is_output k ≡ true → is_source k ≡ false
output_no_source kind.Output is = refl
output_no_source other is = absurd (cc is)

-- the last of one end is that end
pub only_end : (rest ends : List InEnd) (e : InEnd) → length ends ≡ 1 → ends ≡ rest ++ e ∷ [] → (rest ≡ []) × (ends ≡ e ∷ [])
only_end [] ends e one are = (refl, are)
only_end (r ∷ rest) ends e one are = absurd (omega (arith, one, ap (λ (xs : List InEnd). length xs) are, length-append rest (e ∷ [])))

-- what the role of a source's worker says of its source is what is known of that source
pub source_told : {A S : Type 0} (of : Role → A) (from : S → A) (role : Role) (s : S) → is_source role.node.kind ≡ true → of role ≡ from s → map of (source_roles (role ∷ [])) ≡ map from (s ∷ [])
source_told {A} {S} of from role s is same = ap (λ (b : Bool). map of (cond b (role ∷ []) [])) is ∙ ap (λ (a : A). a ∷ []) same

-- the role of any other worker isn't one of a source
pub other_told : {A : Type 0} (of : Role → A) (role : Role) → is_source role.node.kind ≡ false → map of (source_roles (role ∷ [])) ≡ []
other_told of role isnt = ap (λ (b : Bool). map of (cond b (role ∷ []) [])) isnt
