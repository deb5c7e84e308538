-- What is left of a plan's workers, sorted by what it is.
use Rattle.std.proofs.Common.{◌≡◌, ℕ, zero, suc, ◌≤◌, Bool, true, false, cond, List, [], ◌∷◌, ◌++◌, length, map, Option, Some, None, refl, sym, ap, ◌∙◌, subst, arith, append_assoc, length-append}
use Rattle.std.specs.Prelude.{count_by, option_to_list}
use Rattle.std.specs.List.{All, list_any}
use mathlib.Core.List.{IsPrefix}
use Rattle.std.proofs.lemmas.Bool.{or_parts}
use Rattle.std.proofs.lemmas.List.Elements.{All-append, All-cons, All-head, All-nil, All-tail}
use Rattle.logbook.specs.Pages.{Book}
use Rattle.cedr_base.specs.declared.change.Change.{Change}
use Rattle.cedr_base.specs.declared.change.Message.{Message}
use Rattle.cedr_base.specs.declared.level.Level.{Level}
use Rattle.cedr_base.specs.Messages.{changes_of}
use Rattle.cedr_edge.specs.Ends.{InEnd, OutEnd, taken_of}
use Rattle.cedr_history.specs.declared.listed.Listed.{Listed}
use Rattle.node_laws.specs.Lists.{Lists, list_at}
use Rattle.node_laws.specs.Pass.{pass}
use Rattle.cedr_plan.specs.Drawn.{Node as DrawnNode, node_of}
use Rattle.cedr_plan.specs.Places.{is_output, is_source}
use Rattle.cedr_plan.specs.Rules.{IsPlan}
use Rattle.cedr_plan.specs.declared.plan.NodeKind.{NodeKind}
use Rattle.cedr_plan.specs.declared.plan.Plan.{Plan}
use Rattle.cedr_plan.specs.declared.plan.PlanNode.{PlanNode}
use Rattle.plan_runs.specs.Runs.{lists_at}
use Rattle.plan_workers.specs.declared.ended.Ended.{Ended}
use Rattle.plan_workers.specs.declared.ended.Part.{Part}
use Rattle.plan_workers.specs.declared.ended.Part.TheVariants as part
use Rattle.plan_workers.specs.declared.held.HeldWriter.{HeldWriter}
use Rattle.plan_workers.specs.Crews.{AreRoles, node_in}
use Rattle.plan_workers.specs.Ends.{AllEndAs, PartEndsAs}
use Rattle.plan_workers.specs.Roles.{Role}
use Rattle.plan_workers.specs.Sortings.{source_ends_in, writer_left, writers_in}
use Rattle.plan_workers.specs.Wents.{lacked_at, part_lacked, part_left, source_left, sources_left, takers_left}
use Rattle.plan_workers.proofs.MakeLemmas.{output_no_source, outputs_more}
use Rattle.plan_workers.proofs.WentLemmas.{lacked_later}

-- ---- one of some

-- where there is one in all, none was found before it
pub only_one : {X : Type 0} (found : Option X) (x : X) (rest all : List X) → length all ≡ 1 → option_to_list found ++ x ∷ rest ≡ all → x ∷ rest ≡ all
only_one None x rest all one are = are
only_one (Some y) x rest all one are = absurd (omega (arith, one, ap length are))

-- what stands among one is that one
only_that : {X : Type 0} (firsts lasts : List X) (x y : X) → y ∷ [] ≡ firsts ++ x ∷ lasts → x ≡ y
only_that [] lasts x y are = cc are
only_that (f ∷ firsts) lasts x y are = absurd (omega (arith, ap length are, length-append firsts (x ∷ lasts)))

-- ---- memory

-- where memory was lacking for none, it wasn't for the node at a place
pub none_lacked : {S R : Type 0} (ends : List (Ended S R)) → list_any part_lacked (map part_left ends) ≡ false → (k : ℕ) → lacked_at ends k ≡ false
none_lacked [] none k = refl
none_lacked (e ∷ es) none zero = (or_parts (part_lacked e.part) (list_any part_lacked (map part_left es)) none).0
none_lacked (e ∷ es) none (suc k) = lacked_later e es k ∙ none_lacked es (or_parts (part_lacked e.part) (list_any part_lacked (map part_left es)) none).1 k

-- ---- the sources

-- the ends of the sources are those of the parts
pub sources_sorted : {S R : Type 0} (ends : List (Ended S R)) → sources_left ends ≡ source_ends_in (map part_left ends)
sources_sorted [] = refl
sources_sorted (e ∷ es) = ap (λ ss. source_left e.part ++ ss) (sources_sorted es)

-- there are at most as many as parts
pub sources_most : {S R : Type 0} (parts : List (Part S R)) → length (source_ends_in parts) ≤ length parts
sources_most [] = omega arith
sources_most (part.Source end ∷ ps) = omega (arith, sources_most ps)
sources_most (part.Operator node lacked ∷ ps) = omega (arith, sources_most ps)
sources_most (part.Output node lacked held ∷ ps) = omega (arith, sources_most ps)

-- ---- the writer of the result

-- what is no output has no writer
none_of : (k : NodeKind) → is_output k ≡ false → 0 ≡ cond {A = ℕ} (is_output k) 1 0
none_of k isnt = ap (λ (b : Bool). cond {A = ℕ} b 1 0) (sym isnt)

-- a source is no output
source_no_output : (k : NodeKind) → is_source k ≡ true → is_output k ≡ false
source_no_output k is = by (is_output k) refl
  where
    by : (b : Bool) → is_output k ≡ b → b ≡ false
    by true output = absurd (cc (is, output_no_source k output))
    by false output = refl

-- a writer is left of an output's worker, and none of another
writer_count : {S R : Type 0} (rest : S → Option (List ℕ)) (faults : S → ℕ) (role : Role) (lists : Lists) (putters : List OutEnd) (left : Part S R) → PartEndsAs rest faults role lists putters left → length (writer_left left) ≡ cond {A = ℕ} (is_output role.node.kind) 1 0
writer_count rest faults role lists putters (part.Source end) is = none_of role.node.kind (source_no_output role.node.kind is.kind)
writer_count rest faults role lists putters (part.Operator node lacked) is = none_of role.node.kind is.output
writer_count rest faults role lists putters (part.Output node lacked held) is = ap (λ (b : Bool). cond {A = ℕ} b 1 0) (sym is.output)

-- as many writers are left as there are outputs
writers_count : {S R : Type 0} (rest : S → Option (List ℕ)) (faults : S → ℕ) (roles : List Role) (ends : List (Ended S R)) → AllEndAs rest faults roles ends → length (writers_in (map part_left ends)) ≡ count_by (λ (node : DrawnNode). is_output node.kind) (map node_of (map node_in roles))
writers_count rest faults [] [] are = refl
writers_count rest faults [] (e ∷ es) are = absurd are
writers_count rest faults (r ∷ rs) [] are = absurd are
writers_count rest faults (r ∷ rs) (e ∷ es) are =
    let here = writer_count rest faults r (map taken_of e.takers) e.putters e.part are.0.part_is in
    omega (arith, here, writers_count rest faults rs es are.1, length-append (writer_left e.part) (writers_in (map part_left es)), outputs_more r.node (map node_in rs))

-- one writer is left of the workers of a plan
pub one_writer : {S R : Type 0} (rest : S → Option (List ℕ)) (faults : S → ℕ) (plan : Plan) (takers : List (List InEnd)) (putters : List (List OutEnd)) (sources : List S) (history : Book) (roles : List Role) (ends : List (Ended S R))
    → IsPlan plan → AreRoles rest faults plan.nodes.items takers putters sources history roles → AllEndAs rest faults roles ends → length (writers_in (map part_left ends)) ≡ 1
one_writer rest faults plan takers putters sources history roles ends is are ended =
    writers_count rest faults roles ends ended ∙ (ap (λ (ns : List PlanNode). count_by (λ (node : DrawnNode). is_output node.kind) (map node_of ns)) are.nodes_are ∙ is.one_output)

-- a writer is of a history, and made no last note
abbrev IsOf : {R : Type 0} → Book → HeldWriter R → Type 0
IsOf history held = (held.writer.history ≡ history) × (held.writer.concluded ≡ false)

-- so is the writer that is left of a worker for that history
writer_of : {S R : Type 0} (rest : S → Option (List ℕ)) (faults : S → ℕ) (role : Role) (lists : Lists) (putters : List OutEnd) (left : Part S R) (history : Book) → PartEndsAs rest faults role lists putters left → role.history ≡ history → All (IsOf {R = R} history) (writer_left left)
writer_of {R = R} rest faults role lists putters (part.Source end) history is same = All-nil (IsOf {R = R} history)
writer_of {R = R} rest faults role lists putters (part.Operator node lacked) history is same = All-nil (IsOf {R = R} history)
writer_of {R = R} rest faults role lists putters (part.Output node lacked held) history is same = All-cons (IsOf {R = R} history) held [] (is.history ∙ same, is.unconcluded) (All-nil (IsOf {R = R} history))

-- and each that is left of the workers
writers_of : {S R : Type 0} (rest : S → Option (List ℕ)) (faults : S → ℕ) (roles : List Role) (ends : List (Ended S R)) (history : Book) → AllEndAs rest faults roles ends → All (λ (role : Role). role.history ≡ history) roles → All (IsOf {R = R} history) (writers_in (map part_left ends))
writers_of {R = R} rest faults [] [] history are same = All-nil (IsOf {R = R} history)
writers_of rest faults [] (e ∷ es) history are same = absurd are
writers_of rest faults (r ∷ rs) [] history are same = absurd are
writers_of {R = R} rest faults (r ∷ rs) (e ∷ es) history are same =
    let here = writer_of rest faults r (map taken_of e.takers) e.putters e.part history are.0.part_is (All-head (λ (role : Role). role.history ≡ history) r rs same) in
    let later = writers_of rest faults rs es history are.1 (All-tail (λ (role : Role). role.history ≡ history) r rs same) in
    All-append (IsOf {R = R} history) (writer_left e.part) (writers_in (map part_left es)) here later

-- the writer of a plan's result is of its history, and made no last note
pub writer_untold : {S R : Type 0} (rest : S → Option (List ℕ)) (faults : S → ℕ) (nodes : List PlanNode) (takers : List (List InEnd)) (putters : List (List OutEnd)) (sources : List S) (history : Book) (roles : List Role) (ends : List (Ended S R)) (held : HeldWriter R)
    → AreRoles rest faults nodes takers putters sources history roles → AllEndAs rest faults roles ends → writers_in (map part_left ends) ≡ held ∷ [] → (held.writer.history ≡ history) × (held.writer.concluded ≡ false)
writer_untold {R = R} rest faults nodes takers putters sources history roles ends held are ended one =
    All-head (IsOf {R = R} history) held [] (subst (All (IsOf {R = R} history)) one (writers_of rest faults roles ends history ended are.histories))

-- ---- the list of the result

-- the changes that were published of what a port passes on: those of its first messages, and all where memory was found
pub record IsPublished (level : Level) (taken : List Message) (lacked : Bool) (published : List Change) : Type 0 where
  pub given : List Message
  pub first : IsPrefix given (pass level taken)
  pub begun : published ≡ changes_of given
  pub whole : lacked ≡ false → published ≡ changes_of (pass level taken)

-- the writer that is left of an output's worker
record Published {S R : Type 0} (role : Role) (lists : Lists) (left : Part S R) : Type 0 where
  pub held : HeldWriter R
  pub alone : writer_left left ≡ held ∷ []
  pub changes : IsPublished role.node.level (list_at lists 0) (part_lacked left) held.writer.published.changes

-- of an output's worker such a writer is left
published : {S R : Type 0} (rest : S → Option (List ℕ)) (faults : S → ℕ) (role : Role) (lists : Lists) (putters : List OutEnd) (left : Part S R) → PartEndsAs rest faults role lists putters left → is_output role.node.kind ≡ true → Published role lists left
published rest faults role lists putters (part.Source end) is output = absurd (cc (output, source_no_output role.node.kind is.kind))
published rest faults role lists putters (part.Operator node lacked) is output = absurd (cc (output, is.output))
published rest faults role lists putters (part.Output node lacked held) is output = record {
  held = held;
  alone = refl;
  changes = subst (λ (n : DrawnNode). IsPublished n.level (list_at lists 0) lacked held.writer.published.changes) is.made (record {
    given = is.begun.given;
    first = is.begun.first;
    begun = ap (λ (l : Listed). l.changes) is.begun.list_is;
    whole = λ found. ap (λ (l : Listed). l.changes) (is.whole found);
  });
}

-- the same among all that is left, of the output after other nodes
record PublishedAt {S R : Type 0} (place : ℕ) (n : PlanNode) (ends : List (Ended S R)) : Type 0 where
  pub held : HeldWriter R
  pub firsts : List (HeldWriter R)
  pub lasts : List (HeldWriter R)
  pub among : writers_in (map part_left ends) ≡ firsts ++ held ∷ lasts
  pub changes : IsPublished n.level (list_at (lists_at (map (map taken_of) (map takers_left ends)) place) 0) (lacked_at ends place) held.writer.published.changes

-- of the first worker
first_published : {S R : Type 0} (r : Role) (e : Ended S R) (es : List (Ended S R)) (n : PlanNode) → r.node ≡ n → Published r (map taken_of e.takers) e.part → PublishedAt 0 n (e ∷ es)
first_published r e es n same here = record {
  held = here.held;
  firsts = [];
  lasts = writers_in (map part_left es);
  among = ap (λ ws. ws ++ writers_in (map part_left es)) here.alone;
  changes = subst (λ (k : PlanNode). IsPublished k.level (list_at (map taken_of e.takers) 0) (part_lacked e.part) here.held.writer.published.changes) same here.changes;
}

-- of a worker after the first
later_published : {S R : Type 0} (e : Ended S R) (es : List (Ended S R)) (place : ℕ) (n : PlanNode) → PublishedAt place n es → PublishedAt (suc place) n (e ∷ es)
later_published {R = R} e es place n later = record {
  held = later.held;
  firsts = writer_left e.part ++ later.firsts;
  lasts = later.lasts;
  among = ap (λ (ws : List (HeldWriter R)). writer_left e.part ++ ws) later.among ∙ sym (append_assoc (writer_left e.part) later.firsts (later.held ∷ later.lasts));
  changes = subst (λ (b : Bool). IsPublished n.level (list_at (lists_at (map (map taken_of) (map takers_left es)) place) 0) b later.held.writer.published.changes) (sym (lacked_later e es place)) later.changes;
}

-- such a writer is left of the output's worker, wherever it stands
published_at : {S R : Type 0} (rest : S → Option (List ℕ)) (faults : S → ℕ) (roles : List Role) (ends : List (Ended S R)) (before after : List PlanNode) (n : PlanNode) → AllEndAs rest faults roles ends → map node_in roles ≡ before ++ n ∷ after → is_output n.kind ≡ true → PublishedAt (length before) n ends
published_at rest faults [] [] [] after n are whole output = absurd (cc whole)
published_at rest faults [] [] (b ∷ before) after n are whole output = absurd (cc whole)
published_at rest faults [] (e ∷ es) before after n are whole output = absurd are
published_at rest faults (r ∷ rs) [] before after n are whole output = absurd are
published_at rest faults (r ∷ rs) (e ∷ es) [] after n are whole output =
    let same : r.node ≡ n = cc whole in
    first_published r e es n same (published rest faults r (map taken_of e.takers) e.putters e.part are.0.part_is (ap (λ (k : PlanNode). is_output k.kind) same ∙ output))
published_at rest faults (r ∷ rs) (e ∷ es) (b ∷ before) after n are whole output = later_published e es (length before) n (published_at rest faults rs es before after n are.1 (cc whole) output)

-- The only writer that is left is the output's, and published a beginning of the changes that its port passes on, also where
-- memory was lacking.
pub writer_begun : {S R : Type 0} (rest : S → Option (List ℕ)) (faults : S → ℕ) (roles : List Role) (ends : List (Ended S R)) (before after : List PlanNode) (n : PlanNode) (held : HeldWriter R)
    → AllEndAs rest faults roles ends → map node_in roles ≡ before ++ n ∷ after → is_output n.kind ≡ true → writers_in (map part_left ends) ≡ held ∷ []
    → IsPublished n.level (list_at (lists_at (map (map taken_of) (map takers_left ends)) (length before)) 0) (lacked_at ends (length before)) held.writer.published.changes
writer_begun {R = R} rest faults roles ends before after n held ended whole output one =
    let at = published_at rest faults roles ends before after n ended whole output in
    subst (λ (h : HeldWriter R). IsPublished n.level (list_at (lists_at (map (map taken_of) (map takers_left ends)) (length before)) 0) (lacked_at ends (length before)) h.writer.published.changes)
    (only_that at.firsts at.lasts at.held held (sym one ∙ at.among)) at.changes

-- Where memory was found for the output, its writer published the changes that its port passes on.
pub writer_published : {S R : Type 0} (rest : S → Option (List ℕ)) (faults : S → ℕ) (nodes : List PlanNode) (takers : List (List InEnd)) (putters : List (List OutEnd)) (sources : List S) (history : Book) (roles : List Role) (ends : List (Ended S R)) (before after : List PlanNode) (n : PlanNode) (held : HeldWriter R)
    → AreRoles rest faults nodes takers putters sources history roles → AllEndAs rest faults roles ends → nodes ≡ before ++ n ∷ after → is_output n.kind ≡ true → lacked_at ends (length before) ≡ false → writers_in (map part_left ends) ≡ held ∷ []
    → held.writer.published.changes ≡ changes_of (pass n.level (list_at (lists_at (map (map taken_of) (map takers_left ends)) (length before)) 0))
writer_published rest faults nodes takers putters sources history roles ends before after n held are ended whole output found one =
    (writer_begun rest faults roles ends before after n held ended (are.nodes_are ∙ whole) output one).whole found
