-- What a stream wrote of a strong output, whatever its status.
use Rattle.std.proofs.Common.{◌≡◌, ℕ, zero, suc, ◌+◌, inl, inr, List, [], ◌∷◌, ◌++◌, Bool, true, false, cond, length, map, take, Option, Some, None, refl, ap, sym, ◌∙◌, subst, arith}
use Rattle.std.specs.Io.KnownBytes.{Appends, Keeps}
use Rattle.std.proofs.KnownBytes.{Appends-kept, Keeps-refl}
use Rattle.std.proofs.lemmas.List.{append-nil, map-append}
use Rattle.std.proofs.lemmas.List.Concat.{flat_map-append}
use Rattle.std.proofs.lemmas.List.Sums.{sum_by-cons}
use Rattle.cedr_base.specs.declared.change.Change.{Change}
use Rattle.cedr_base.specs.declared.change.Change.TheVariants.{Add}
use Rattle.cedr_base.specs.declared.change.Message.{Message}
use Rattle.cedr_base.specs.declared.row.Row.{Row}
use Rattle.cedr_base.specs.Messages.{IsLegal, IsTableOf, changes_of}
use Rattle.cedr_base.specs.Rows.{in_order}
use Rattle.cedr_guard.specs.declared.refusal.Refusal.{Refusal}
use Rattle.cedr_guard.specs.Messages.{messages_behind}
use Rattle.cedr_guard.specs.Sources.{ending, history_of_bytes, judged, messages_of}
use Rattle.cedr_io.specs.Asked.{AppendsFront}
use Rattle.node_laws.specs.Lawful.{has_broken}
use Rattle.node_laws.specs.Lists.{Lists, list_at}
use Rattle.node_laws.specs.Pass.{added}
use Rattle.change_laws.proofs.Legal.{legal_first}
use Rattle.node_laws.proofs.Ends.{broken-append, open_unbroken}
use Rattle.plan_runs.proofs.PlanNodes.{split, Split}
use Rattle.plan_runs.proofs.Output.{output_kind}
use Rattle.cedr_guard.proofs.MessageLemmas.{accepted_messages}
use Rattle.cedr_guard.proofs.SourceLemmas.{good_accepted}
use Rattle.cedr_text.proofs.ReadingLemmas.{reading_event}
use Rattle.cedr_plan.specs.declared.plan.Plan.{Plan}
use Rattle.cedr_plan.specs.declared.plan.PlanNode.{PlanNode}
use Rattle.cedr_plan.specs.Rules.{IsPlan}
use Rattle.cedr_query.specs.Queries.{query}
use Rattle.cedr_plan.specs.Places.{is_source, output_place, source_count}
use Rattle.cedr_plan.proofs.PlaceLemmas.{output_stands, place_within}
use Rattle.plan_runs.specs.Without.{Remembers}
use Rattle.plan_answer.specs.Answers.{has_memory, is_finite}
use Rattle.plan_answer.specs.Queries.{IsStrong, changes_text, source_nodes}
use Rattle.plan_answer.specs.Sources.{file_of, source_files}
use Rattle.cedr_table.specs.Operators.{Tables, table_at}
use Rattle.cedr_text.specs.declared.event_line.Shape.{Shape}
use Rattle.cedr_text.specs.declared.event_line.Shape.TheVariants.{Fields}
use Rattle.cedr_text.specs.Texts.{change_text}
use Rattle.node_laws.specs.Approaching.{AddsFirst}
use Rattle.plan_runs.specs.Partials.{AllBeginTables, BeginsTable}
use Rattle.node_laws.proofs.Additions.{only_adds}
use Rattle.plan_runs.proofs.PartialOutput.{output_adds, output_ascends}
use Rattle.cedr_commands.specs.declared.command.Job.{Job}
use Rattle.cedr_commands.specs.declared.command.Job.TheVariants.{History, Check, Serial, Run, Pool, Parts, Stream, Audit, Live, Make, Save, Resume, Follow, FollowFrom}
use Rattle.cedr_commands.specs.Answers.{AddsInOrder, AllHaveBegun, HasBegun, StreamsSoFar}
use Rattle.cedr_commands.specs.Seen.{FilesSeen, SinkSeen}
use Rattle.cedr_run.specs.Strong.{AddsGood, AllHaveGood, StreamsPlan, StreamsStrong, WroteGood, WroteStrong}
use Rattle.cedr_run.proofs.BegunLemmas.{AllOrdered}
use Rattle.cedr_commands.proofs.EndingLemmas.{IsOpened, nothing_is_front, opened_told, told_same}
use Rattle.cedr_run.proofs.StreamLemmas.{front_longer}

-- ---- the messages of good lines

ending_unbroken : (fault : Option Refusal) → has_broken (ending fault) ≡ false
ending_unbroken None = refl
ending_unbroken (Some refusal) = refl

-- no message of a source is a break
messages_unbroken : (shape : Shape) (bytes : List ℕ) → has_broken (messages_of shape bytes) ≡ false
messages_unbroken shape bytes =
    let good = (judged shape bytes).good in
    let opened = (accepted_messages good (good_accepted reading_event shape bytes)).all.goes_on in
    broken-append (messages_behind [] good) (ending (judged shape bytes).fault) (open_unbroken (messages_behind [] good) opened) ∙ ending_unbroken (judged shape bytes).fault

-- ---- the sources of a plan

-- there are as many sources as nodes that are
sources_at : (b : Bool) (n : PlanNode) (xs : List PlanNode) (k m : ℕ) → length xs ≡ k → m ≡ cond {A = ℕ} b 1 0 + k → length (cond b (n ∷ xs) xs) ≡ m
sources_at true n xs k m long is = omega (arith, long, is)
sources_at false n xs k m long is = omega (arith, long, is)

source_nodes_count : (nodes : List PlanNode) → length (source_nodes nodes) ≡ source_count nodes
source_nodes_count [] = refl
source_nodes_count (n ∷ nodes) =
    sources_at (is_source n.kind) n (source_nodes nodes) (source_count nodes) (source_count (n ∷ nodes)) (source_nodes_count nodes) (sum_by-cons (λ (x : PlanNode). cond {A = ℕ} (is_source x.kind) 1 0) n nodes)

begin_more : (l : List Message) (ls : Lists) (t : List Row) (ts : Tables) (n m : ℕ) → m ≡ 1 + n → BeginsTable l t → AllBeginTables n ls ts → AllBeginTables m (l ∷ ls) (t ∷ ts)
begin_more l ls t ts n m is one all zero within = one
begin_more l ls t ts n m is one all (suc k) within = all k (omega (arith, within, is))

-- the sources' histories, and what they gave by now
abbrev pub HaveBegun : (List ℕ → List ℕ) → List PlanNode → Lists → Type 0
HaveBegun told nodes lists = (histories : Tables) × AllHaveGood told nodes histories × AllBeginTables (length nodes) lists histories

-- the messages of any bytes are legal
abbrev pub Legal : Type 0
Legal = (shape : Shape) (bytes : List ℕ) → IsLegal (messages_of shape bytes)

-- and have the canonical history of the good lines as their table
abbrev pub Table : Type 0
Table = (shape : Shape) (bytes : List ℕ) → IsTableOf (messages_of shape bytes) (history_of_bytes shape bytes)

module _ (told : List ℕ → List ℕ) (legal : Legal) (table : Table) where
  one_begun : (n : PlanNode) (ms : List Message) (b : HasBegun told n ms) → BeginsTable ms (history_of_bytes b.shape (told (file_of n.kind)))
  one_begun n ms b = record {
    whole = messages_of b.shape (told (file_of n.kind));
    first = b.first;
    legal = legal b.shape (told (file_of n.kind));
    unbroken = messages_unbroken b.shape (told (file_of n.kind));
    table = table b.shape (told (file_of n.kind));
  }

  all_begun : (nodes : List PlanNode) (lists : Lists) → AllHaveBegun told nodes lists → HaveBegun told nodes lists
  all_begun [] [] h = ([], tt, λ k within. absurd (omega arith))
  all_begun [] (l ∷ ls) h = absurd h
  all_begun (n ∷ nodes) [] h = absurd h
  all_begun (n ∷ nodes) (l ∷ ls) h =
      let rest = all_begun nodes ls h.1 in
      let here = history_of_bytes h.0.shape (told (file_of n.kind)) in (
        here ∷ rest.0,
        (record { shape = h.0.shape; types = h.0.types; history_is = refl }, rest.1),
        begin_more l ls here rest.0 (length nodes) (length (n ∷ nodes)) (omega arith) (one_begun n l h.0) rest.2,
      )

-- there are good lines also where nothing was read
some_good : (told : List ℕ → List ℕ) (nodes : List PlanNode) → (histories : Tables) × AllHaveGood told nodes histories
some_good told [] = ([], tt)
some_good told (n ∷ nodes) =
    let rest = some_good told nodes in
    let shape : Shape = Fields n.types in
    (history_of_bytes shape (told (file_of n.kind)) ∷ rest.0, (record { shape = shape; types = refl; history_is = refl }, rest.1))

-- ---- texts

-- the first additions of some rows have the first of their lines
record Begun (text whole : List ℕ) : Type 0 where
  rest : List ℕ
  all : text ++ rest ≡ whole

first_lines : (cs : List Change) (rows : List Row) → AddsFirst cs rows → Begun (changes_text cs) (changes_text (map (λ (r : Row). Add r) (in_order rows)))
first_lines cs rows a =
    let first = map (λ (r : Row). Add r) a.first in
    let later = map (λ (r : Row). Add r) a.rest in
    record {
      rest = changes_text later;
      all =
          ap (λ (ds : List Change). changes_text ds ++ changes_text later) a.changes_are
          ∙ (sym (flat_map-append change_text first later) ∙ ap changes_text (sym (map-append (λ (r : Row). Add r) a.first a.rest) ∙ ap (λ (rs : List Row). map (λ (r : Row). Add r) rs) a.all));
    }

-- a plan that remembers has no finite memory
no_memory : (nodes : List PlanNode) → Remembers nodes → has_memory nodes ≡ false
no_memory [] h = refl
no_memory (n ∷ nodes) h = let a = ap is_finite h.0 in let b = no_memory nodes h.1 in cc

-- no bytes were written: what was a front still is one
take_none : (n : ℕ) → take {A = ℕ} n [] ≡ []
take_none zero = refl
take_none (suc n) = refl

kept_by_none : (old new : Option (List ℕ)) (bytes : List ℕ) → bytes ≡ [] → Appends old new bytes → Keeps old new
kept_by_none None new bytes none grows = tt
kept_by_none (Some xs) None bytes none grows = grows
kept_by_none (Some xs) (Some ys) bytes none grows = grows ∙ (ap (λ (bs : List ℕ). xs ++ bs) none ∙ append-nil xs)

-- what was a front of a text still is one where nothing more was written
pub front_kept : (old now new : Option (List ℕ)) (text : List ℕ) → AppendsFront old now text → Keeps now new → AppendsFront old new text
front_kept old now new text front keeps = record { count = front.count; grows = Appends-kept old now new (take front.count text) front.grows keeps }

-- where no bytes were written, nothing was
pub none_kept : (old new : Option (List ℕ)) → Appends old new [] → Keeps old new
none_kept old new grows = kept_by_none old new [] refl grows

-- nor where a front of none was
pub no_front_kept : (old new : Option (List ℕ)) → AppendsFront old new [] → Keeps old new
no_front_kept old new front = kept_by_none old new (take front.count []) (take_none front.count) front.grows

-- what follows the changes, where nothing is forgotten
pub no_tail : (nodes : List PlanNode) (tail : List ℕ) → Remembers nodes → cond (has_memory nodes) tail [] ≡ []
no_tail nodes tail h = ap (λ (b : Bool). cond b tail []) (no_memory nodes h)

-- ---- a strong output

all_legal : (told : List ℕ → List ℕ) → Legal → (nodes : List PlanNode) (lists : Lists) → AllHaveBegun told nodes lists → (k : ℕ) → IsLegal (list_at lists k)
all_legal told legal nodes [] h k = tt
all_legal told legal [] (l ∷ ls) h k = absurd h
all_legal told legal (n ∷ nodes) (l ∷ ls) h zero = legal_first [] l h.0.first.rest (subst IsLegal (sym h.0.first.all) (legal h.0.shape (told (file_of n.kind))))
all_legal told legal (n ∷ nodes) (l ∷ ls) h (suc k) = all_legal told legal nodes ls h.1 k

-- whatever the ports forgot, a strong output adds rows in canonical order
pub adds_in_order : (legal : Legal) (plan : Plan) → IsPlan plan → (told : List ℕ → List ℕ) → AllOrdered told plan.nodes.items
adds_in_order legal plan is told begun ports given first run strong =
    let nodes = plan.nodes.items in
    let at : Split plan.nodes.items (output_place plan.nodes.items) = split nodes (output_place nodes) (place_within plan is) in
    let out = output_kind at.node.kind (output_stands plan at.before at.after at.node is at.whole at.place) in
    let goes = output_ascends nodes begun ports given is.nodes run at.before at.after at.node at.whole out (λ k within. all_legal told legal (source_nodes nodes) begun first k) (strong at.before at.after at.node at.whole at.place) in
    subst (λ (k : ℕ). AddsInOrder (changes_of (list_at given k))) at.place
    (record { rows = added (changes_of (list_at given (length at.before))); changes_are = only_adds (changes_of (list_at given (length at.before))) goes.0; ascend = goes.1 })

module _ (legal : Legal) (table : Table) (plan : Plan) (is : IsPlan plan) where
  abbrev nodes : List PlanNode
  nodes = plan.nodes.items

  at : Split nodes (output_place nodes)
  at = split nodes (output_place nodes) (place_within plan is)

  -- what a partial run streams begins the lines of the query over the good lines
  streams_good : (told : List ℕ → List ℕ) (text : List ℕ) → IsStrong nodes → Remembers nodes → StreamsSoFar told nodes text → (whole : List ℕ) × AddsGood told nodes whole × Begun text whole
  streams_good told text strong remembers s =
      let got = all_begun told legal table (source_nodes nodes) s.begun s.first in
      let begin : AllBeginTables (source_count nodes) s.begun got.0 = λ k within. got.2 k (omega (arith, within, source_nodes_count nodes)) in
      let out = output_kind at.node.kind (output_stands plan at.before at.after at.node is at.whole at.place) in
      let adds = output_adds nodes s.begun s.ports s.given is.nodes s.run at.before at.after at.node at.whole out got.0 remembers begin (strong at.before at.after at.node at.whole at.place) in
      let rows = table_at (query got.0 nodes) (output_place nodes) in
      let here = subst (λ (k : ℕ). AddsFirst (changes_of (list_at s.given k)) (table_at (query got.0 nodes) k)) at.place adds in
      let lines = first_lines (changes_of (list_at s.given (output_place nodes))) rows here in (
        changes_text (map (λ (r : Row). Add r) (in_order rows)),
        record { histories = got.0; good = got.1; text_is = refl },
        record { rest = lines.rest; all = ap (λ (t : List ℕ). t ++ lines.rest) s.text_is ∙ lines.all },
      )

  -- so a front of it is one of these lines
  pub wrote_good : (told : List ℕ → List ℕ) (text : List ℕ) (out out' : SinkSeen) → IsStrong nodes → Remembers nodes → StreamsSoFar told nodes text → AppendsFront out.written out'.written text → WroteGood told nodes out out'
  wrote_good told text out out' strong remembers s front =
      let good = streams_good told text strong remembers s in
      (good.0, good.1, subst (AppendsFront out.written out'.written) good.2.all (front_longer out.written out'.written text good.2.rest front))

-- and where nothing was written
pub wrote_nothing : (told : List ℕ → List ℕ) (nodes : List PlanNode) (out out' : SinkSeen) → Keeps out.written out'.written → WroteGood told nodes out out'
wrote_nothing told nodes out out' keeps =
    let good = some_good told (source_nodes nodes) in
    let text = changes_text (map (λ (r : Row). Add r) (in_order (table_at (query good.0 nodes) (output_place nodes)))) in
    (text, record { histories = good.0; good = good.1; text_is = refl }, nothing_is_front out.written out'.written text keeps)

-- the same, where the output is strong
pub wrote_nothing_strong : (content : List ℕ → Option (List ℕ)) (nodes : List PlanNode) (out out' : SinkSeen) → out' ≡ out → WroteStrong content nodes out out'
wrote_nothing_strong content nodes out out' same strong remembers told known = wrote_nothing told nodes out out' (subst (λ (s : SinkSeen). Keeps out.written s.written) (sym same) (Keeps-refl out.written))

-- where the files hold what they held
pub strong_later : (before after : List ℕ → Option (List ℕ)) (nodes : List PlanNode) (out out' : SinkSeen) → ((name : List ℕ) → after name ≡ before name) → WroteStrong after nodes out out' → WroteStrong before nodes out out'
strong_later before after nodes out out' same wrote strong remembers told known = wrote strong remembers told (told_same before after told (source_files nodes) same known)

-- ---- the plan of a file

-- no plan was opened
pub streams_nothing : (files : FilesSeen) (file : List ℕ) (out out' : SinkSeen) → out' ≡ out → StreamsPlan files file out out'
streams_nothing files file out out' same = inl (subst (λ (s : SinkSeen). Keeps out.written s.written) (sym same) (Keeps-refl out.written))

-- the plan that a file describes was opened, and its stream wrote such a front
pub streams_plan : (files files' : FilesSeen) (file : List ℕ) (nodes : List PlanNode) (out out' : SinkSeen) → IsOpened files file nodes → ((name : List ℕ) → files'.content name ≡ files.content name) → WroteStrong files'.content nodes out out' → StreamsPlan files file out out'
streams_plan files files' file nodes out out' opened same wrote = inr (λ told known. record {
  nodes = nodes;
  plan = opened_told files file nodes opened told known;
  holding = λ sources strong remembers. wrote strong remembers told (told_same files.content files'.content told (source_files nodes) same sources);
})

-- what is so of a stream is so of each command
pub streams_strong_by : (job : Job) (files : FilesSeen) (file checkpoint script : List ℕ) (out out' : SinkSeen) → (job ≡ Stream → StreamsPlan files file out out') → StreamsStrong (Some (record { job = job; file = file; checkpoint = checkpoint; script = script })) files out out'
streams_strong_by Stream files file checkpoint script out out' streams = streams refl
streams_strong_by History files file checkpoint script out out' streams = tt
streams_strong_by Check files file checkpoint script out out' streams = tt
streams_strong_by Serial files file checkpoint script out out' streams = tt
streams_strong_by Run files file checkpoint script out out' streams = tt
streams_strong_by (Pool n) files file checkpoint script out out' streams = tt
streams_strong_by (Parts n) files file checkpoint script out out' streams = tt
streams_strong_by Audit files file checkpoint script out out' streams = tt
streams_strong_by Live files file checkpoint script out out' streams = tt
streams_strong_by (Make n) files file checkpoint script out out' streams = tt
streams_strong_by Save files file checkpoint script out out' streams = tt
streams_strong_by Resume files file checkpoint script out out' streams = tt
streams_strong_by Follow files file checkpoint script out out' streams = tt
streams_strong_by FollowFrom files file checkpoint script out out' streams = tt
