-- The plan of a workload: which files its sources read, that no node of it forgets, and that no source of it is faulty. Each
-- follows from how its nodes are drawn.
use Rattle.std.proofs.Common.{◌≡◌, ℕ, ◌+◌, ◌≤◌, List, [], ◌∷◌, ◌++◌, Bool, true, false, cond, length, map, Option, None, Some, refl, sym, ap, ◌∙◌, subst, arith}
use Rattle.std.specs.Prelude.{codes, Err, Vec}
use Rattle.std.specs.Global.{Global}
use Rattle.std.specs.Str.{bytes_eq}
use Rattle.cedr_base.specs.declared.change.Message.{Message}
use Rattle.cedr_base.specs.declared.field.FieldType.{FieldType}
use Rattle.cedr_guard.specs.Sources.{judged}
use Rattle.cedr_guard.specs.declared.refusal.Refusal.{Refusal}
use Rattle.node_laws.specs.Lists.{Lists}
use Rattle.cedr_make.specs.BuiltIn.{event_types, built_in}
use Rattle.cedr_make.specs.Generator.{made_text}
use Rattle.cedr_plan.specs.Drawn.{Node, node_of}
use Rattle.cedr_plan.specs.declared.plan.NodeKind.{NodeKind}
use Rattle.cedr_plan.specs.declared.plan.NodeKind.TheVariants as kind
use Rattle.cedr_plan.specs.declared.plan.PlanNode.{PlanNode}
use Rattle.plan_runs.specs.Without.{Remembers}
use Rattle.plan_answer.specs.declared.faulty.FaultySource.{FaultySource}
use Rattle.plan_serial.specs.declared.sources.SourcesFault.{SourcesFault}
use Rattle.plan_serial.specs.declared.sources.SourcesFault.TheVariants.{Events}
use Rattle.plan_serial.specs.Rounds.{all_messages}
use Rattle.plan_serial.specs.Sources.{AnswersSources}
use Rattle.plan_serial.proofs.SourceLemmas.{messages_read}
use Rattle.plan_answer.specs.Sources.{file_of, files_of, source_files, AreTold, HasGiven, AllHaveGiven, fault_here, faulty_from}
use Rattle.cedr_text.specs.Shapes.{ShapeHasTypes}
use Rattle.cedr_text.specs.declared.event_line.Shape.{Shape}
use Rattle.cedr_text.specs.declared.event_line.Shape.TheVariants.{AnyText, Fields}
use Rattle.cedr_plan.specs.Places.{is_source}
use Rattle.cedr_commands.specs.Answers.{made_file}

-- ---- the files of the sources

abbrev drawn_source : NodeKind → Bool
drawn_source (kind.Source file) = true
drawn_source other = false

-- a source is drawn as one
source_drawn : (k : NodeKind) → is_source k ≡ drawn_source k
source_drawn (kind.Source file) = refl
source_drawn other = refl

-- the files of a node that is drawn so
abbrev kind_files : NodeKind → List (List ℕ)
kind_files (kind.Source file) = file ∷ []
kind_files other = []

kind_drawn : (k : NodeKind) → cond (is_source k) (file_of k ∷ []) [] ≡ kind_files k
kind_drawn (kind.Source file) = refl
kind_drawn other = refl

-- the files of the sources among nodes that are drawn so
abbrev drawn_files : List Node → List (List ℕ)
drawn_files [] = []
drawn_files (d ∷ ds) = kind_files d.kind ++ drawn_files ds

files_drawn : (nodes : List PlanNode) → source_files nodes ≡ drawn_files (map node_of nodes)
files_drawn [] = refl
files_drawn (n ∷ nodes) = ap (λ (names : List (List ℕ)). files_of n ++ names) (files_drawn nodes) ∙ ap (λ (names : List (List ℕ)). names ++ drawn_files (map node_of nodes)) (kind_drawn n.kind)

-- where the files hold the texts of both sources, it is known what the sources of the plan read
pub told_made : (content : List ℕ → Option (List ℕ)) (n : ℕ) (nodes : List PlanNode) → map node_of nodes ≡ built_in.nodes → content (codes "a") ≡ Some (made_text 0 n) → content (codes "b") ≡ Some (made_text 1 n)
    → AreTold content (made_file n) (source_files nodes)
told_made content n nodes are a b = subst (AreTold content (made_file n)) (sym (files_drawn nodes ∙ ap drawn_files are)) (a, (b, tt))

-- ---- no node forgets

abbrev AllRemember : List Node → Type 0
AllRemember [] = Unit {0}
AllRemember (d ∷ ds) = (d.level.memory ≡ None) × AllRemember ds

-- nodes remember where they are drawn so
remember_drawn : (nodes : List PlanNode) → AllRemember (map node_of nodes) → Remembers nodes
remember_drawn [] h = tt
remember_drawn (n ∷ nodes) h = (h.0, remember_drawn nodes h.1)

-- each level of the plan is middle
pub made_remembers : (nodes : List PlanNode) → map node_of nodes ≡ built_in.nodes → Remembers nodes
made_remembers nodes are = remember_drawn nodes (subst AllRemember (sym are) (refl, (refl, (refl, (refl, (refl, tt))))))

-- ---- no source is faulty

-- read by the types of events, the text of each source is accepted
abbrev pub AreAcceptable : Type 0
AreAcceptable = (source n : ℕ) (types : Vec FieldType Global) → n ≤ 100000 → types.items ≡ event_types → (judged (Fields types) (made_text source n)).fault ≡ None

-- the sources have the types of events
abbrev AllTyped : List Node → Type 0
AllTyped [] = Unit {0}
AllTyped (d ∷ ds) = (drawn_source d.kind ≡ true → d.types ≡ event_types) × AllTyped ds

built_in_typed : AllTyped built_in.nodes
built_in_typed = ((λ is. refl), ((λ is. refl), ((λ is. cc), ((λ is. cc), ((λ is. cc), tt)))))

text_accepted : AreAcceptable → (n : ℕ) (types : Vec FieldType Global) (first : Bool) → n ≤ 100000 → types.items ≡ event_types → (judged (Fields types) (cond first (made_text 0 n) (made_text 1 n))).fault ≡ None
text_accepted accepted n types true most are = accepted 0 n types most are
text_accepted accepted n types false most are = accepted 1 n types most are

-- so the file of each name is
file_accepted : AreAcceptable → (n : ℕ) (name : List ℕ) (shape : Shape) (types : List FieldType) → n ≤ 100000 → types ≡ event_types → ShapeHasTypes shape types → (judged shape (made_file n name)).fault ≡ None
file_accepted accepted n name AnyText types most are has = absurd has
file_accepted accepted n name (Fields fields) types most are has = text_accepted accepted n fields (bytes_eq name (codes "a")) most (has ∙ are)

-- a node has no fault: a source is accepted, and any other node has none
node_accepted : AreAcceptable → (n : ℕ) (node : PlanNode) (ms : List Message) (fault : Option Refusal) (b : Bool) → n ≤ 100000 → (drawn_source node.kind ≡ true → node.types.items ≡ event_types) → is_source node.kind ≡ b
    → HasGiven (made_file n) node ms fault → fault ≡ None
node_accepted accepted n node ms fault true most typed is given =
    let read = given.source is in
    sym read.2 ∙ file_accepted accepted n (file_of node.kind) read.0 node.types.items most (typed (sym (source_drawn node.kind) ∙ is)) read.1
node_accepted accepted n node ms fault false most typed is given = (given.other is).1

none_faulty : AreAcceptable → (n place : ℕ) (nodes : List PlanNode) (left : Lists) (faults : List (Option Refusal)) → n ≤ 100000 → AllTyped (map node_of nodes) → AllHaveGiven (made_file n) nodes left faults → faulty_from place faults ≡ []
none_faulty accepted n place [] [] [] most typed given = refl
none_faulty accepted n place [] (l ∷ ls) faults most typed given = absurd given
none_faulty accepted n place [] [] (f ∷ faults) most typed given = absurd given
none_faulty accepted n place (m ∷ nodes) [] faults most typed given = absurd given
none_faulty accepted n place (m ∷ nodes) (l ∷ ls) [] most typed given = absurd given
none_faulty accepted n place (m ∷ nodes) (l ∷ ls) (f ∷ faults) most typed given =
    ap (λ (o : Option Refusal). fault_here place o ++ faulty_from (place + 1) faults) (node_accepted accepted n m l f (is_source m.kind) most typed.0 refl given.0)
    ∙ none_faulty accepted n (place + 1) nodes ls faults most typed.1 given.1

-- so reading them never answers that some are
pub made_faultless : AreAcceptable → (n : ℕ) (nodes : List PlanNode) (fault : SourcesFault) (faulty : Vec FaultySource Global) → n ≤ 100000 → map node_of nodes ≡ built_in.nodes → fault ≡ Events faulty
    → AnswersSources (Err fault) (made_file n) nodes → ⊥
made_faultless accepted n nodes fault faulty most are is answer =
    let answered = subst (λ (f : SourcesFault). AnswersSources (Err f) (made_file n) nodes) is answer in
    let read = messages_read (made_file n) nodes answered.0 faulty.items answered.1 in
    let none : faulty.items ≡ [] = read.faulty_are ∙ none_faulty accepted n 0 nodes (all_messages answered.0) read.faults most (subst AllTyped (sym are) built_in_typed) read.given in
    let count : length faulty.items ≡ 0 = ap (λ (fs : List FaultySource). length fs) none in
    omega (arith, count, answered.2)
