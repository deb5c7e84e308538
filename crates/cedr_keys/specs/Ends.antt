-- How a call of `keys` ends: what its exit status means, and what it leaves.
use Rattle.std.specs.Prelude.{ℕ, ◌≡◌, ◌≢◌, ◌<◌, ◌≤◌, ◌⊎◌, List, [], ◌∷◌, ◌++◌, codes, length, map, Option, Some, IfSome, Result, Ok, Err}
use Rattle.std.specs.Io.KnownBytes.{Appends, Keeps}
use Rattle.std.specs.List.{slice_get}
use Rattle.cedr_base.specs.Bytes.{line_feed}
use Rattle.cedr_io.specs.Asked.{AppendsFront}
use Rattle.cedr_io.specs.Counts.{Rose}
use Rattle.cedr_plan.specs.Drawn.{Drawn, drawn, node_of}
use Rattle.cedr_plan.specs.Plans.{plan_of, longest}
use Rattle.cedr_plan.specs.declared.fault.PlanKind.{PlanKind}
use Rattle.cedr_plan.specs.declared.plan.Plan.{Plan}
use Rattle.cedr_plan.specs.declared.plan.PlanNode.{PlanNode}
use Rattle.plan_keys.specs.Keys.{AreKeyed}
use Rattle.plan_key_choice.specs.Choices.{IsKeyChoice, IsShared}
use Rattle.cedr_keys.specs.declared.outcome.KeysOutcome.{KeysOutcome}
use Rattle.cedr_keys.specs.declared.outcome.KeysOutcome.TheVariants as keys_outcome
use Rattle.cedr_keys.specs.Texts.{keys_text, unkeyed_text, bad_plan_text}

-- ---- what is read

-- the front of the bytes, and all of them unless it passes the limit of a plan
pub record IsPlanFront (all front : List ℕ) : Type 0 where
  pub rest : List ℕ
  pub begins : all ≡ front ++ rest
  pub whole : length front ≤ longest → rest ≡ []

-- where it is known what the file holds: the plan that it describes, or its first fault
abbrev pub OpensKeyed : Result Plan KeysOutcome → Option (List ℕ) → Type 0
OpensKeyed (Ok plan) content = IfSome content (λ bytes. plan_of bytes ≡ Ok (drawn plan))
OpensKeyed (Err (keys_outcome.BadPlan kind node)) content = IfSome content (λ bytes. plan_of bytes ≡ Err (record { kind = kind; node = node }))
OpensKeyed (Err keys_outcome.Read) content = Unit {0}
OpensKeyed (Err keys_outcome.OutOfMemory) content = Unit {0}
OpensKeyed (Err other) content = ⊥

-- ---- what is written

-- the bytes describe a plan, its nodes have this choice of columns, and this is the text of it
pub record IsKeyText (bytes text : List ℕ) : Type 0 where
  pub plan : Plan
  pub columns : List ℕ
  pub described : plan_of bytes ≡ Ok (drawn plan)
  pub choice : IsKeyChoice columns plan.nodes.items
  pub text_is : text ≡ keys_text columns plan.nodes.items 0

-- the bytes describe a plan, no columns are kept by all its nodes, and this is told of one of them
pub record IsUnkeyedText (bytes text : List ℕ) : Type 0 where
  pub plan : Plan
  pub node : PlanNode
  pub place : ℕ
  pub described : plan_of bytes ≡ Ok (drawn plan)
  pub none : (columns : List ℕ) → AreKeyed columns [] plan.nodes.items → ⊥
  pub node_is : slice_get plan.nodes.items place ≡ Some node
  pub text_is : text ≡ unkeyed_text node

-- the bytes describe a plan in which several nodes read one
pub record IsUndecided (bytes : List ℕ) : Type 0 where
  pub plan : Plan
  pub described : plan_of bytes ≡ Ok (drawn plan)
  pub shared : IsShared plan.nodes.items

-- How a call went over a file, where it is known what it holds, and what out gained: the lines of a choice of columns where
-- the plan is keyed, a front of such lines where a write was refused or memory ran out, and else nothing.
abbrev pub KeysFrom : Option (List ℕ) → Option (List ℕ) → Option (List ℕ) → KeysOutcome → Type 0
KeysFrom content out out' keys_outcome.Keyed = IfSome content (λ bytes. (text : List ℕ) × IsKeyText bytes text × Appends out out' text)
KeysFrom content out out' (keys_outcome.Unkeyed told) = Keeps out out' × IfSome content (λ bytes. IsUnkeyedText bytes told.items)
KeysFrom content out out' keys_outcome.Undecided = Keeps out out' × IfSome content IsUndecided
KeysFrom content out out' keys_outcome.Usage = ⊥
KeysFrom content out out' (keys_outcome.BadPlan kind node) = Keeps out out' × IfSome content (λ bytes. plan_of bytes ≡ Err (record { kind = kind; node = node }))
KeysFrom content out out' keys_outcome.Read = Keeps out out'
KeysFrom content out out' keys_outcome.Write = IfSome content (λ bytes. (text : List ℕ) × IsKeyText bytes text × AppendsFront out out' text)
KeysFrom content out out' keys_outcome.OutOfMemory = Keeps out out' ⊎ IfSome content (λ bytes. (text : List ℕ) × IsKeyText bytes text × AppendsFront out out' text)

-- the words name one file, or the call says how it is used
abbrev pub KeysCame : List (List ℕ) → (List ℕ → Option (List ℕ)) → Option (List ℕ) → Option (List ℕ) → KeysOutcome → Type 0
KeysCame (file ∷ []) content out out' went = KeysFrom (content file) out out' went
KeysCame words content out out' went = (went ≡ keys_outcome.Usage) × Keeps out out'

-- the exit status of how a call went
abbrev pub keys_code : KeysOutcome → ℕ
keys_code keys_outcome.Keyed = 0
keys_code (keys_outcome.Unkeyed told) = 1
keys_code keys_outcome.Undecided = 1
keys_code keys_outcome.Usage = 1
keys_code (keys_outcome.BadPlan kind node) = 2
keys_code keys_outcome.Read = 4
keys_code keys_outcome.Write = 5
keys_code keys_outcome.OutOfMemory = 6

-- what is told on standard error
abbrev pub told_text : KeysOutcome → List ℕ
told_text keys_outcome.Keyed = []
told_text (keys_outcome.Unkeyed told) = told.items
told_text keys_outcome.Undecided = codes "no column of the output was found in 2000 tries" ++ line_feed ∷ []
told_text keys_outcome.Usage = codes "usage: cedr_keys PLAN" ++ line_feed ∷ []
told_text (keys_outcome.BadPlan kind node) = bad_plan_text kind node
told_text keys_outcome.Read = codes "read fault" ++ line_feed ∷ []
told_text keys_outcome.Write = codes "write fault" ++ line_feed ∷ []
told_text keys_outcome.OutOfMemory = codes "out of memory" ++ line_feed ∷ []

-- which faults of the outside a call met: at `Read` one of the files, at `Write` one of the output
abbrev pub KeysFaults : KeysOutcome → ℕ → ℕ → ℕ → ℕ → Type 0
KeysFaults keys_outcome.Read files files' out out' = files < files'
KeysFaults keys_outcome.Write files files' out out' = out < out'
KeysFaults other files files' out out' = Unit {0}

-- the same of a plan that wasn't opened
abbrev pub OpenFaults : Result Plan KeysOutcome → ℕ → ℕ → Type 0
OpenFaults (Ok plan) files files' = Unit {0}
OpenFaults (Err went) files files' = KeysFaults went files files' 0 0

-- err gained the text, or a front of it where a write was refused
abbrev pub IsToldOn : Option (List ℕ) → Option (List ℕ) → ℕ → ℕ → List ℕ → Type 0
IsToldOn err err' faults faults' text = Appends err err' text ⊎ (Rose faults faults' × AppendsFront err err' text)

-- what is seen of a file system, of the output and of the error stream, before a call or after it
pub record KeysSeen : Type 0 where
  pub content : List ℕ → Option (List ℕ)
  pub faults : ℕ
  pub out : Option (List ℕ)
  pub out_faults : ℕ
  pub err : Option (List ℕ)
  pub err_faults : ℕ

-- A call with these words. Its exit status is that of how it went, and err gained the text for that; or it is 6, since memory
-- ran out while the text was made or written.
pub record KeysEnd (words : List (List ℕ)) (before after : KeysSeen) (code : ℕ) : Type 0 where
  pub went : KeysOutcome
  pub came : KeysCame words before.content before.out after.out went
  pub faults : KeysFaults went before.faults after.faults before.out_faults after.out_faults
  pub answered : (code ≡ keys_code went) ⊎ (code ≡ 6)
  pub told : code ≢ 6 → IsToldOn before.err after.err before.err_faults after.err_faults (told_text went)
