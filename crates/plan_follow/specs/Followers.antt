-- What a follower stands for.
use Rattle.std.specs.Prelude.{ℕ, ◌≡◌, ◌+◌, Bool, true, List, [], ◌∷◌, ◌++◌, length, Option, None, Some}
use Rattle.cedr_base.specs.declared.change.Message.{Message}
use Rattle.cedr_net.specs.Networks.{AllGrow, TakesOn}
use Rattle.cedr_plan.specs.declared.plan.PlanNode.{PlanNode}
use Rattle.cedr_plan.specs.Places.{output_place}
use Rattle.cedr_script.specs.Begun.{Begun}
use Rattle.cedr_script.specs.Cutting.{answers_left}
use Rattle.cedr_text.specs.declared.event_line.Shape.{Shape}
use Rattle.cedr_text.specs.declared.fault.LineFault.{LineFault}
use Rattle.node_laws.specs.Lists.{Lists, list_at}
use Rattle.plan_follow.specs.Following.{refusals_text, any_refused}
use Rattle.plan_follow.specs.Playing.{PlayerHolds, GoesOnTo, refused_as}
use Rattle.plan_follow.specs.Sifted.{Sifted, sifted}
use Rattle.plan_follow.specs.declared.follower.Follower.{Follower}
use Rattle.plan_live.specs.Scripts.{Accepted}
use Rattle.stream_text.specs.MessageTexts.{messages_text}

-- what was written and what was told until the last read
pub record Gone : Type 0 where
  pub written : List ℕ
  pub told : List ℕ

abbrev pub nothing_gone : Gone
nothing_gone = record { written = []; told = [] }

-- All that the output gave for lines was taken, and its text was written or is kept; and so is what is told of the lines of a script
-- of this name.
pub record Gathered (nodes : List PlanNode) (name : List ℕ) (follower : Follower) (s : Sifted) (start given : Lists) (gone : Gone) : Type 0 where
  pub grew : AllGrow start given
  pub more : List Message
  pub all : list_at given (output_place nodes) ≡ list_at start (output_place nodes) ++ more
  pub taken : follower.taken ≡ length (list_at given (output_place nodes))
  pub number : follower.number ≡ s.count
  pub faulty : follower.faulty ≡ any_refused s.refusals
  pub text : gone.written ++ follower.text.items ≡ messages_text more
  pub said : gone.told ++ follower.said.items ≡ refusals_text name s.refusals

-- a follower came to where lines come
pub record FollowerAt (nodes : List PlanNode) (name : List ℕ) (follower : Follower) (s : Sifted) (start : Lists) (gone : Gone) : Type 0 where
  pub given : Lists
  pub holds : PlayerHolds nodes follower.player s.kept s.sent given
  pub gathered : Gathered nodes name follower s start given gone

-- its player went on with a line, with this fault if it has one, and nothing of what came of it was gathered
pub record GoesAhead (nodes : List PlanNode) (name : List ℕ) (follower : Follower) (s now : Sifted) (start : Lists) (gone : Gone) (fault : Option LineFault) : Type 0 where
  pub given : Lists
  pub ahead : GoesOnTo nodes follower.player s now given fault
  pub gathered : Gathered nodes name follower s start given gone

-- some line isn't accepted, or one that wasn't before
abbrev pub faulty_with : Bool → Option LineFault → Bool
faulty_with faulty None = faulty
faulty_with faulty (Some fault) = true

-- a line was counted, and told if it has a fault
pub record CountsLine (name : List ℕ) (old new : Follower) (fault : Option LineFault) : Type 0 where
  pub number : new.number ≡ old.number + 1
  pub faulty : new.faulty ≡ faulty_with old.faulty fault
  pub said : new.said.items ≡ old.said.items ++ refusals_text name (refused_as (old.number + 1) fault)
  pub player : new.player ≡ old.player
  pub taken : new.taken ≡ old.taken
  pub text : new.text ≡ old.text

-- what the output gave since all was taken last was taken
pub record TakesFresh (old new : Follower) : Type 0 where
  pub fresh : List Message
  pub took : (nodes : List PlanNode) (kept : Accepted) (sent given : Lists) → PlayerHolds nodes old.player kept sent given → TakesOn (list_at given (output_place nodes)) old.taken fresh × PlayerHolds nodes new.player kept sent given
  pub taken : new.taken ≡ old.taken + length fresh
  pub text : new.text.items ≡ old.text.items ++ messages_text fresh
  pub number : new.number ≡ old.number
  pub faulty : new.faulty ≡ old.faulty
  pub said : new.said ≡ old.said

-- nothing is kept that isn't written or told
pub record IsClear (follower : Follower) : Type 0 where
  pub text : follower.text.items ≡ []
  pub said : follower.said.items ≡ []

-- the answers for a piece, behind what had begun
abbrev pub AreAnswers : Begun → Begun → List ℕ → List (Option (List ℕ)) → Type 0
AreAnswers old new piece answers = (more : List ℕ) → answers_left old (piece ++ more) ≡ answers ++ answers_left new more

-- a follower came from some lines to where these come behind them
abbrev pub FollowsLines : List PlanNode → List Shape → List ℕ → Follower → Follower → List (Option (List ℕ)) → Type 0
FollowsLines nodes shapes name old new answers = (s : Sifted) (start : Lists) (gone : Gone) → FollowerAt nodes name old s start gone → FollowerAt nodes name new (sifted nodes shapes s answers) start gone

-- the lines that end in a piece were taken
abbrev pub FollowsPiece : List PlanNode → List Shape → List ℕ → Follower → Follower → Begun → Begun → List ℕ → Type 0
FollowsPiece nodes shapes name old new begun begun' piece = (answers : List (Option (List ℕ))) × AreAnswers begun begun' piece answers × FollowsLines nodes shapes name old new answers

-- the lines that end in a piece were taken, or behind the last piece the line that the script ends in
abbrev pub TakesMore : List PlanNode → List Shape → List ℕ → Follower → Follower → Begun → Begun → List ℕ → Type 0
TakesMore nodes shapes name old new begun begun' [] = FollowsLines nodes shapes name old new (answers_left begun [])
TakesMore nodes shapes name old new begun begun' (b ∷ piece) = FollowsPiece nodes shapes name old new begun begun' (b ∷ piece)
