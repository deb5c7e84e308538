-- The lines that end in a piece, taken one after the other.
use Rattle.std.proofs.Common.{◌≡◌, ◌==◌, false, ℕ, ◌+◌, ◌≤◌, List, [], ◌∷◌, ◌++◌, length, Option, refl, ap, sym, ◌∙◌, subst, arith, append_assoc}
use Rattle.std.specs.Prelude.{drop}
use Rattle.std.proofs.lemmas.List.{length-drop, drop-drop, drop_all}
use Rattle.cedr_plan.specs.declared.plan.PlanNode.{PlanNode}
use Rattle.cedr_script.specs.Begun.{Begun}
use Rattle.cedr_script.specs.Cutting.{answers_left, step_answers, Cuts}
use Rattle.cedr_script.specs.declared.cutter.CutStep.{CutStep}
use Rattle.cedr_text.specs.declared.event_line.Shape.{Shape}
use Rattle.plan_follow.proofs.SiftLemmas.{sifted-append}
use Rattle.plan_follow.specs.Followers.{FollowerAt, FollowsLines, FollowsPiece, TakesMore}
use Rattle.plan_follow.specs.Sifted.{Sifted, sifted}
use Rattle.plan_follow.specs.declared.follower.Follower.{Follower}

-- so many bytes of a piece were cut, and what was answered for them was taken
pub record IsCutTo (nodes : List PlanNode) (shapes : List Shape) (name : List ℕ) (old new : Follower) (begun begun' : Begun) (piece : List ℕ) (done : ℕ) : Type 0 where
  pub within : done ≤ length piece
  pub answers : List (Option (List ℕ))
  pub answered : (more : List ℕ) → answers_left begun (piece ++ more) ≡ answers ++ answers_left begun' (drop done piece ++ more)
  pub follows : FollowsLines nodes shapes name old new answers

-- at first none were
pub none_cut : (nodes : List PlanNode) (shapes : List Shape) (name : List ℕ) (follower : Follower) (begun : Begun) (piece : List ℕ) → IsCutTo nodes shapes name follower follower begun begun piece 0
none_cut nodes shapes name follower begun piece = record { within = omega arith; answers = []; answered = λ more. refl; follows = λ s start gone at. at }

-- one line after others
pub lines_on : (nodes : List PlanNode) (shapes : List Shape) (name : List ℕ) (old mid new : Follower) (answers others : List (Option (List ℕ))) → FollowsLines nodes shapes name old mid answers → FollowsLines nodes shapes name mid new others → FollowsLines nodes shapes name old new (answers ++ others)
lines_on nodes shapes name old mid new answers others one two = λ s start gone at.
    subst (λ (now : Sifted). FollowerAt nodes name new now start gone) (sym (sifted-append nodes shapes s answers others)) (two (sifted nodes shapes s answers) start gone (one s start gone at))

-- and then some more
pub more_cut : (nodes : List PlanNode) (shapes : List Shape) (name : List ℕ) (old mid new : Follower) (begun begun' begun'' : Begun) (piece rest : List ℕ) (done count : ℕ) (step : CutStep) (line : List ℕ) → IsCutTo nodes shapes name old mid begun begun' piece done → rest ≡ drop done piece
    → Cuts step begun' begun'' rest count line → FollowsLines nodes shapes name mid new (step_answers step line) → IsCutTo nodes shapes name old new begun begun'' piece (done + count)
more_cut nodes shapes name old mid new begun begun' begun'' piece rest done count step line is there cuts follows =
    let low = cuts.within in
    let room = is.within in
    record {
      within = omega (arith, ap (λ (bs : List ℕ). length bs) there, length-drop done piece);
      answers = is.answers ++ step_answers step line;
      answered = λ more.
          is.answered more
          ∙ (ap (λ (bs : List ℕ). is.answers ++ answers_left begun' (bs ++ more)) (sym there)
          ∙ (ap (λ (xs : List (Option (List ℕ))). is.answers ++ xs) (cuts.answered more)
          ∙ (sym (append_assoc is.answers (step_answers step line) (answers_left begun'' (drop count rest ++ more)))
          ∙ ap (λ (bs : List ℕ). (is.answers ++ step_answers step line) ++ answers_left begun'' (bs ++ more)) (ap (drop count) there ∙ drop-drop count done piece))));
      follows = lines_on nodes shapes name old mid new is.answers (step_answers step line) is.follows follows;
    }

-- a piece that was cut to its end
pub all_cut : (nodes : List PlanNode) (shapes : List Shape) (name : List ℕ) (old new : Follower) (begun begun' : Begun) (piece : List ℕ) (done : ℕ) → IsCutTo nodes shapes name old new begun begun' piece done → length piece ≤ done → FollowsPiece nodes shapes name old new begun begun' piece
all_cut nodes shapes name old new begun begun' piece done is end =
    (is.answers, λ more. is.answered more ∙ ap (λ (bs : List ℕ). is.answers ++ answers_left begun' (bs ++ more)) (drop_all done piece end), is.follows)

-- which isn't empty
pub more_taken : (nodes : List PlanNode) (shapes : List Shape) (name : List ℕ) (old new : Follower) (begun begun' : Begun) (piece : List ℕ) → length piece == 0 ≡ false → FollowsPiece nodes shapes name old new begun begun' piece → TakesMore nodes shapes name old new begun begun' piece
more_taken nodes shapes name old new begun begun' [] some follows = absurd (let e = some in cc)
more_taken nodes shapes name old new begun begun' (b ∷ piece) some follows = follows
