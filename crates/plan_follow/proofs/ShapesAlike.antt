-- Lines are followed alike by shapes of the same types.
use Rattle.std.proofs.Common.{◌≡◌, ℕ, zero, suc, List, [], ◌∷◌, cond, get_or, Option, None, Some, refl, ap, ◌∙◌}
use Rattle.cedr_plan.specs.declared.plan.PlanNode.{PlanNode}
use Rattle.cedr_text.specs.Reading.{reading}
use Rattle.cedr_text.specs.declared.event_line.Shape.{Shape}
use Rattle.cedr_text.specs.declared.event_line.Shape.TheVariants.{AnyText}
use Rattle.plan_follow.specs.Sifted.{Sifted, passed_over, with_read, with_source, with_said, with_answer, sifted}
use Rattle.plan_live.proofs.ShapeLemmas.{readings_alike}
use Rattle.plan_live.specs.Scripts.{ShapesHaveTypes, is_question, source_event}

-- a line is read alike at each place
reading_at : (nodes : List PlanNode) (shapes others : List Shape) → ShapesHaveTypes nodes shapes → ShapesHaveTypes nodes others → (k : ℕ) (line : List ℕ) → reading (get_or shapes k AnyText) line ≡ reading (get_or others k AnyText) line
reading_at [] [] [] has other k line = refl
reading_at [] [] (o ∷ others) has other k line = absurd other
reading_at [] (s ∷ shapes) others has other k line = absurd has
reading_at (n ∷ nodes) [] others has other k line = absurd has
reading_at (n ∷ nodes) (s ∷ shapes) [] has other k line = absurd other
reading_at (n ∷ nodes) (s ∷ shapes) (o ∷ others) has other zero line = readings_alike s o n.types.items line has.0 other.0
reading_at (n ∷ nodes) (s ∷ shapes) (o ∷ others) has other (suc k) line = reading_at nodes shapes others has.1 other.1 k line

module _ (nodes : List PlanNode) (shapes others : List Shape) (has : ShapesHaveTypes nodes shapes) (other : ShapesHaveTypes nodes others) where
  source_alike : (s : Sifted) (found : Option (ℕ × List ℕ)) → with_source shapes s found ≡ with_source others s found
  source_alike s None = refl
  source_alike s (Some found) = ap (with_read s found.0) (reading_at nodes shapes others has other found.0 found.1)

  said_alike : (s : Sifted) (line : List ℕ) → with_said nodes shapes s line ≡ with_said nodes others s line
  said_alike s [] = refl
  said_alike s (b ∷ line) = source_alike s (source_event nodes (b ∷ line))

  answer_alike : (s : Sifted) (answer : Option (List ℕ)) → with_answer nodes shapes s answer ≡ with_answer nodes others s answer
  answer_alike s None = refl
  answer_alike s (Some line) = ap (λ (now : Sifted). cond (is_question line) (passed_over s) now) (said_alike s line)

  -- so are all lines, one after the other
  pub sifted_alike : (s : Sifted) (answers : List (Option (List ℕ))) → sifted nodes shapes s answers ≡ sifted nodes others s answers
  sifted_alike s [] = refl
  sifted_alike s (answer ∷ answers) = ap (λ (now : Sifted). sifted nodes shapes now answers) (answer_alike s answer) ∙ sifted_alike (with_answer nodes others s answer) answers
