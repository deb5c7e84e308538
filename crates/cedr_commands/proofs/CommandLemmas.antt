-- Which words match no command.
use Rattle.std.proofs.Common.{◌≡◌, ℕ, ◌<◌, List, [], ◌∷◌, Bool, false, length, map, codes, get_or, Option, Some, None, refl, ap, sym, ◌∙◌, arith}
use Rattle.std.specs.Prelude.{if◌then◌else◌}
use Rattle.std.specs.Str.{bytes_eq}
use Rattle.cedr_commands.specs.declared.command.Job.TheVariants.{Live, Save, Follow}
use Rattle.cedr_commands.specs.Commands.{Command, checkpoint_job, command_of, part_count, threads_of, with_checkpoint, with_parts, with_threads}

module _ {A : Type 0} (bytes : A → List ℕ) where
  -- fewer than two
  pub few_words : (words : List A) → length words < 2 → None ≡ command_of (map bytes words)
  few_words [] few = refl
  few_words (a ∷ []) few = refl
  few_words (a ∷ b ∷ words) few = absurd (omega (arith, few))

  -- more than four
  pub many_words : (words : List A) → 4 < length words → None ≡ command_of (map bytes words)
  many_words [] many = absurd (omega (arith, many))
  many_words (a ∷ []) many = absurd (omega (arith, many))
  many_words (a ∷ b ∷ []) many = absurd (omega (arith, many))
  many_words (a ∷ b ∷ c ∷ []) many = absurd (omega (arith, many))
  many_words (a ∷ b ∷ c ∷ d ∷ []) many = absurd (omega (arith, many))
  many_words (a ∷ b ∷ c ∷ d ∷ e ∷ words) many = refl

  -- three of which the first is none of `live`, `save`, `pool` and `parts`
  pub other_three : (words : List A) (first : A) → length words ≡ 3 → first ≡ get_or words 0 first → bytes_eq (bytes first) (codes "live") ≡ false → bytes_eq (bytes first) (codes "save") ≡ false → bytes_eq (bytes first) (codes "follow") ≡ false → bytes_eq (bytes first) (codes "pool") ≡ false → bytes_eq (bytes first) (codes "parts") ≡ false
      → None ≡ command_of (map bytes words)
  other_three [] first three is no_live no_save no_follow no_pool no_parts = absurd (omega (arith, three))
  other_three (a ∷ []) first three is no_live no_save no_follow no_pool no_parts = absurd (omega (arith, three))
  other_three (a ∷ b ∷ []) first three is no_live no_save no_follow no_pool no_parts = absurd (omega (arith, three))
  other_three (a ∷ b ∷ c ∷ d ∷ words) first three is no_live no_save no_follow no_pool no_parts = absurd (omega (arith, three))
  other_three (a ∷ b ∷ c ∷ []) first three is no_live no_save no_follow no_pool no_parts =
      let other_than : (word : List ℕ) → bytes_eq (bytes first) word ≡ false → bytes_eq (bytes a) word ≡ false = λ word no. ap (λ (w : A). bytes_eq (bytes w) word) (sym is) ∙ no in
      let live : Option Command = Some (record { job = Live; file = bytes b; checkpoint = []; script = bytes c }) in
      let saved : Option Command = Some (record { job = Save; file = bytes b; checkpoint = []; script = bytes c }) in
      let follow : Option Command = Some (record { job = Follow; file = bytes b; checkpoint = []; script = bytes c }) in
      let pool : Option Command = with_threads (threads_of (bytes b)) (bytes c) in
      let parts : Option Command = with_parts (part_count (bytes b)) (bytes c) in
      sym
      (ap {B = Option Command} (λ (is_live : Bool). if is_live then live else if bytes_eq (bytes a) (codes "save") then saved else if bytes_eq (bytes a) (codes "follow") then follow else if bytes_eq (bytes a) (codes "pool") then pool else if bytes_eq (bytes a) (codes "parts") then parts else None) (other_than (codes "live") no_live)
      ∙ (ap {B = Option Command} (λ (is_save : Bool). if is_save then saved else if bytes_eq (bytes a) (codes "follow") then follow else if bytes_eq (bytes a) (codes "pool") then pool else if bytes_eq (bytes a) (codes "parts") then parts else None) (other_than (codes "save") no_save)
      ∙ (ap {B = Option Command} (λ (is_follow : Bool). if is_follow then follow else if bytes_eq (bytes a) (codes "pool") then pool else if bytes_eq (bytes a) (codes "parts") then parts else None) (other_than (codes "follow") no_follow)
      ∙ (ap {B = Option Command} (λ (is_pool : Bool). if is_pool then pool else if bytes_eq (bytes a) (codes "parts") then parts else None) (other_than (codes "pool") no_pool)
      ∙ ap {B = Option Command} (λ (is_parts : Bool). if is_parts then parts else None) (other_than (codes "parts") no_parts)))))

  -- four of which the first names a command that takes a checkpoint
  pub four_words : (words : List A) (first plan checkpoint script : A) → length words ≡ 4 → first ≡ get_or words 0 first → plan ≡ get_or words 1 plan → checkpoint ≡ get_or words 2 checkpoint → script ≡ get_or words 3 script
      → with_checkpoint (checkpoint_job (bytes first)) (bytes plan) (bytes checkpoint) (bytes script) ≡ command_of (map bytes words)
  four_words [] first plan checkpoint script four a b c d = absurd (omega (arith, four))
  four_words (_ ∷ []) first plan checkpoint script four a b c d = absurd (omega (arith, four))
  four_words (_ ∷ _ ∷ []) first plan checkpoint script four a b c d = absurd (omega (arith, four))
  four_words (_ ∷ _ ∷ _ ∷ []) first plan checkpoint script four a b c d = absurd (omega (arith, four))
  four_words (_ ∷ _ ∷ _ ∷ _ ∷ _ ∷ words) first plan checkpoint script four a b c d = absurd (omega (arith, four))
  four_words (w ∷ x ∷ y ∷ z ∷ []) first plan checkpoint script four a b c d =
      ap (λ (v : A). with_checkpoint (checkpoint_job (bytes v)) (bytes plan) (bytes checkpoint) (bytes script)) a
      ∙ (ap (λ (v : A). with_checkpoint (checkpoint_job (bytes w)) (bytes v) (bytes checkpoint) (bytes script)) b
      ∙ (ap (λ (v : A). with_checkpoint (checkpoint_job (bytes w)) (bytes x) (bytes v) (bytes script)) c
      ∙ ap (λ (v : A). with_checkpoint (checkpoint_job (bytes w)) (bytes x) (bytes y) (bytes v)) d))
