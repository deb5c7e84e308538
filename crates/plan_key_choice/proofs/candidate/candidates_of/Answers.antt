use Rattle.std.proofs.Common.{◌≡◌, ◌≢◌, ◌++◌, ◌∷◌, [], ℕ, Some, List, rules, subst, sym, true}
use Rattle.plan_keys.specs.Keys.{column_at}
use Rattle.plan_key_choice.specs.Partial.{is_among}
use Rattle.plan_key_choice.proofs.Chosen.{among_kept, among_push, extends_more, extends_none, taken_back}
use Rattle.plan_key_choice.proofs.candidate.candidates_of.Goals as goal
use Rattle.plan_key_choice.proofs.candidate.candidates_of.Goals.{then-keeps+in_ok-push, else-keeps}

pub loop-column-preserved : goal.loop-column-preserved
loop-column-preserved c =
    let old = c.args.choice.now in
    let place = c.args.place in
    let column = c.loop-column.column in
    let same = c.loop-column.invariant.same in
    record {
      same = taken_back old c.loop-column.choice c.keeps_within.new.choice place (Some column) (search rules) (c.requires.unchosen place) same c.in_ok-keeps.ensures.same;
      all = λ columns widths among keeps below.
          let before = c.loop-column.invariant.all columns widths among keeps in
          elim c.if-keeps.branch [
            | then-keeps+in_ok-push w ↦
                let made : c.if-keeps.own.items ≡ c.loop-column.own.items ++ column ∷ [] = search rules in
                subst (λ (own : List ℕ). is_among own (column_at columns place) ≡ true) (sym made) (among_push c.loop-column.own.items column (column_at columns place) before below)
            | else-keeps w ↦
                let kept : c.if-keeps.own.items ≡ c.loop-column.own.items = search rules in
                let apart : column ≢ column_at columns place = λ is. c.in_ok-keeps.ensures.none (search rules) columns (extends_more old c.loop-column.choice columns place column (search rules) same (extends_none old columns c.requires.unchosen) (sym is)) widths among keeps in
                subst (λ (own : List ℕ). is_among own (column_at columns place) ≡ true) (sym kept) (among_kept c.loop-column.own.items column (column_at columns place) before apart below)
          ];
    }
