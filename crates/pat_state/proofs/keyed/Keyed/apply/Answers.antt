use Rattle.std.proofs.Common.{◌≡◌, ◌∙◌, ap, sym}
use Rattle.std.proofs.lemmas.Result.{on_ok_weaker}
use Rattle.cedr_base.specs.declared.row.Row.{Row}
use Rattle.cedr_base.specs.Changes.{changed_row}
use Rattle.pat_state.specs.Keys.{key_tag}
use Rattle.pat_state.proofs.TagLemmas.{marked_there, tagged_step}
use Rattle.pat_state.proofs.keyed.Keyed.apply.Goals as goal

pub apply_tagged-requires : goal.apply_tagged-requires
apply_tagged-requires c =
    let at : key_tag c.args.width c.args.column (changed_row c.args.change.now).payload ≡ c.key_tag-tag.result = ap (λ (r : Row). key_tag c.args.width c.args.column r.payload) (sym c.row.ensures) ∙ sym c.key_tag-tag.ensures in
    marked_there (key_tag c.args.width c.args.column) c.key_tag-tag.result c.args.change.now c.args.self.now.rows c.args.self.now.tags at c.requires.keyed.tagged c.requires.there

pub returns-clause-keyed : goal.returns-clause-keyed
returns-clause-keyed c =
    let at : key_tag c.args.width c.args.column (changed_row c.args.change.now).payload ≡ c.key_tag-tag.result = ap (λ (r : Row). key_tag c.args.width c.args.column r.payload) (sym c.row.ensures) ∙ sym c.key_tag-tag.ensures in
    on_ok_weaker c.apply.result (λ step. record {
      tagged = tagged_step (key_tag c.args.width c.args.column) c.key_tag-tag.result c.args.change.now c.args.self.now.rows c.apply.new.self c.args.self.now.tags c.apply_tagged.new.tags at c.requires.keyed.tagged c.in_ok-apply_tagged.ensures.ok step;
    }) c.apply.ensures.ok
