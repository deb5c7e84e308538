use Rattle.std.proofs.Common.{◌≡◌, refl, rules}
use Rattle.filed_rows.proofs.EndLemmas.{all_left, retained_use}
use Rattle.filed_rows.proofs.filed.forget_all.Goals as goal

pub returns-clause-kept : goal.returns-clause-kept
returns-clause-kept c = all_left _ (λ f. f.0.now ≡ c.args.time) c.args.time (λ g k v b w g' i t. search rules) _ c.args.by_tag.now.entries c.retain.new.self.entries refl c.requires c.retain.ensures.filtered

pub returns-clause-in_use : goal.returns-clause-in_use
returns-clause-in_use c = retained_use _ (λ f. f.0.now ≡ c.args.time) (λ g k v b w g' i t. search rules) _ c.args.by_tag.now.entries c.retain.new.self.entries refl c.retain.ensures.filtered
