use Rattle.std.proofs.Common.{◌≡◌, ◌≤◌, ◌∷◌, [], ◌∙◌, ap, sym, subst, List, ℕ, true}
use Rattle.cedr_base.specs.declared.time.TheConstants.{FOREVER}
use Rattle.cedr_base.specs.Rows.{SameRows}
use Rattle.cedr_table.specs.Operators.{Tables, AreTimes, SameTables, OnlyHolds}
use Rattle.cedr_table.specs.PortLaws.{rise_itself}
use Rattle.op_driver.proofs.DriveLemmas.{answer_fed, same_tables_itself, same_tables_back}
use Rattle.op_driver.proofs.driver.Driver.close.Goals as goal

pub bound-bound-requires : goal.bound-bound-requires
bound-bound-requires g c =
    let f = c.requires.5 in (
      f.works.tables,
      subst (λ (ms : List ℕ). g.O.Operator.stands c.args.self.now.op f.works.tables ms) (sym c.as_slice.ensures.value) f.works.op,
      subst (λ (ms : List ℕ). AreTimes ms) (sym c.as_slice.ensures.value) f.works.times,
    )

pub trim-requires : goal.trim-requires
trim-requires g c =
    let f = c.requires.5 in (
      f.works.tables,
      c.as_slice-2.result.now,
      subst (λ (ms : List ℕ). g.O.Operator.stands c.args.self.now.op f.works.tables ms) (sym c.as_slice-2.ensures.value) f.works.op,
      rise_itself c.as_slice-2.result.now,
      subst (λ (ms : List ℕ). AreTimes ms) (sym c.as_slice-2.ensures.value) f.works.times,
    )

pub returns-clause-answers : goal.returns-clause-answers
returns-clause-answers g c = λ lists port taken given before f sent_is.
    let op = g.O.Operator in
    let old = c.args.self.now.op in
    let laws = g.met.O.Operator.lawful c.args.self.now.op in
    let marks = c.args.self.now.marks.items in
    let tables = f.works.tables in
    let told : (others : Tables) → SameTables f.works.tables others → c.bound-bound.result ≡ (op.meaning old).bound others marks =
    λ others same.
    c.bound-bound.ensures others (subst (λ (ms : List ℕ). op.stands old others ms) (sym c.as_slice.ensures.value) (laws.alike tables others marks same f.works.op))
    ∙ ap (λ (ms : List ℕ). (op.meaning old).bound others ms) c.as_slice.ensures.value in
    let alike : (others : Tables) → SameTables f.works.tables others → SameRows ((op.meaning old).result others) ((op.meaning old).result f.works.tables) =
    λ others same. laws.same_rows others tables (same_tables_back tables others same) in
    let time : c.bound-bound.result ≤ FOREVER = subst (λ (n : ℕ). n ≤ FOREVER) (sym (told tables (same_tables_itself tables))) (laws.bound_is_time tables marks f.works.op f.works.times) in
    let echo_mark : (op.meaning old).echoes ≡ true → marks ≡ (op.meaning old).bound tables marks ∷ [] = λ h. laws.echo_bound tables marks h f.works.op in
    let was = subst (λ (ms : List ℕ). op.stands old tables ms) (sym c.as_slice-2.ensures.value) f.works.op in
    let trimmed = c.trim.ensures.stands tables c.as_slice-2.result.now was (rise_itself c.as_slice-2.result.now) in
    let held : (others : Tables) → SameTables f.works.tables others → OnlyHolds (op.meaning old) others marks (op.held c.trim.new.self) =
    λ others same.
    let st = subst (λ (ms : List ℕ). op.stands old others ms) (sym c.as_slice-2.ensures.value) (laws.alike tables others marks same f.works.op) in
    let only = c.trim.ensures.held others c.as_slice-2.result.now st (rise_itself c.as_slice-2.result.now) in
    subst (λ (ms : List ℕ). OnlyHolds (op.meaning old) others ms (op.held c.trim.new.self)) c.as_slice-2.ensures.value only in
    answer_fed (op.meaning old) (op.stands old) (op.stands c.trim.new.self) (op.held c.trim.new.self) marks lists port taken given before c.args.out.now.items f
    c.args.self.now.sent c.push_mark.new.sent c.bound-bound.result c.push_mark.new.out.items sent_is c.in_ok-push_mark.ensures.sent.1 told alike echo_mark time
    (subst (λ (ms : List ℕ). op.stands c.trim.new.self tables ms) c.as_slice-2.ensures.value trimmed)
    held
    c.in_ok-push_mark.ensures.sent.0
