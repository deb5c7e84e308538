use Rattle.std.proofs.Common.{◌≡◌, ◌<◌, ◌∷◌, List, length, ap, ◌∙◌, subst, sym, rules, IsPermutation}
use Rattle.std.specs.Vec.{vec_capacity}
use Rattle.pool_queue.specs.declared.claim.Entry.{Entry}
use Rattle.pool_queue.specs.Entries.{entry_of, other_than}
use Rattle.pool_queue.specs.Passes.{Holding}
use Rattle.cedr_pool.specs.Tasks.{tasks_entries}
use Rattle.cedr_pool.proofs.EndedLemmas.{put_back, row_more, more_room, still_held}
use Rattle.cedr_pool.proofs.playing.take_turns.Goals as goal

pub push_reserved-requires : goal.push_reserved-requires
push_reserved-requires g c =
    let taken = c.in-Some.ensures.taken in
    let room : length c.args.row.now.items < vec_capacity c.args.row.now =
    more_room c.args.row.now.items (entry_of (λ x. x) c.in-Some.task) c.args.pass.now.held c.take.new.self.held c.args.pass.now.opened c.take.new.self.opened (vec_capacity c.args.row.now) c.requires.row (ap (λ (h : Holding _). h.held) taken) c.in-Some.ensures.room (ap (λ (h : Holding _). h.opened) taken) c.requires.room in
    search rules

pub returns-clause-row : goal.returns-clause-row
returns-clause-row g c =
    let e : Entry _ = entry_of (λ x. x) c.in-Some.task in
    let held : c.take.new.self.held ≡ e ∷ c.args.pass.now.held = ap (λ (h : Holding _). h.held) c.in-Some.ensures.taken in
    let back : c.put.new.self.held ≡ c.args.pass.now.held = ap (λ (h : Holding _). h.held) c.put.ensures ∙ (ap (other_than e.number) held ∙ put_back e c.args.pass.now.held c.in-Some.ensures.once) in
    subst (IsPermutation (tasks_entries c.args.row.now.items)) (sym back) c.requires.row

pub returns-then-eq-clause-row : goal.returns-then-eq-clause-row
returns-then-eq-clause-row g c =
    let at : _ → Entry _ = λ p. record { number = c.in-Some.task.number; place = p } in
    row_more c.args.row.now.items c.push_reserved.new.self.items _ (entry_of (λ x. x) c.in-Some.task) c.args.pass.now.held c.take.new.self.held c.requires.row c.push_reserved.ensures.items (ap (λ (h : Holding _). h.held) c.in-Some.ensures.taken) (ap at c.turn_often-came.ensures)

pub put-requires : goal.put-requires
put-requires g c =
    let at : _ → Entry _ = λ p. record { number = c.in-Some.task.number; place = p } in
    still_held (entry_of (λ x. x) c.in-Some.task) _ c.take.new.self.held c.args.pass.now.held (ap (λ (h : Holding _). h.held) c.in-Some.ensures.taken) (ap at c.turn_often-came.ensures)
