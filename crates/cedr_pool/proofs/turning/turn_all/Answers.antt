use Rattle.std.proofs.Common.{◌≡◌, ◌<◌, ◌++◌, ℕ, length, slice_index_or, take, drop, sym, ◌∙◌, subst, arith}
use Rattle.std.specs.List.{All}
use Rattle.cedr_pool.specs.Rooms.{HasRoomBack}
use Rattle.cedr_pool.specs.Seats.{HasPlayed, IsSeated}
use Rattle.cedr_pool.proofs.SeatLemmas.{AllPlayed, back_each, played_all, played_count, played_ended}
use Rattle.cedr_pool.proofs.turning.turn_all.Goals as goal

pub play_each-requires-clause-seated : goal.play_each-requires-clause-seated
play_each-requires-clause-seated g c κs within = subst (All IsSeated) (sym c.as_mut_slice.ensures.value) c.sit_down-seats.ensures.seated

pub come_back-requires-clause-all : goal.come_back-requires-clause-all
come_back-requires-clause-all g c κs within =
    let olds = c.sit_down-seats.result.items in
    let news = c.play_each.new.seats in
    let each : (k : ℕ) (d : _) → k < length olds → HasPlayed (slice_index_or olds k d) (slice_index_or news k d) = subst (λ os. (k : ℕ) (d : _) → k < length os → HasPlayed (slice_index_or os k d) (slice_index_or news k d)) c.as_mut_slice.ensures.value c.play_each.ensures in
    let count : length olds ≡ c.sit_down-seats.result.len = omega (arith, c.sit_down-seats.result.ok.0) in
    let played = subst (λ n. AllPlayed olds (take n (news ++ drop (length news) olds))) count (back_each olds news c.sit_down-seats.ensures.seated each) in
    (c.args.crew.items, played_all _ olds _ played c.sit_down-seats.ensures.all, subst (λ n. HasRoomBack (length c.args.crew.items) n c.args.room_back) (sym (played_count olds _ played ∙ c.sit_down-seats.ensures.count)) c.requires.room_back)

pub come_back-requires-clause-ended : goal.come_back-requires-clause-ended
come_back-requires-clause-ended g c κs within =
    let olds = c.sit_down-seats.result.items in
    let news = c.play_each.new.seats in
    let each : (k : ℕ) (d : _) → k < length olds → HasPlayed (slice_index_or olds k d) (slice_index_or news k d) = subst (λ os. (k : ℕ) (d : _) → k < length os → HasPlayed (slice_index_or os k d) (slice_index_or news k d)) c.as_mut_slice.ensures.value c.play_each.ensures in
    let count : length olds ≡ c.sit_down-seats.result.len = omega (arith, c.sit_down-seats.result.ok.0) in
    played_ended olds _ (subst (λ n. AllPlayed olds (take n (news ++ drop (length news) olds))) count (back_each olds news c.sit_down-seats.ensures.seated each))

pub returns : goal.returns
returns g c =
    let olds = c.sit_down-seats.result.items in
    let news = c.play_each.new.seats in
    let each : (k : ℕ) (d : _) → k < length olds → HasPlayed (slice_index_or olds k d) (slice_index_or news k d) = subst (λ os. (k : ℕ) (d : _) → k < length os → HasPlayed (slice_index_or os k d) (slice_index_or news k d)) c.as_mut_slice.ensures.value c.play_each.ensures in
    let count : length olds ≡ c.sit_down-seats.result.len = omega (arith, c.sit_down-seats.result.ok.0) in
    let played = subst (λ n. AllPlayed olds (take n (news ++ drop (length news) olds))) count (back_each olds news c.sit_down-seats.ensures.seated each) in
    c.come_back.ensures c.args.crew.items (played_all _ olds _ played c.sit_down-seats.ensures.all)
