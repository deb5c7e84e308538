-- What an index keeps depends on the bag of lives alone.
use Rattle.std.specs.Prelude.{ℕ, ◌≡◌, ◌<◌, List, [], sum_by}
use Rattle.std.proofs.Common.{ap, sym, ◌∙◌, subst, arith}
use Rattle.cedr_living.specs.declared.place.Place.{Place}
use Rattle.cedr_living.specs.declared.pieces.Pieces.{Pieces}
use Rattle.cedr_living.specs.declared.index.Index.{Index}
use Rattle.cedr_living.specs.Lives.{Living, SameLives}
use Rattle.cedr_living.specs.Counts.{counted}
use Rattle.cedr_living.specs.CountLaws.{counted_none, none_there}
use Rattle.cedr_living.specs.Indexes.{ShowsCounts, Indexes, IsBareIndex, place_cmp, piece_count, rest_count}

-- pieces that show some counts show all that are the same at each place
pub shows_alike : (bag : Pieces) (m n : Place → ℕ) → ((q : Place) → m q ≡ n q) → ShowsCounts bag m → ShowsCounts bag n
shows_alike bag m n same shows = record {
  at = λ q. shows.at q ∙ ap counted (same q);
  within = λ q some. shows.within q (subst (λ k. 0 < k) (sym (same q)) some);
}

-- an index keeps lives as a bag
pub indexes_same : (index : Index) (lives others : List Living) → SameLives lives others → Indexes index lives → Indexes index others
indexes_same index lives others same keeps = record {
  pieces = shows_alike index.pieces (λ q. sum_by (piece_count q) lives) (λ q. sum_by (piece_count q) others) (λ q. same (piece_count q)) keeps.pieces;
  rests = shows_alike index.rests (λ q. sum_by (rest_count q) lives) (λ q. sum_by (rest_count q) others) (λ q. same (rest_count q)) keeps.rests;
}

-- an index without entries keeps lives that sum up to nothing
pub bare_keeps : (index : Index) (lives : List Living) → IsBareIndex index → ((w : Living → ℕ) → sum_by w lives ≡ 0) → Indexes index lives
bare_keeps index lives bare none = record {
  pieces = none_shown index.pieces (λ q. sum_by (piece_count q) lives) bare.0 (λ q. none (piece_count q));
  rests = none_shown index.rests (λ q. sum_by (rest_count q) lives) bare.1 (λ q. none (rest_count q));
}
  where
    none_shown : (pieces : Pieces) (counts : Place → ℕ) → pieces.counts.entries ≡ [] → ((q : Place) → counts q ≡ 0) → ShowsCounts pieces counts
    none_shown pieces counts bare none = record {
      at = λ q. none_there place_cmp pieces.counts.entries bare q ∙ sym (counted_none (counts q) (none q));
      within = λ q some. absurd (omega (arith, none q));
    }
