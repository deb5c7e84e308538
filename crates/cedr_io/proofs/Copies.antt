-- A part of a list after another part of it.
use Rattle.std.proofs.Common.{◌≡◌, ℕ, ◌+◌, ◌-◌, List, ◌++◌, length, take, drop, sym, ◌∙◌, ap, arith}
use Rattle.std.proofs.lemmas.List.{take-append-drop, drop-drop, length-drop, take_all}
use Rattle.std.proofs.Math.Seq.{take-append_seam, take-add}

-- the whole of what is left, as a slice of the code has it
pub rest_of : (bytes : List ℕ) (read : ℕ) → take (length bytes - read) (drop read bytes) ≡ drop read bytes
rest_of bytes read = take_all (length bytes - read) (drop read bytes) (omega (arith, length-drop read bytes))

-- the copied front, and what is left after it, are what there was
pub given_at : (bytes copied behind : List ℕ) (read count : ℕ) → length copied ≡ count
    → copied ≡ take count (take (length bytes - read) (drop read bytes))
    → drop read bytes ≡ take count (copied ++ behind) ++ drop (read + count) bytes
given_at bytes copied behind read count long is =
    let front = ap (λ n. take n (copied ++ behind)) (sym long) ∙ (take-append_seam copied behind ∙ (is ∙ ap (take count) (rest_of bytes read))) in
    sym (ap (λ xs. xs ++ drop (read + count) bytes) front ∙ (ap (λ xs. take count (drop read bytes) ++ xs) (sym (drop-drop count read bytes)) ∙ take-append-drop count (drop read bytes)))

-- two parts of the bytes, one after the other, are one part
pub part_after : (bytes : List ℕ) (done taken : ℕ)
    → take done bytes ++ take taken (take (length bytes - done) (drop done bytes)) ≡ take (done + taken) bytes
part_after bytes done taken = ap (λ xs. take done bytes ++ take taken xs) (rest_of bytes done) ∙ sym (take-add done taken bytes)
