mod TaskLemmas
mod OrderLemmas
mod EndedLemmas
mod SeatLemmas
mod RunLemmas
mod SendLemmas
