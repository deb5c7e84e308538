use Rattle.cedr_source.proofs.ReadsLemmas.{gives_front}
use Rattle.cedr_source.proofs.law.read_laws.Goals as goal

pub returns : goal.returns
returns c = gives_front
