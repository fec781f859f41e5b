use Rattle.jis_laws.proofs.Taken.{silent}
use Rattle.jis_laws.proofs.foreign_silent.Goals as goal

pub returns : goal.returns
returns c = silent
