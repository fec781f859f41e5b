use Rattle.jis_laws.proofs.Taken.{differ}
use Rattle.jis_laws.proofs.frames_differ.Goals as goal

pub returns : goal.returns
returns c = differ
