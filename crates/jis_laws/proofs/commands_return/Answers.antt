use Rattle.jis_laws.proofs.Taken.{returned}
use Rattle.jis_laws.proofs.commands_return.Goals as goal

pub returns : goal.returns
returns c = returned
