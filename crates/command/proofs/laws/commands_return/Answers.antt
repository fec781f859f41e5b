use Rattle.command.proofs.Codec.{commands_return}
use Rattle.command.proofs.laws.commands_return.Goals as goal

pub returns : goal.returns
returns c = commands_return
