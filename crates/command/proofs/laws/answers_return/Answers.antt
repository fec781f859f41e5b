use Rattle.command.proofs.Codec.{answers_return}
use Rattle.command.proofs.laws.answers_return.Goals as goal

pub returns : goal.returns
returns c = answers_return
