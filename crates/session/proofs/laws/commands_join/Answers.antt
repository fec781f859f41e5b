use Rattle.session.proofs.Joins.{commands_join}
use Rattle.session.proofs.laws.commands_join.Goals as goal

pub returns : goal.returns
returns c = commands_join
