use Rattle.command.proofs.Ranges.{asked_within}
use Rattle.command.proofs.laws.ranges_within.Goals as goal

pub returns : goal.returns
returns c = asked_within
