use Rattle.script.proofs.Spaces.{spaces_change_nothing as law}
use Rattle.script.proofs.laws.spaces_change_nothing.Goals as goal

pub returns : goal.returns
returns c = law
