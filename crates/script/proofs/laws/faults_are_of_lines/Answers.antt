use Rattle.script.proofs.Sound.{faults_are_of_lines as law}
use Rattle.script.proofs.laws.faults_are_of_lines.Goals as goal

pub returns : goal.returns
returns c = law
