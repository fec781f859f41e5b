use Rattle.script.proofs.Back.{written_lines_are_read as law}
use Rattle.script.proofs.laws.written_lines_are_read.Goals as goal

pub returns : goal.returns
returns c = law
