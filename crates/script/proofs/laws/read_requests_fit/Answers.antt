use Rattle.script.proofs.Sound.{read_requests_fit as law}
use Rattle.script.proofs.laws.read_requests_fit.Goals as goal

pub returns : goal.returns
returns c = law
