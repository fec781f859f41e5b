use Rattle.session.proofs.Pieces.{repeats_same}
use Rattle.session.proofs.laws.repeats_same.Goals as goal

pub returns : goal.returns
returns c = repeats_same
