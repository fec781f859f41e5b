use Rattle.session.proofs.Pieces.{pieces_join}
use Rattle.session.proofs.laws.pieces_join.Goals as goal

pub returns : goal.returns
returns c = pieces_join
