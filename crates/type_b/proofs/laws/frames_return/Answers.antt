use Rattle.type_b.proofs.Codec.{frames_return}
use Rattle.type_b.proofs.laws.frames_return.Goals as goal

pub returns : goal.returns
returns c = frames_return
