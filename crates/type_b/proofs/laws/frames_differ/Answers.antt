use Rattle.type_b.proofs.Codec.{frames_differ}
use Rattle.type_b.proofs.laws.frames_differ.Goals as goal

pub returns : goal.returns
returns c = frames_differ
