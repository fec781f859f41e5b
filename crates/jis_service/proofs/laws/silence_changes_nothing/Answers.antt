use Rattle.jis_service.proofs.Silence.{silence}
use Rattle.jis_service.proofs.laws.silence_changes_nothing.Goals as goal

pub returns : goal.returns
returns c = silence
