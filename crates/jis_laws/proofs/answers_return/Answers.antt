use Rattle.jis_laws.proofs.Answered.{flags_back, read_back, req_back}
use Rattle.jis_laws.proofs.answers_return.Goals as goal

pub returns : goal.returns
returns c = record { req = req_back; flags = flags_back; read = read_back }
