use Rattle.tag.proofs.Tracing.{traced}
use Rattle.tag.proofs.laws.runs_are_traces.Goals as goal

pub returns : goal.returns
returns g c = λ store h t r. traced g.S.Store.blocks store r
