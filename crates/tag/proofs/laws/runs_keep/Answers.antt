use Rattle.tag.proofs.Law.{kept_law}
use Rattle.tag.proofs.laws.runs_keep.Goals as goal

pub returns : goal.returns
returns g c = λ store. kept_law g.S.Store.blocks store (g.met.S.Store.shaped store)
