use Rattle.tag.proofs.Law.{held_law}
use Rattle.tag.proofs.Tracing.{joined, counts, shape}
use Rattle.tag.proofs.laws.traces_keep.Goals as goal

pub returns : goal.returns
returns c = record {
  keep = λ m sm h ps s r. held_law m sm r;
  join = λ s t u g h ps qs a b. joined a b;
  counts = λ s t h ps r small. counts r small;
  shape = λ s t h ps r z. shape r z;
}
