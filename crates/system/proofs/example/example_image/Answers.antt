use Rattle.std.proofs.Common.{ℕ, List, replicate, ap₂}
use borrow.Rule.Slice.PartMut.{put_mid}
use Rattle.system.specs.Example.{example_image}
use Rattle.system.proofs.example.example_image.Goals as goal

pub returns : goal.returns
unfolding example_image
returns c = ap₂ (λ (x y : List ℕ). put_mid 496 16 (put_mid 480 16 (replicate 512 0) x) y) c.copy_from_slice.ensures.after c.copy_from_slice-2.ensures.after
