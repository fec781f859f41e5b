use Rattle.std.proofs.Common.{ℕ, List, get_or, drop, sym, ap, ◌∙◌, subst}
use Rattle.jis.specs.Elements.{TakenOff}
use Rattle.jis.proofs.Listing.{first_off}
use Rattle.jis.proofs.walk.taken_off.Goals as goal

pub returns : goal.returns
returns c =
    let xs = c.args.bytes.now in
    let P : List ℕ → Type 0 = λ ys. TakenOff c.args.m xs (get_or xs 1 0) ys in
    let same = c.split_at.ensures.back ∙ ap (λ s. drop s xs) c.element_size.ensures.value in
    subst P (sym same) (first_off c.args.m xs c.requires.some c.requires.whole c.requires.each)
