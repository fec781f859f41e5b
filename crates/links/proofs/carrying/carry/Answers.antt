use Rattle.std.proofs.Common.{◌++◌, drop, sym, subst, arith}
use Rattle.tag.specs.View.{view}
use Rattle.links.specs.Wires.{Carried}
use Rattle.links.proofs.Handing.{lent}
use Rattle.links.proofs.carrying.carry.Goals as goal

pub returns-in-Complete : goal.returns-in-Complete
returns-in-Complete g c =
    let s = view g.S.Store.blocks c.args.tag.now in
    let t = view g.S.Store.blocks c.hand_over-in-Complete.new.tag in
    let before = c.args.reply.now in
    let after = c.hand_over-in-Complete.new.reply in
    let o = c.hand_over-in-Complete.result in
    subst (λ x. Carried s c.args.frame.now x o before (after ++ drop 256 before) t) (sym c.in-Complete.is)
    (lent before after (omega arith) c.requires s t c.args.frame.now o c.hand_over-in-Complete.ensures)
