use Rattle.std.proofs.Common.{arith}
use Rattle.tag.specs.View.{view}
use Rattle.links.proofs.Handing.{handed}
use Rattle.links.proofs.carrying.hand_over.Goals as goal

pub returns : goal.returns
returns g c =
    let blocks = g.S.Store.blocks in
    handed c.args.reply.now c.type_b_frame.new.reply (omega arith) (view blocks c.args.tag.now) (view blocks c.type_b_frame.new.self) c.args.frame.now
    c.type_b_frame.result c.unwrap.result c.unwrap.ensures c.type_b_frame.ensures.step
