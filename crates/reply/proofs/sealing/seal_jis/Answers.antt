use Rattle.std.proofs.Common.{◌++◌, ap, ◌∙◌}
use Rattle.checksum.specs.Checksum.{jis_checksum}
use Rattle.buffer.specs.Held.{held}
use Rattle.reply.proofs.Framing.{framed}
use Rattle.reply.proofs.sealing.seal_jis.Goals as goal

pub returns-clause-items : goal.returns-clause-items
returns-clause-items g c =
    let payload = held c.args.payload.now in
    framed payload _ _ (held c.push-2.new.self) _ _ _ c.new-frame.ensures c.push.ensures.items c.len.ensures.value
    (c.push-2.ensures.items ∙ ap (λ z. held c.push.new.self ++ z) c.as_slice.ensures.items)
    (c.jis-sum.ensures ∙ ap jis_checksum c.as_slice-2.ensures.items) c.push-3.ensures.items
