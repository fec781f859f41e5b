use Rattle.std.proofs.Common.{◌≡◌, length, ap, ◌∙◌, arith}
use Rattle.memory.specs.Memory.{Memory, with_bytes}
use Rattle.stores.specs.Cuts.{image_written}
use Rattle.stores.proofs.log_store.LogStoreLoad.load.Goals as goal

pub returns-in-Ok : goal.returns-in-Ok
returns-in-Ok c =
    let e : length c.args.image.now ≡ 512 = omega arith in
    (e, c.in-Ok.ensures.1 ∙ ap (λ (m : Memory). with_bytes m 0 c.args.image.now) c.zeros-store.ensures.blocks ∙ image_written c.args.image.now e)
