use Rattle.std.proofs.Common.{refl}
use Rattle.stores.specs.Log.{entries}
use Rattle.stores.specs.Replays.{logged}
use Rattle.stores.proofs.log.LogStore.log_write.Goals as goal

pub returns : goal.returns
returns c =
    let w = logged (entries c.args.self.now) _ _ _ c.args.b.index c.args.block.now c.push.ensures.items c.make_room.ensures.entries refl refl in
    record { blocks = w.0; logged = w.1 }
