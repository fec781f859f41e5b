use Rattle.std.proofs.Common.{Some, None}
use Rattle.stores.specs.Log.{entries}
use Rattle.stores.specs.Replays.{read_back}
use Rattle.stores.proofs.log.LogStore.newest_bytes.Goals as goal

pub returns-in-Some : goal.returns-in-Some
returns-in-Some c = read_back (entries c.args.self.now) c.args.b.index (Some c.in-Some.e) c.args.b.within c.in-Some.ensures

pub returns-in-None : goal.returns-in-None
returns-in-None c = read_back (entries c.args.self.now) c.args.b.index None c.args.b.within c.in-None.ensures
