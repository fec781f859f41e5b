use Rattle.stores.specs.Replays.{newest_counts}
use Rattle.stores.proofs.log_store.newest_entry_counts.Goals as goal

pub returns : goal.returns
returns c = newest_counts
