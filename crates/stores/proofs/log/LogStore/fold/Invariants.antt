use Rattle.std.proofs.Common.{◌≡◌, ◌≤◌, length}
use Rattle.stores.specs.Log.{entries, fold}
use Rattle.stores.proofs.log.LogStore.fold.Given as goal

-- the blocks below i are folded
abbrev pub invariant-loop-i : goal.invariant-loop-i
invariant-loop-i l = (l.kept.items ≡ fold l.i (entries l.self)) × (length l.kept.items ≤ l.i)
