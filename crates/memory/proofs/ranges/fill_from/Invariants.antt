use Rattle.std.proofs.Common.{◌≡◌, ◌++◌, length, drop}
use Rattle.memory.specs.Memory.{bytes_from}
use Rattle.memory.proofs.ranges.fill_from.Given as goal

-- the bytes of the pieces so far are there, and the rest of the buffer is as it was
abbrev pub invariant-loop-piece : goal.invariant-loop-piece
invariant-loop-piece g l =
    (goal.iterator-loop-piece g).can_next l.piece-iterator × (goal.iterator-loop-piece g).is_finite l.piece-iterator
    × (l.out ≡ bytes_from (g.S.Store.blocks l.store) l.fn.start.at l.piece-iterator.done ++ drop l.piece-iterator.done l.initial.out)
    × (l.piece-iterator.start ≡ l.fn.start.at) × (l.piece-iterator.len ≡ length l.initial.out)
