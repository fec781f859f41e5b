use Rattle.std.proofs.Common.{◌≡◌, length, take}
use Rattle.memory.specs.Memory.{with_bytes}
use Rattle.memory.proofs.ranges.put_from.Given as goal

-- the bytes of the pieces so far are in place
abbrev pub invariant-loop-piece : goal.invariant-loop-piece
invariant-loop-piece g l =
    (goal.iterator-loop-piece g).can_next l.piece-iterator × (goal.iterator-loop-piece g).is_finite l.piece-iterator
    × (g.S.Store.blocks l.store ≡ with_bytes (g.S.Store.blocks l.initial.store) l.fn.start.at (take l.piece-iterator.done l.«data»))
    × (l.piece-iterator.start ≡ l.fn.start.at) × (l.piece-iterator.len ≡ length l.«data»)
