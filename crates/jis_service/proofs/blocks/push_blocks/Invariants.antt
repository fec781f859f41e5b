use Rattle.std.proofs.Common.{◌≡◌, ◌+◌, ◌*◌, ◌++◌, map, length}
use Rattle.std.specs.List.{flat_map}
use Rattle.buffer.specs.Held.{held}
use Rattle.memory.specs.Memory.{block_at}
use Rattle.jis.specs.Walk.{numbers_left}
use Rattle.jis_service.proofs.blocks.push_blocks.Given as goal

-- what is held, and what is left to push, make the whole
abbrev pub invariant-loop-b : goal.invariant-loop-b
invariant-loop-b g l =
    (held l.payload ++ flat_map (λ block. block) (map (block_at (g.S.Store.blocks l.store)) (numbers_left l.b-iterator))
    ≡ held l.initial.payload ++ flat_map (λ block. block) (map (block_at (g.S.Store.blocks l.store)) (numbers_left l.fn.list)))
    × (length (held l.payload) + 16 * length (numbers_left l.b-iterator) ≡ length (held l.initial.payload) + 16 * length (numbers_left l.fn.list))
