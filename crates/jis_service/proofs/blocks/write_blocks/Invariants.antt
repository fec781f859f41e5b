use Rattle.std.proofs.Common.{◌≡◌}
use Rattle.std.specs.Iterator.Adapters.{zip_first, zip_second}
use Rattle.std.specs.Slice.Iter.{iter_rest}
use Rattle.jis.specs.Walk.{numbers_left}
use Rattle.jis_service.specs.Service.{written_in}
use Rattle.jis_service.proofs.Putting.{put_each}
use Rattle.jis_service.proofs.blocks.write_blocks.Given as goal

-- what is left to write makes the whole
abbrev pub invariant-loop-b : goal.invariant-loop-b
invariant-loop-b g l =
    put_each (g.S.Store.blocks l.store) (numbers_left (zip_first l.b-iterator)) (iter_rest (zip_second l.b-iterator))
    ≡ written_in (g.S.Store.blocks l.initial.store) (numbers_left l.fn.write.blocks) l.fn.write.«data».now
