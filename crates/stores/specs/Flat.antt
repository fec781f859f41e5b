-- What a flat store means. Assumes nothing.
use Rattle.memory.specs.Memory.{Memory}
use Rattle.stores.specs.declared.flat.FlatStore.{FlatStore}

abbrev pub flat_blocks : FlatStore → Memory
flat_blocks s = s.blocks
