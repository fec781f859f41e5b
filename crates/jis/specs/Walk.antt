-- A block list gone through. Assumes nothing.
use Rattle.std.specs.Prelude.{ℕ, List}
use Rattle.jis.specs.declared.blocks.Blocks.{Blocks}
use Rattle.jis.specs.Elements.{numbers}

-- the block numbers still to come
abbrev pub numbers_left : Blocks → List ℕ
numbers_left b = numbers b.left b.bytes.now
