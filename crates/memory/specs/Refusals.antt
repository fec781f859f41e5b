-- Which number each refusal has. Assumes nothing.
use Rattle.std.specs.Prelude.{ℕ}
use Rattle.memory.specs.declared.refusal.Refusal.{Refusal}
use Rattle.memory.specs.declared.refusal.Refusal.TheVariants.{NoSuchBlock, NotBlockSized, NotImageSized, ReplyBufferShort}

abbrev pub refusal_number : Refusal → ℕ
refusal_number NoSuchBlock = 1
refusal_number NotBlockSized = 2
refusal_number NotImageSized = 3
refusal_number ReplyBufferShort = 4
