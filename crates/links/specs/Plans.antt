-- Plans of losses. Assumes nothing.
use Rattle.std.specs.Prelude.{ℕ, cond, List, ◌==◌, slice_index_or}
use Rattle.link.specs.declared.delivery.Delivery.{Delivery}
use Rattle.link.specs.declared.delivery.Delivery.TheVariants.{FrameLost, ReplyLost, Complete}

-- a plan has up to 64 bytes
abbrev pub longest_plan : ℕ
longest_plan = 64

-- a byte of a plan: 01 loses the frame, 02 the reply, and all else passes
abbrev pub delivery_of : ℕ → Delivery
delivery_of b = cond (b == 0x01) FrameLost (cond (b == 0x02) ReplyLost Complete)

-- a byte for each exchange from the first on; past the end of the plan all passes
abbrev pub planned : List ℕ → ℕ → Delivery
planned plan k = delivery_of (slice_index_or plan k 0x00)
