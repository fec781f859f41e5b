-- Plans made of bytes. Assumes nothing.
use Rattle.std.specs.Prelude.{◌≡◌, ℕ, ◌<◌, List, length, Ok, Err, Result}
use Rattle.buffer.specs.Held.{held}
use Rattle.links.specs.declared.plan.Plan.{Plan}
use Rattle.links.specs.declared.plan.PlanTooLong.{PlanTooLong}
use Rattle.links.specs.Plans.{longest_plan}

-- a plan with these bytes, or the refusal if they are too many
abbrev pub Drawn : List ℕ → Result Plan PlanTooLong → Type 0
Drawn bytes (Ok p) = held p.bytes ≡ bytes
Drawn bytes (Err e) = longest_plan < length bytes
