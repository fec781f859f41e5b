-- What a tag does with a Type B frame of a kind, however the frame was written. Assumes nothing.
use Rattle.std.specs.Prelude.{ℕ, List, [], Some, None, Option}
use Rattle.memory.specs.Memory.{Memory}
use Rattle.type_b.specs.Frames.{Kind}
use Rattle.command.specs.Orders.{Asked}
use Rattle.type_b_service.specs.Turns.{turn, completed, effect, counted}
use Rattle.tag.specs.Model.{Powered, Model}

-- the body of the reply, which is empty for silence
abbrev pub body_to : Option Powered → Memory → Kind → List ℕ
body_to None m k = []
body_to (Some p) m k = (turn p.copy.identity p.copy.protection m p.phase k).said

-- the command that it completes
abbrev pub completed_of : Option Powered → Kind → Option Asked
completed_of None k = None
completed_of (Some p) k = completed p.phase k

-- and what the tag is once it took it
abbrev pub power_of : Option Powered → Memory → Kind → Option Powered
power_of None m k = None
power_of (Some p) m k = Some (record { copy = p.copy; phase = (turn p.copy.identity p.copy.protection m p.phase k).phase })

abbrev pub memory_of : Option Powered → Memory → Kind → Memory
memory_of None m k = m
memory_of (Some p) m k = effect p.copy.protection m (completed p.phase k)

abbrev pub taken : Model → Kind → Model
taken s k = record { memory = memory_of s.power s.memory k; power = power_of s.power s.memory k; performed = counted s.performed (completed_of s.power k) }
