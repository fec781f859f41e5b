-- The model of a tag as the code keeps it, and what a call ensures of it. Assumes nothing.
use Rattle.std.specs.Prelude.{◌≡◌, Some, None, Option}
use Rattle.memory.specs.Memory.{Memory}
use Rattle.tag.specs.declared.state.Power.{Power}
use Rattle.tag.specs.declared.state.Tag.{Tag}
use Rattle.type_b_service.specs.View.{phase_of}
use Rattle.tag.specs.Model.{Powered, Model}
use Rattle.tag.specs.History.{Event}
use Rattle.tag.specs.Steps.{Step, fresh}

abbrev pub power_in : Option Power → Option Powered
power_in None = None
power_in (Some p) = Some (record { copy = record { identity = p.copy.identity.bytes; protection = p.copy.protection.bytes }; phase = phase_of p.state })

abbrev pub view : {S : Type 0} → (S → Memory) → Tag S → Model
view blocks t = record { memory = blocks t.store; power = power_in t.power; performed = t.performed }

-- a tag made over a store
abbrev pub Made : {S : Type 0} → (S → Memory) → S → Tag S → Type 0
Made blocks store t = view blocks t ≡ fresh (blocks store)

-- a call, with its arguments and its answer, took the tag t to the tag u
pub record Called {S : Type 0} (blocks : S → Memory) (t : Tag S) (e : Event) (u : Tag S) : Type 0 where
  pub step : Step (view blocks t) e (view blocks u)
