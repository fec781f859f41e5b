-- The state as the code keeps it, and a frame served. Assumes nothing.
use Rattle.std.specs.Prelude.{◌≡◌, ℕ, List}
use Rattle.session.specs.View.{model}
use Rattle.type_b_service.specs.declared.state.State.{State}
use Rattle.type_b_service.specs.declared.state.State.TheVariants.{Idle, Ready, Active, Halt}
use Rattle.type_b_service.specs.Turns.{Phase, idle, ready, halted, active, Turn}

abbrev pub phase_of : State → Phase
phase_of Idle = idle
phase_of Ready = ready
phase_of (Active s) = active (model s)
phase_of Halt = halted

-- the state that a frame left, and the reply that it got
pub record Turned (u : Turn) (state : State) (said : List ℕ) : Type 0 where
  pub phase : phase_of state ≡ u.phase
  pub body : said ≡ u.said
