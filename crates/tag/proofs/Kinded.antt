-- A Type B frame is taken by its kind. Assumes nothing.
use Rattle.std.proofs.Common.{◌≡◌, ℕ, List, Some, None, Option, refl}
use Rattle.memory.specs.Memory.{Memory}
use Rattle.type_b.specs.Frames.{kind_of}
use Rattle.type_b_service.specs.Turns.{counted}
use Rattle.tag.specs.Model.{Powered, Model}
use Rattle.tag.specs.Steps.{type_b_body, completed_by, power_after, memory_by, type_b_after}
use Rattle.tag.specs.Kinds.{body_to, completed_of, power_of, memory_of, taken}

pub body_by_kind : (o : Option Powered) (m : Memory) (f : List ℕ) → type_b_body o m f ≡ body_to o m (kind_of f)
body_by_kind None m f = refl
body_by_kind (Some p) m f = refl

by_power : (o : Option Powered) (m : Memory) (n : ℕ) (f : List ℕ) →
    let before : Model = record { memory = memory_by o m f; power = power_after o m f; performed = counted n (completed_by o f) } in
    let after : Model = record { memory = memory_of o m (kind_of f); power = power_of o m (kind_of f); performed = counted n (completed_of o (kind_of f)) } in
    before ≡ after
by_power None m n f = refl
by_power (Some p) m n f = refl

pub after_by_kind : (s : Model) (f : List ℕ) → type_b_after s f ≡ taken s (kind_of f)
after_by_kind s f = by_power s.power s.memory s.performed f
