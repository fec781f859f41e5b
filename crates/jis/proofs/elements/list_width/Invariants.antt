use Rattle.std.proofs.Common.{◌≡◌, ◌+◌, ◌-◌, ◌*◌, ◌≤◌, drop}
use Rattle.jis.specs.Elements.{width}
use Rattle.jis.proofs.elements.list_width.Given as goal

-- what is passed and what is left make the whole width
abbrev pub invariant-loop-turn : goal.invariant-loop-turn
invariant-loop-turn l = (l.at ≤ 3 * l._turn) × (l.at + width (l.m - l._turn) (drop l.at l.bytes) ≡ width l.m l.bytes)
