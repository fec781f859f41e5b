use Rattle.std.proofs.Common.{◌≡◌, ◌-◌, ◌*◌, ◌≤◌, drop}
use Rattle.jis.specs.Elements.{sound}
use Rattle.jis.proofs.elements.is_sound.Given as goal

-- the answer rests on what is left
abbrev pub invariant-loop-turn : goal.invariant-loop-turn
invariant-loop-turn l = (l.at ≤ 3 * l._turn) × (sound (l.m - l._turn) (drop l.at l.bytes) ≡ sound l.m l.bytes)
