use Rattle.std.proofs.Common.{◌≡◌, ◌≤◌, drop}
use Rattle.script.specs.Words.{number}
use Rattle.script.proofs.Steps.{number_from}
use Rattle.script.proofs.values.read_number.Given as goal

-- the digits that are left give the number
abbrev pub invariant-loop-c : goal.invariant-loop-c
invariant-loop-c l = (l.n ≤ l.cap) × (number_from l.cap l.n (drop l.c-index l.word) ≡ number l.cap l.word)
