use Rattle.std.proofs.Common.{◌≡◌, ◌*◌, drop, vec_items}
use Rattle.script.specs.Words.{hex_word, onto}
use Rattle.script.proofs.values.push_hex.Given as goal

-- the digits that are left give the rest of the bytes
abbrev pub invariant-loop-high : goal.invariant-loop-high
invariant-loop-high l = onto (vec_items l.bytes) (hex_word (drop (2 * l.high-index) l.word)) ≡ onto (vec_items l.initial.bytes) (hex_word l.word)
