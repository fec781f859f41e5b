use Rattle.std.proofs.Common.{◌≡◌, vec_items}
use Rattle.script.specs.Words.{words_of, hex_bytes, onto}
use Rattle.script.proofs.values.read_hex.Given as goal

-- the words that are left give the rest of the bytes
abbrev pub invariant-loop-word : goal.invariant-loop-word
invariant-loop-word l = onto (vec_items l.bytes) (hex_bytes (words_of l.word-iterator.rest.now)) ≡ hex_bytes (words_of l.fn.words.rest.now)
