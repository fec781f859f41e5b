use Rattle.std.proofs.Common.{◌≡◌, [], length, vec_items}
use Rattle.script.specs.Words.{words_of}
use Rattle.script.specs.Line.{read_frame}
use Rattle.script.proofs.commands.read_frame.Given as goal

-- the words that are left give the rest of the frame
abbrev pub invariant-loop-word : goal.invariant-loop-word
invariant-loop-word l = read_frame (vec_items l.frame) (words_of l.words.rest.now) ≡ read_frame [] (words_of l.initial.words.rest.now)

abbrev pub decreases-loop-word : goal.decreases-loop-word
decreases-loop-word l = length (words_of l.words.rest.now)
