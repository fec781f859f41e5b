use Rattle.std.proofs.Common.{sym, ◌∙◌, arith, rules}
use Rattle.type_b.specs.Frames.{kind_of}
use Rattle.type_b.proofs.Framing.{short, taken}
use Rattle.type_b.proofs.parsing.taken_apart.Goals as goal
use Rattle.type_b.proofs.parsing.taken_apart.Goals.{in_default-via-then-frame-lt3, in_default-via-in-len3-up+else-is_intact}

pub returns-in-len3-up : goal.returns-in-len3-up
returns-in-len3-up c = c.body_taken.ensures ∙ taken c.args.frame.now _ (sym c.is_intact.ensures ∙ c.if-is_intact.true) (omega arith)

pub returns-in_default : goal.returns-in_default
unfolding kind_of
returns-in_default c =
    elim c.in_default.branch [ in_default-via-then-frame-lt3 w ↦ search (rules, short) | in_default-via-in-len3-up+else-is_intact w ↦ search rules ]
