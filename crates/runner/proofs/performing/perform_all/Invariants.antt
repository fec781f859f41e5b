use Rattle.std.proofs.Common.{[], take, vec_items}
use Rattle.tag.specs.Runs.{Ran}
use Rattle.tag.specs.History.{History}
use Rattle.runner.specs.Told.{Told}
use Rattle.runner.proofs.performing.perform_all.Given as goal

-- the calls so far, with their answers, tell a history that led to the tag
abbrev pub invariant-loop-call : goal.invariant-loop-call
invariant-loop-call g l = (store : g.row.S.Denot) → Ran g.S.Store.blocks store [] l.initial.tag →
    (h : History) × Told (take l.call-index l.calls) (vec_items l.answers) h × Ran g.S.Store.blocks store h l.tag
