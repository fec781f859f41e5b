use Rattle.std.proofs.Common.{[], ◌∷◌, vec_items, sym, refl, subst, take_all}
use Rattle.tag.specs.Runs.{made, call}
use Rattle.tag.proofs.Law.{kept_law}
use Rattle.runner.specs.Told.{Told, none}
use Rattle.runner.proofs.Telling.{told_more}
use Rattle.runner.proofs.performing.perform_all.Goals as goal

pub loop-call-init : goal.loop-call-init
loop-call-init g c = λ store r. ([], subst (λ z. Told [] z []) (sym c.new-answers.ensures.items) none, r)

pub loop-call-preserved : goal.loop-call-preserved
loop-call-preserved g c = λ store r.
    let i = c.loop-call.invariant store r in
    let p = c.in_ok-perform.ensures in (
      p.event ∷ i.0,
      told_more c.args.calls.now c.loop-call.call-index _ _ _ _ c.in_ok-perform.field-0 i.0 p.event c.loop-call-test.true refl
          c.in_ok-push.ensures.items i.1 p.tells,
      call i.2 p.called,
    )

pub returns : goal.returns
returns g c = λ store m.
    let i = c.loop-call.invariant store (made m) in
    record {
      history = i.0;
      told = subst (λ z. Told z (vec_items c.loop-call.answers) i.0) (take_all c.loop-call.call-index c.args.calls.now c.loop-call-test.false) i.1;
      kept = kept_law g.S.Store.blocks store (g.met.S.Store.shaped store) i.0 c.loop-call.tag i.2;
    }
