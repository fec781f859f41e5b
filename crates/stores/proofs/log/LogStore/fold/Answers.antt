use Rattle.std.proofs.Common.{◌≡◌, length, sym, ap, ◌∙◌, append-nil, arith, Some, None}
use Rattle.arrayvec.specs.ArrayVec.{ArrayVec}
use Rattle.stores.specs.declared.entry.Entry.{Entry}
use Rattle.stores.specs.Log.{entries, fold, newest}
use Rattle.stores.specs.Replays.{fold_more}
use Rattle.stores.proofs.log.LogStore.fold.Goals.{in-Some, in_default}
use Rattle.stores.proofs.log.LogStore.fold.Goals as goal

pub loop-i-init : goal.loop-i-init
unfolding fold
loop-i-init c = (c.new-kept.ensures, omega (arith, ap length c.new-kept.ensures))

pub loop-i-preserved : goal.loop-i-preserved
loop-i-preserved c =
    let at : c.newest.result ≡ newest (entries c.args.self.now) c.loop-i.i = c.newest.ensures ∙ ap (newest (entries c.args.self.now)) c.known.ensures in
    elim c.match-newest.branch [
      | in-Some w ↦
          let kept : c.match-newest.kept.items ≡ w.push.new.self.items = ap (λ (v : ArrayVec Entry). v.items) w.kept-is in (
            fold_more c.loop-i.i (entries c.args.self.now) c.loop-i.kept.items c.match-newest.kept.items (Some w.in-Some.e) c.loop-i.invariant.0 (sym w.in-Some.is ∙ at) (kept ∙ w.push.ensures.items),
            omega (arith, ap length kept, w.push.ensures.len),
          )
      | in_default w ↦
          let kept : c.match-newest.kept.items ≡ c.loop-i.kept.items = ap (λ (v : ArrayVec Entry). v.items) w.kept-is in (
            fold_more c.loop-i.i (entries c.args.self.now) c.loop-i.kept.items c.match-newest.kept.items None c.loop-i.invariant.0 (sym w.in_default.is ∙ at) (kept ∙ sym (append-nil c.loop-i.kept.items)),
            omega (arith, ap length kept),
          )
    ]
