use Rattle.std.proofs.Common.{◌≡◌, ℕ, ◌+◌, ◌-◌, ◌*◌, ◌<◌, ◌≤◌, length, ap, ◌∙◌, arith}
use Rattle.memory.proofs.Runs.{piece_written}
use Rattle.memory.proofs.ranges.put_from.Goals as goal

pub loop-piece-preserved : goal.loop-piece-preserved
loop-piece-preserved g c =
    let d = c.loop-piece.piece-iterator.done in
    let e = c.next.new.self.done in
    let p = c.in-Some.piece in
    let next = c.in-Some.ensures.steps in
    let de : d < e = next.2.0 in
    let el : e ≤ length c.args.«data».now = omega arith in
    let at : 16 * p.block.index + p.in_block.start ≡ c.args.start.at + d = next.2.3 ∙ ap (λ (z : ℕ). z + d) c.loop-piece.invariant.3 in
    let po : p.in_block.end ≡ p.in_block.start + (e - d) = next.2.4 in
    let on : p.in_block.end ≤ 16 = next.2.5 in
    let eq : p.in_range.start ≡ d = next.2.1 in
    let er : p.in_range.end ≡ e = next.2.2 in
    let start : c.next.new.self.start ≡ c.args.start.at = next.0 ∙ c.loop-piece.invariant.3 in
    let len : c.next.new.self.len ≡ length c.args.«data».now = next.1 ∙ c.loop-piece.invariant.4 in (
      tt,
      tt,
      c.write.ensures ∙ piece_written _ _ c.args.start.at c.args.«data».now d e p.block.index p.in_block.start p.in_block.end p.in_range.start p.in_range.end c.read-held.result c.copy_from_slice.new.self
          (g.met.S.Store.shaped c.loop-piece.store) c.loop-piece.invariant.2 de el at po on p.block.within c.read-held.ensures eq er c.copy_from_slice.ensures.after,
      start,
      len,
    )
