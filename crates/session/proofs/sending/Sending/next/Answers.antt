use Rattle.std.proofs.Common.{◌+◌, min, ap, ◌∙◌}
use Rattle.buffer.specs.Held.{held}
use Rattle.session.proofs.Cuts.{next_part, next_left, next_more}
use Rattle.session.proofs.sending.Sending.next.Goals as goal

pub returns : goal.returns
returns c =
    let s = c.args.self in
    let w = held s.answer in
    let e = c.min-to.ensures ∙ ap (min (s.to + c.args.room)) c.len.ensures.value in
    record {
      part = next_part w s.to c.args.room _ s.within e;
      left = next_left w s.to c.args.room _ s.within e;
      more = next_more w s.to c.args.room _ s.within e;
    }
