use Rattle.std.proofs.Common.{ltb, ap, ◌∙◌}
use Rattle.buffer.specs.Held.{held}
use Rattle.session.proofs.Cuts.{some_left}
use Rattle.session.proofs.sending.Sending.goes_on.Goals as goal

pub returns : goal.returns
returns c =
    let s = c.args.self.now in
    let e = ap (ltb s.to) c.len.ensures.value in
    record { value = e; left = e ∙ some_left (held s.answer) s.to }
