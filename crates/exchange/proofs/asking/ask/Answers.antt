use Rattle.std.proofs.Common.{◌≡◌, ◌-◌, Some, None, take, sym, ap, ◌∙◌, arith}
use Rattle.buffer.specs.Held.{held}
use Rattle.link.specs.Carried.{carried}
use Rattle.exchange.proofs.Hearing.{asked}
use Rattle.exchange.proofs.asking.ask.Goals as goal

pub returns-in_err-arrived : goal.returns-in_err-arrived
returns-in_err-arrived g c =
    asked g.L.Link.state g.L.Link.may c.args.link.now c.exchange.new.self (held c.args.body.now) c.as_slice.result.now _ c.exchange.new.reply c.exchange.result None _
    (c.as_slice.ensures.items ∙ c.seal_type_b.ensures.items) c.exchange.ensures (sym c.in_ok-ok.ensures.value ∙ ap Some c.in_err-arrived.was) cc

pub returns : goal.returns
returns g c =
    let n = c.in_ok-arrived.arrived in
    let whole : n - 0 ≡ n = omega arith in
    asked g.L.Link.state g.L.Link.may c.args.link.now c.exchange.new.self (held c.args.body.now) c.as_slice.result.now _ c.exchange.new.reply c.exchange.result (Some n) _
    (c.as_slice.ensures.items ∙ c.seal_type_b.ensures.items) c.exchange.ensures (sym c.in_ok-ok.ensures.value ∙ ap Some c.in_ok-arrived.was)
    (c.body_of.ensures ∙ ap (λ k. carried (take k c.exchange.new.reply)) whole)
