use Rattle.std.proofs.Common.{◌+◌, ◌%◌, ◌^◌, ◌<◌, ap, ◌∙◌, arith}
use Rattle.type_b.specs.Frames.{kind_of}
use Rattle.tag.specs.View.{view}
use Rattle.link.specs.Exchanges.{heard}
use Rattle.links.proofs.Handing.{counted}
use Rattle.links.proofs.tag_link.TagLinkLink.exchange.Goals as goal

pub returns : goal.returns
returns g c =
    let was = c.args.self.now in
    let said = c.carry-heard.ensures in
    let h = heard (view g.S.Store.blocks was.tag) (kind_of c.args.frame.now) c.next.result in
    let low : was.unheard < 2 ^ 64 = omega arith in
    let unheard = ap (λ k. (was.unheard + k) % 2 ^ 64) c.from.ensures ∙ counted c.carry-heard.result h c.is_none.result was.unheard said.sound c.is_none.ensures low in (
      omega arith,
      record {
        delivery = c.next.result;
        allowed = c.next.ensures.now;
        later = c.next.ensures.later;
        leaves = λ i. record { tag = said.tag i; exchanges = (was.exchanges + 1) % 2 ^ 64; unheard = unheard i };
        hears = said.hears;
        laid = said.laid;
      },
    )
