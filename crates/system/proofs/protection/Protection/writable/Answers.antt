use Rattle.std.proofs.Common.{lit≤, rules}
use Rattle.system.specs.Protection.{may_write}
use Rattle.system.proofs.Masks.{ones_count, least_bit}
use Rattle.system.proofs.protection.Protection.writable.Goals as goal

pub returns : goal.returns
returns c =
    let m = c.unprotected-mask.result in
    let bits = c.unprotected-mask.ensures.bits in
    let p = may_write c.args.self.now.bytes in
    record {
      count = ones_count 27 m p c.unprotected-mask.ensures.small bits;
      lowest = least_bit 27 m p _ c.then.result (lit≤ tt) c.unprotected-mask.ensures.small bits c.then.ensures.variant (λ x q. search rules) c.then.ensures.some;
    }
