use Rattle.std.proofs.Common.{◌≡◌, ℕ, ◌-◌, ◌/◌, ◌+◌, rules, of_calls, tests, ap, ◌∙◌, arith}
use Rattle.std.proofs.lemmas.Iterator.{YieldsList-from_range, YieldsList-from_map_by}
use Rattle.std.proofs.lemmas.Iterator.Search.{any_from_yields_List}
use Rattle.memory.specs.declared.number.BlockNumber.{BlockNumber}
use Rattle.command.specs.Barred.{one_of}
use Rattle.command.proofs.Blocks.{one_of_range}
use Rattle.command.proofs.span.Span.any_block.Goals as goal

pub returns : goal.returns
returns g c = λ p h.
    let a = c.args.self.start.at in
    let n = (a + c.args.self.count - 1) / 16 - a / 16 + 1 in
    let first : c.index-first.result ≡ a / 16 = omega arith in
    let source = YieldsList-from_range c.index-first.result _ n c.map.ensures.source (omega arith) in
    any_from_yields_List p _ _ _ c.any.ensures.ran
    (YieldsList-from_map_by _ (λ (b : BlockNumber). b.index) (λ x. x) source c.map.ensures.closure (λ x r q k. search (rules, of_calls, tests)))
    (λ x b q k. (g.met.F.Fn.1.step_stays _ _ _ _ k, h x b (search of_calls)))
    ∙ one_of_range p c.index-first.result n ∙ ap (λ (k : ℕ). one_of p k n) first
