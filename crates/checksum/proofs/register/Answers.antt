use Rattle.std.proofs.Common.{ℕ, fold, rules, ap, ◌∙◌}
use Rattle.checksum.specs.Directions.{in_turn, step_by}
use Rattle.checksum.proofs.Bits.{by_byte}
use Rattle.checksum.proofs.register.Goals as goal

pub returns : goal.returns
returns g c =
    let d = g.D.Direction in
    let step = step_by d.POLYNOMIAL d.stays d.leaves in
    let over : ℕ → ℕ → ℕ = λ r x. fold step r (in_turn d.place x) in
    let run = c.fold.ensures.runs in
    run.3 (λ r y. over r y.now) (λ r y v f' k. search rules)
    ∙ (c.iter.ensures.runs run.0 run.0.seen).5 over c.START.result run.2
    ∙ ap (λ i. fold over c.START.result i.rest.now) run.1
    ∙ search (c.iter.ensures.rest, c.START.ensures, by_byte step (in_turn d.place) d.START c.args.bytes.now)
