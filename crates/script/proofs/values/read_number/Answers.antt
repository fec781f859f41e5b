use Rattle.std.proofs.Common.{◌≡◌, ◌+◌, ◌*◌, min, drop, Ok, sym, ap, ◌∙◌, arith}
use Rattle.std.proofs.lemmas.List.{at_drop_all}
use Rattle.script.proofs.Steps.{number_from, number_more, number_stops}
use Rattle.script.proofs.values.read_number.Goals as goal

pub returns-then-not-is_ascii_digit : goal.returns-then-not-is_ascii_digit
returns-then-not-is_ascii_digit c = record {
  value =
      sym (number_stops c.args.cap c.loop-c.n c.args.word.now c.loop-c.c-index c.loop-c-test.true (sym c.if-not-is_ascii_digit.ensures.value))
      ∙ c.loop-c.invariant.1;
  bound = tt;
}

pub loop-c-preserved : goal.loop-c-preserved
loop-c-preserved c =
    let cap = c.args.cap in
    let w = c.args.word.now in
    let i = c.loop-c.c-index in (
      omega (arith, c.min-n.ensures),
      ap (λ n. number_from cap n (drop (i + 1) w)) (c.min-n.ensures ∙ ap (λ d. min cap (10 * c.loop-c.n + d)) c.from.ensures)
          ∙ number_more cap c.loop-c.n w i c.loop-c-test.true (sym c.if-not-is_ascii_digit.ensures.value)
          ∙ c.loop-c.invariant.1,
    )

pub returns : goal.returns
returns c =
    let cap = c.args.cap in
    let n = c.loop-c.n in
    let small : n ≡ min cap n = omega (arith, c.loop-c.invariant.0) in
    record {
      value = ap (λ k. Ok k) small ∙ sym (at_drop_all (number_from cap n) c.args.word.now c.loop-c.c-index c.loop-c-test.false) ∙ c.loop-c.invariant.1;
      bound = c.loop-c.invariant.0;
    }
