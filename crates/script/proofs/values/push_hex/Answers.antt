use Rattle.std.proofs.Common.{rules, ◌≡◌, ◌<◌, ◌≤◌, ◌+◌, ◌*◌, ◌/◌, length, vec_items, drop, drop-drop, length-drop, sym, ap, ap₂, ◌∙◌, arith}
use Rattle.script.specs.Words.{hex_word, onto}
use Rattle.script.proofs.Steps.{hex_more, hex_stops, pair_read}
use Rattle.script.proofs.values.push_hex.Goals as goal

pub loop-high-preserved : goal.loop-high-preserved
loop-high-preserved c =
    let i = c.loop-high.high-index in
    let w = c.args.word.now in
    let n = length w / 2 in
    let lt : i < n = omega (arith, c.loop-high-test.true, c.as_chunks.ensures.front_len) in
    let long : 2 ≤ length (drop (2 * i) w) = simp length-drop (omega (arith, lt)) in
    let e : 2 * i + 2 ≡ 2 * (i + 1) = omega arith in
    ap₂ (λ xs v. onto xs (hex_word v)) c.in_ok-push.ensures.items (sym (drop-drop 2 (2 * i) w ∙ ap (λ j. drop j w) e))
    ∙ hex_more (vec_items c.loop-high.bytes) (drop (2 * i) w) _ long (pair_read _ n i w _ c.as_chunks.ensures.front lt c.in_ok-hex_byte.ensures)
    ∙ c.loop-high.invariant

pub returns-in_err-hex_byte : goal.returns-in_err-hex_byte
returns-in_err-hex_byte c =
    let i = c.loop-high.high-index in
    let w = c.args.word.now in
    let n = length w / 2 in
    let lt : i < n = omega (arith, c.loop-high-test.true, c.as_chunks.ensures.front_len) in
    let long : 2 ≤ length (drop (2 * i) w) = simp length-drop (omega (arith, lt)) in
    let stops =
    hex_stops (vec_items c.loop-high.bytes) (drop (2 * i) w) _ long (pair_read _ n i w _ c.as_chunks.ensures.front lt c.in_err-hex_byte.ensures)
    ∙ c.loop-high.invariant in
    search rules
