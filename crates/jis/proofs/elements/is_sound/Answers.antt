use Rattle.std.proofs.Common.{◌≡◌, ◌+◌, ◌-◌, true, false, ◌&&◌, get_or, drop, sym, refl, ap, ◌∙◌, arith}
use Rattle.jis.specs.Elements.{size, sound}
use Rattle.jis.proofs.Listing.{lawful_at, sound_more}
use Rattle.jis.proofs.elements.is_sound.Goals as goal
use Rattle.jis.proofs.elements.is_sound.Goals.{After-is_lawful}

tested : (c : After-is_lawful) → c.is_lawful.result ≡ lawful_at c.args.bytes.now c.loop-turn.at
tested c = simp (c.byte_at-d0.ensures, c.byte_at.ensures, c.byte_at-in-loop-turn.ensures) at c.is_lawful.ensures

pub returns-then-not-is_lawful : goal.returns-then-not-is_lawful
returns-then-not-is_lawful c =
    let xs = c.args.bytes.now in
    let at = c.loop-turn.at in
    let left = sound (c.args.m - (c.loop-turn._turn + 1)) (drop (at + size (get_or xs at 0)) xs) in
    let bad : lawful_at xs at ≡ false = sym (tested (goal.at.returns-then-not-is_lawful c).After-is_lawful) ∙ c.if-not-is_lawful.true in
    sym (sound_more xs at _ _ _ c.loop-turn-test.true refl c.loop-turn.invariant.1 ∙ ap (λ b. b && left) bad)

pub loop-turn-preserved : goal.loop-turn-preserved
loop-turn-preserved c =
    let xs = c.args.bytes.now in
    let at = c.loop-turn.at in
    let s = c.element_size-at.result in
    let left = sound (c.args.m - (c.loop-turn._turn + 1)) (drop (at + s) xs) in
    let is : s ≡ size (get_or xs at 0) = c.element_size-at.ensures.value ∙ ap size c.byte_at-d0.ensures in
    let good : lawful_at xs at ≡ true = sym (tested (goal.at.loop-turn-preserved c).After-is_lawful) ∙ c.if-not-is_lawful.false in
    (omega arith, sym (sound_more xs at _ _ s c.loop-turn-test.true is c.loop-turn.invariant.1 ∙ ap (λ b. b && left) good))
