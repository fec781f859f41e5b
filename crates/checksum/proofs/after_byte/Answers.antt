use Rattle.std.proofs.Common.{◌≡◌, ℕ, fold, rules, [], ◌∷◌, refl}
use Rattle.std.proofs.iter.Yields.{Range-gives, nat_range_steps}
use Rattle.std.proofs.lemmas.Fn.{fold_over}
use Rattle.std.proofs.lemmas.List.Sums.{fold-append}
use Rattle.std.specs.declared.ops.Range.{Range}
use Rattle.checksum.specs.Checksum.{bit_at}
use Rattle.checksum.specs.Directions.{step_by}
use Rattle.checksum.proofs.after_byte.Goals as goal

pub returns : goal.returns
returns g c =
    let d = g.D.Direction in
    let step = step_by d.POLYNOMIAL d.stays d.leaves in
    let turn : ℕ → ℕ → ℕ = λ r k. step r (bit_at c.args.byte (d.place k)) in
    let turns : Range ℕ = record { start = 0; end = 8 } in
    fold_over nat_range_steps (λ x. x) _ (λ ks r. r ≡ fold turn c.args.register ks) _
    (λ ks a k b f' i h. rw (fold-append turn c.args.register ks (k ∷ [])) (search rules))
    turns (0 ∷ 1 ∷ 2 ∷ 3 ∷ 4 ∷ 5 ∷ 6 ∷ 7 ∷ []) c.args.register c.fold.result (Range-gives turns) refl c.fold.ensures.ran
