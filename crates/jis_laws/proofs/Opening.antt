-- A frame opened again. Assumes nothing.
use Rattle.std.proofs.Common.{◌≡◌, ℕ, ◌+◌, ◌-◌, ◌≤◌, true, List, ◌∷◌, ◌++◌, length, Ok, Result, refl, ap, ◌∙◌, ap₂, arith, length-append}
use Rattle.std.specs.Str.{bytes_eq}
use Rattle.std.proofs.lemmas.Slice.Eq.{bytes_eq-Decides}
use Rattle.std.proofs.lemmas.List.{take_at, drop_at}
use Rattle.std.proofs.lemmas.Bool.{and_from, le-leb, eq-eqb}
use Rattle.checksum.specs.Checksum.{jis_checksum}
use Rattle.reply.specs.Frames.{jis_frame, jis_sealed}
use Rattle.jis.specs.declared.fault.Fault.{Fault}
use Rattle.jis.specs.declared.fault.Fault.TheVariants.{Length, Checksum}
use Rattle.jis.specs.Commands.{opened, on}
use Rattle.jis.proofs.Rules.{passed}

pub same_self : (xs : List ℕ) → bytes_eq xs xs ≡ true
same_self xs = (bytes_eq-Decides xs xs).1 refl

pub opened_frame : (p : List ℕ) → 1 ≤ length p → opened (jis_frame p) ≡ Ok p
unfolding jis_sealed
opened_frame p some =
    let n = length p in
    let covered = (n + 1) ∷ p in
    let sum = jis_checksum covered in
    let long : length covered ≡ n + 1 = omega arith in
    let all : length (p ++ sum) ≡ n + 2 = length-append p sum in
    let back : n ≡ n + 1 - 1 = omega arith in
    passed _ Length _ (and_from _ _ (le-leb 2 (n + 1) (omega arith)) (eq-eqb _ _ (omega (arith, all))))
    ∙ passed _ Checksum _ (ap₂ (λ s c. bytes_eq s (jis_checksum c)) (drop_at covered sum (n + 1) long) (take_at covered sum (n + 1) long) ∙ same_self sum)
    ∙ ap (λ t. Ok t) (take_at p sum (n + 1 - 1) back)

-- what is done with the payload of a frame is done with the payload that it was put together from
pub through : {Y : Type 0} (f : List ℕ → Result Y Fault) (p : List ℕ) → 1 ≤ length p → on (opened (jis_frame p)) f ≡ f p
through f p some = ap (λ r. on r f) (opened_frame p some)
