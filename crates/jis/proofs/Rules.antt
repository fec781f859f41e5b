-- Rules that a frame keeps. Assumes nothing.
use Rattle.std.proofs.Common.{◌≡◌, ℕ, ◌+◌, ◌≤◌, Bool, true, List, length, take, drop, Ok, Result, sym, ap, ◌∙◌, arith}
use Rattle.std.proofs.lemmas.Bool.{eq-eqb}
use Rattle.std.proofs.lemmas.Bool.Decides.{nat_tests}
use Rattle.jis.specs.declared.fault.Access.{Access}
use Rattle.jis.specs.declared.fault.Fault.{Fault}
use Rattle.jis.specs.declared.fault.Fault.TheVariants.{ListEnd, BadElement}
use Rattle.jis.specs.Elements.{width, sound}
use Rattle.jis.specs.Commands.{demand, up_to, data_width, asked, blocks_of}

pub passed : {X : Type 0} (b : Bool) (e : Fault) (r : Result X Fault) → b ≡ true → demand b e r ≡ r
passed b e r h = ap (λ t. demand t e r) h

pub up_to_is : (most n : ℕ) → 1 ≤ n → n ≤ most → up_to most n ≡ true
up_to_is most n h k = grind (arith, nat_tests)

-- list and data end with the payload, and each element is lawful
pub blocks_passed : (a : Access) (services : List ℕ) (m : ℕ) (body : List ℕ) (w dw : ℕ) → w ≡ width m body → dw ≡ data_width a m → w + dw ≡ length body
    → sound m (take w body) ≡ true → blocks_of a services m body ≡ Ok (asked a services m (take w body) (drop w body))
blocks_passed a services m body w dw ew ed fits good =
    let ends : width m body + data_width a m ≡ length body = omega (arith, ew, ed, fits) in
    passed _ ListEnd _ (eq-eqb _ _ ends)
    ∙ passed _ (BadElement a) _ (ap (λ k. sound m (take k body)) (sym ew) ∙ good)
    ∙ ap (λ k. Ok (asked a services m (take k body) (drop k body))) (sym ew)
