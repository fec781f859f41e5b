use Rattle.std.proofs.Common.{ℕ, List, subst}
use Rattle.system.specs.Words.{Word}
use Rattle.system.proofs.Masks.{mask_bit}
use Rattle.system.proofs.protection.Protection.unprotected.Goals as goal

pub returns-clause-bits : goal.returns-clause-bits
returns-clause-bits c =
    let ro = subst (λ (f : List ℕ). Word f c.word.result) c.rorf.ensures c.word.ensures in
    let se = subst (λ (f : List ℕ). Word f c.word-2.result) c.security.ensures c.word-2.ensures in
    λ b h. mask_bit c.args.self.now.bytes c.word.result c.word-2.result b ro se c.word.type_inv c.word-2.type_inv h
