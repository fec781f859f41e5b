use Rattle.std.proofs.Common.{rules, ◌≡◌, ◌-◌, length, ◌∷◌, not, eqb, take, drop, sym, ap, ap₂, ◌∙◌, arith}
use Rattle.std.proofs.lemmas.List.{take_rest}
use Rattle.std.proofs.lemmas.List.Sums.{prefix_len-le-length}
use Rattle.script.specs.Words.{words_of}
use Rattle.script.proofs.Split.{no_word, next_word}
use Rattle.script.proofs.words.WordsIterator.next.Goals as goal

pub returns-in_err-line-clause-steps : goal.returns-in_err-line-clause-steps
returns-in_err-line-clause-steps c =
    let none = no_word c.args.self.now.rest.now (sym c.word_start.ensures ∙ c.in_err-line.was) in
    rw c.from_residual.ensures (none, none)

pub split_at-requires : goal.split_at-requires
split_at-requires c =
    let l = c.args.self.now.rest.now in
    let n = c.in_ok-line.field-0 in
    omega (arith, c.word_len.ensures, prefix_len-le-length (λ c. not (eqb c 32)) (take (length l - n) (drop n l)))

next : (c : goal.After-self-1) → words_of c.args.self.now.rest.now ≡ c.split_at.result.0.now ∷ words_of c.split_at.result.1.now
next c =
    let l = c.args.self.now.rest.now in
    let n = c.in_ok-line.field-0 in
    let parts = c.split_at.ensures in
    next_word l n _ _ (sym c.word_start.ensures ∙ c.in_ok-line.was) (take_rest l n) c.word_len.ensures
    ∙ sym (ap₂ (λ w r. w ∷ words_of r) parts.front parts.back)

pub returns-clause-steps : goal.returns-clause-steps
returns-clause-steps c = next c

pub returns-clause-goes : goal.returns-clause-goes
returns-clause-goes c =
    let shorter = ap length (next c) in
    search rules
