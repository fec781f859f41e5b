use Rattle.std.proofs.Common.{vec_items, ◌∙◌, inl, inr, ⊎_elim}
use Rattle.std.proofs.lemmas.Result.{err_from_is_err_and}
use Rattle.script.specs.Words.{words_of}
use Rattle.script.proofs.Steps.{bytes_more, bytes_stop}
use Rattle.script.proofs.values.read_hex.Goals as goal

pub loop-word-preserved : goal.loop-word-preserved
loop-word-preserved c = bytes_more (vec_items c.loop-word.bytes) c.in-Some.word.now _ _ c.in-Some.ensures.steps _ c.in_ok-push_hex.ensures ∙ c.loop-word.invariant

pub returns-in_err-push_hex : goal.returns-in_err-push_hex
returns-in_err-push_hex c =
    let before = words_of c.loop-word.word-iterator.rest.now in
    let after = words_of c.next.new.self.rest.now in
    let p = err_from_is_err_and c.from_residual.result c.from_residual.ensures.1 in
    rw (p.1, p.2)
    (⊎_elim
    inl
    (λ h. inr (bytes_stop (vec_items c.loop-word.bytes) c.in-Some.word.now before after c.in-Some.ensures.steps _ h ∙ c.loop-word.invariant))
    c.in_err-push_hex.ensures)
