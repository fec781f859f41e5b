-- The last piece of a command, as the code takes it. Assumes nothing.
use Rattle.std.proofs.Common.{◌≡◌, ℕ, false, List, [], sym, ap, ◌∙◌, subst}
use Rattle.memory.specs.Memory.{Memory}
use Rattle.type_b.specs.Frames.{information}
use Rattle.command.specs.Performed.{answer_to, memory_after}
use Rattle.session.specs.Chains.{more, commanded, picked_order}
use Rattle.session.specs.Model.{SessionModel, last_body, after_answer, joined_to}
use Rattle.session.proofs.Joins.{picked_is}
use Rattle.type_b_service.specs.declared.state.State.{State}
use Rattle.type_b_service.specs.Turns.{Phase, active, turn, effect, ordered}
use Rattle.type_b_service.specs.View.{Turned, phase_of}

module _ (x : List ℕ) (m after : Memory) (t j u : SessionModel) (inf a said : List ℕ) (state : State)
    (ej : j ≡ joined_to t inf) (ea : a ≡ answer_to x m (picked_order j.chain inf)) (em : after ≡ memory_after x m (picked_order j.chain inf))
    (eu : u ≡ after_answer j a) (es : said ≡ last_body (after_answer j a)) (ep : phase_of state ≡ active u) where
  order_is : picked_order j.chain inf ≡ commanded (more t.chain inf)
  order_is = ap (λ z. picked_order z.chain inf) ej ∙ picked_is t.chain inf

  session_is : after_answer j a ≡ after_answer t (answer_to x m (commanded (more t.chain inf)))
  session_is = ap (λ z. after_answer z a) ej ∙ ap (after_answer t) (ea ∙ ap (answer_to x m) order_is)

  pub last_turned : (p : Phase) → p ≡ active t → Turned (turn [] x m p (information false inf)) state said
  last_turned p e = subst (λ z. Turned (turn [] x m z (information false inf)) state said) (sym e) record {
    phase = ep ∙ ap active (eu ∙ session_is);
    body = es ∙ ap last_body session_is;
  }

  pub last_written : (p : Phase) → p ≡ active t → after ≡ effect x m (ordered p inf)
  last_written p e = subst (λ z. after ≡ effect x m (ordered z inf)) (sym e) (em ∙ ap (memory_after x m) order_is)
