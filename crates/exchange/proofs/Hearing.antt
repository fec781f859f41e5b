-- An exchange of a body with its checksum. Assumes nothing.
use Rattle.std.proofs.Common.{◌≡◌, ℕ, List, Some, Ok, Err, Option, Result, ap, ◌∙◌, subst}
use Rattle.std.specs.Result.{result_ok}
use Rattle.memory.specs.declared.refusal.Refusal.{Refusal}
use Rattle.reply.specs.Frames.{type_b_frame}
use Rattle.type_b.specs.Frames.{kind_of}
use Rattle.link.specs.declared.delivery.Delivery.{Delivery}
use Rattle.link.specs.Exchanges.{LinkState, heard, exchanged, came, Exchange, Exchanged}
use Rattle.exchange.specs.Asked.{Asked}

module _ {L : Type 0} (state : L → LinkState) (may : L → ℕ → Delivery → Type 0) where
  -- what came of an exchange that was not refused
  made : (l l' : L) (frame before after : List ℕ) (r : Result (Option ℕ) Refusal) (o : Option ℕ) → Exchanged state may l frame r before after l'
      → result_ok r ≡ Some o → Exchange state may l frame o before after l'
  made l l' frame before after (Ok p) o x e = let same : p ≡ o = cc in subst (λ q. Exchange state may l frame q before after l') same x.1
  made l l' frame before after (Err f) o x e = cc

  pub asked : (l l' : L) (body frame before after : List ℕ) (r : Result (Option ℕ) Refusal) (o : Option ℕ) (b : Option (List ℕ)) → frame ≡ type_b_frame body
      → Exchanged state may l frame r before after l' → result_ok r ≡ Some o → b ≡ came o after → Asked state may l body b l'
  asked l l' body frame before after r o b f e is c =
      let x = made l l' frame before after r o e is in
      let k : kind_of frame ≡ kind_of (type_b_frame body) = ap kind_of f in
      record {
        delivery = x.delivery;
        allowed = x.allowed;
        later = x.later;
        leaves = x.leaves ∙ ap (λ f. exchanged (state l) f x.delivery) k;
        hears = c ∙ x.hears ∙ ap (λ f. heard (state l).tag f x.delivery) k;
      }
