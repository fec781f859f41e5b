-- What the tag's frame call leaves, as a reader on the other side has it. Assumes nothing.
use Rattle.std.proofs.Common.{◌≡◌, ℕ, ◌+◌, ◌%◌, ◌^◌, ◌≤◌, List, [], ◌∷◌, ◌++◌, length, take, drop, is_some, Some, None, Ok, Option, Result, not, Bool, true, false, ◌<◌, sym, refl, ap, ◌∙◌, subst, ap₂, arith, length-append, take-append-drop, length-take-le}
use Rattle.std.specs.Int.{from_bool}
use lib.Seq.{take-append_seam, drop-append_seam, take-append-le, drop-append-le}
use Rattle.checksum.specs.Checksum.{crc_b}
use Rattle.memory.specs.declared.refusal.Refusal.{Refusal}
use Rattle.reply.specs.Frames.{type_b_frame}
use Rattle.reply.specs.Sent.{over, sent}
use Rattle.type_b.specs.Frames.{kind_of}
use Rattle.tag.specs.Model.{Model}
use Rattle.tag.specs.History.{type_b}
use Rattle.tag.specs.Steps.{Step, type_b_reply}
use Rattle.tag.specs.Kinds.{body_to}
use Rattle.tag.proofs.Kinded.{body_by_kind, after_by_kind}
use Rattle.link.specs.declared.delivery.Delivery.TheVariants.{Complete}
use Rattle.link.specs.Carried.{carried}
use Rattle.link.specs.Exchanges.{spoken, came, unheard_after, Laid}
use Rattle.link.proofs.Carrying.{there}
use Rattle.links.specs.Wires.{Carried}

-- the reply to a body, in a buffer of 256 bytes
module _ (before after : List ℕ) (full : length after ≡ 256) where
  sent_some : (x : ℕ) (xs : List ℕ) → sent (x ∷ xs) ≡ Some (length (x ∷ xs))
  sent_some x xs = grind arith

  out_came : (body : List ℕ) (o : Option ℕ) → o ≡ sent (type_b_reply body) → after ≡ over (type_b_reply body) before → came o after ≡ spoken body
  out_came [] o e a = ap (λ k. came k after) e
  out_came (x ∷ xs) o e a =
      let f = type_b_frame (x ∷ xs) in
      let low : length (x ∷ xs) ≤ 254 = omega (arith, ap length a, length-append f (drop (length f) before), length-append (x ∷ xs) (crc_b (x ∷ xs)), full) in
      ap₂ came (e ∙ sent_some x (xs ++ crc_b (x ∷ xs))) a ∙ ap carried (take-append_seam f (drop (length f) before)) ∙ there (x ∷ xs) (omega arith) low

  out_sound : (body : List ℕ) (o : Option ℕ) → o ≡ sent (type_b_reply body) → is_some o ≡ is_some (spoken body)
  out_sound [] o e = ap is_some e
  out_sound (x ∷ xs) o e = ap is_some (e ∙ sent_some x (xs ++ crc_b (x ∷ xs)))

  out_laid : (body : List ℕ) (o : Option ℕ) → o ≡ sent (type_b_reply body) → after ≡ over (type_b_reply body) before → Laid o before after
  out_laid [] o e a = subst (λ k. Laid k before after) (sym e) a
  out_laid (x ∷ xs) o e a =
      let f = type_b_frame (x ∷ xs) in
      subst (λ k. Laid k before after) (sym (e ∙ sent_some x (xs ++ crc_b (x ∷ xs))))
      (omega (arith, ap length a, length-append f (drop (length f) before), full), ap (drop (length f)) a ∙ drop-append_seam f (drop (length f) before))

  handed_ok : (s t : Model) (f : List ℕ) (o : Option ℕ) → Step s (type_b f before (Ok o) after) t → Carried s f Complete o before after t
  handed_ok s t f o step =
      let body = body_to s.power s.memory (kind_of f) in
      let kind = body_by_kind s.power s.memory f in
      let said : o ≡ sent (type_b_reply body) = step.0.1 ∙ ap (λ b. sent (type_b_reply b)) kind in
      let over_it : after ≡ over (type_b_reply body) before = step.0.2 ∙ ap (λ b. over (type_b_reply b) before) kind in
      record {
        tag = step.1 ∙ after_by_kind s f;
        hears = out_came body o said over_it;
        sound = out_sound body o said;
        laid = out_laid body o said over_it;
      }

  -- what was answered is handed over
  pub handed : (s t : Model) (f : List ℕ) (r : Result (Option ℕ) Refusal) (o : Option ℕ) → r ≡ Ok o → Step s (type_b f before r after) t → Carried s f Complete o before after t
  handed s t f r o e step = handed_ok s t f o (subst (λ q. Step s (type_b f before q after) t) e step)

-- of a longer buffer the first 256 bytes were lent
module _ (before after : List ℕ) (full : length after ≡ 256) (long : 256 ≤ length before) where
  came_on_is : (o : Option ℕ) → Laid o (take 256 before) after → came o (after ++ drop 256 before) ≡ came o after
  came_on_is None l = refl
  came_on_is (Some n) l = ap carried (take-append-le n after (drop 256 before) (omega (arith, l.0)))

  laid_on : (o : Option ℕ) → Laid o (take 256 before) after → Laid o before (after ++ drop 256 before)
  laid_on None l = ap (λ a. a ++ drop 256 before) l ∙ take-append-drop 256 before
  laid_on (Some n) l =
      let low : n ≤ length (take 256 before) = omega (arith, l.0, length-take-le 256 before long) in (
        l.0,
        drop-append-le n after (drop 256 before) (omega (arith, l.0)) ∙ ap (λ a. a ++ drop 256 before) l.1
            ∙ sym (drop-append-le n (take 256 before) (drop 256 before) low) ∙ ap (drop n) (take-append-drop 256 before),
      )

  pub lent : (s t : Model) (f : List ℕ) (o : Option ℕ) → Carried s f Complete o (take 256 before) after t → Carried s f Complete o before (after ++ drop 256 before) t
  lent s t f o c = record { tag = c.tag; hears = came_on_is o c.laid ∙ c.hears; sound = c.sound; laid = laid_on o c.laid }

-- the count of unheard exchanges, by whether something came
pub counted : (o : Option ℕ) (r : Option (List ℕ)) (silent : Bool) (n : ℕ) → is_some o ≡ is_some r → is_some o ≡ not silent → n < 2 ^ 64
    → (n + from_bool silent) % 2 ^ 64 ≡ unheard_after r n
counted o None true n same e low = refl
counted o (Some r) false n same e low = omega arith
counted o None false n same e low = cc
counted o (Some r) true n same e low = cc
