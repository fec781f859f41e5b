-- One call performed, from what it tells and what it did. Assumes nothing.
use Rattle.std.proofs.Common.{◌≡◌, ℕ, ◌+◌, ◌<◌, List, [], ◌∷◌, ◌++◌, length, get_or, take, replicate, sym, ap, ◌∙◌, subst, MutBor}
use Rattle.std.proofs.lemmas.List.{take_more}
use denote.Param.Members.{Once}
use Rattle.memory.specs.Memory.{Memory, Shaped}
use Rattle.tag.specs.declared.state.Tag.{Tag}
use Rattle.tag.specs.History.{Event, History}
use Rattle.tag.specs.View.{Called}
use Rattle.tag.specs.Runs.{call}
use Rattle.tag.proofs.Law.{kept_law}
use Rattle.runner.specs.declared.call.Call.{Call}
use Rattle.runner.specs.declared.call.Answer.{Answer}
use Rattle.runner.specs.Lending.{Lent}
use Rattle.runner.specs.Told.{Tells, Told, more, Performed}

module _ {S : Type 0} (blocks : S → Memory) (shaped : (s : S) → Shaped (blocks s)) where
  pub performed : (t u : Tag S) (c k : Call) (a : Answer) (e : Event) → c ≡ k → Tells k a e → Called blocks t e u → Performed blocks t c a u
  performed t u c k a e is tells called = record {
    event = e;
    tells = subst (λ z. Tells z a e) (sym is) tells;
    called = called;
    kept = λ store h r. kept_law blocks store (shaped store) (e ∷ h) u (call r called);
  }

  -- a call that a buffer of zeros was lent to, where what it was is said of the values lent
  pub performed_lent : {F R : Type 0} {g : Once F (MutBor (Tag S) × (MutBor (List ℕ) × Unit {0})) (R × (MutBor (Tag S) × (MutBor (List ℕ) × Unit {0})))} {f : F} {r : R}
      (event : List ℕ → List ℕ → Event) (t u : Tag S) (c k : Call) (a : Answer) (n : ℕ) (after : List ℕ) (l : Lent g f t (replicate n 0) r u after) →
      c ≡ k → Tells k a (event (replicate n 0) after) → Called blocks l.shown.now (event l.buffer.now l.filled.now) l.left.now → Performed blocks t c a u
  performed_lent event t u c k a n after l is tells called =
      performed t u c k a (event (replicate n 0) after) is tells
      (subst (λ x. Called blocks x (event (replicate n 0) after) u) l.shows
      (subst (λ y. Called blocks l.shown.now (event (replicate n 0) after) y) l.leaves
      (subst (λ b. Called blocks l.shown.now (event b after) l.left.now) l.holds
      (subst (λ b. Called blocks l.shown.now (event l.buffer.now b) l.left.now) l.fills called))))

-- one call more, in the list and in the history
pub told_more : (cs : List Call) (i : ℕ) (xs ys : List Answer) (c d : Call) (a : Answer) (h : History) (e : Event) → i < length cs → c ≡ get_or cs i d → ys ≡ xs ++ a ∷ [] →
    Told (take i cs) xs h → Tells c a e → Told (take (i + 1) cs) ys (e ∷ h)
told_more cs i xs ys c d a h e l is push told tells =
    subst (λ z. Told z ys (e ∷ h)) (sym (take_more cs i d l ∙ ap (λ x. take i cs ++ x ∷ []) (sym is))) (subst (λ z. Told (take i cs ++ c ∷ []) z (e ∷ h)) (sym push) (more told tells))
