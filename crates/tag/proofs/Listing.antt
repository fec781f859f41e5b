-- JIS frames and the account: what a WRITE puts, and what a reply tells. Assumes nothing.
use Rattle.std.proofs.Common.{◌≡◌, ℕ, ◌*◌, ◌<◌, true, false, cond, eqb, List, [], ◌∷◌, ◌++◌, length, take, drop, Some, None, Ok, Err, Option, Result, sym, refl, ap, ◌∙◌, ap₂, arith, length-drop, length-take-le}
use lib.Seq.{take-append_seam}
use Rattle.std.proofs.lemmas.Bool.{ne_eqb, both_ways}
use Rattle.reply.specs.Frames.{type_b_frame}
use Rattle.tag.specs.Steps.{type_b_reply}
use Rattle.memory.specs.Memory.{Memory, Shaped, with_block}
use Rattle.memory.proofs.Shapes.{shaped_set}
use Rattle.reply.specs.Sent.{over, sent}
use Rattle.jis.specs.declared.fault.Fault.{Fault}
use Rattle.jis.specs.Elements.{numbers}
use Rattle.jis.specs.Commands.{Asked, req, read, write}
use Rattle.jis_service.specs.Service.{written_in}
use Rattle.jis_service.proofs.Taken.{Users}
use Rattle.tag.specs.History.{heard}
use Rattle.tag.specs.Puts.{Put, in_block, in_blocks, puts}
use Rattle.tag.specs.Account.{normal, wrote_listed}
use Rattle.tag.proofs.Placing.{put_block}

puts_append : (m : Memory) (xs ys : List Put) → puts m (xs ++ ys) ≡ puts (puts m xs) ys
puts_append m [] ys = refl
puts_append m (p ∷ xs) ys = puts_append _ xs ys

-- listed blocks written are their bytes put
pub put_blocks : (m : Memory) (ns d : List ℕ) → Shaped m → Users ns → length d ≡ 16 * length ns → written_in m ns d ≡ puts m (in_blocks ns d)
put_blocks m [] d s u e = refl
put_blocks m (b ∷ ns) d s u e =
    let lt : length (take 16 d) ≡ 16 = length-take-le 16 d (omega arith) in
    let b32 : b < 32 = omega (arith, u.0) in
    let rest : length (drop 16 d) ≡ 16 * length ns = simp length-drop (omega arith) in
    put_blocks (with_block m b (take 16 d)) ns (drop 16 d) (shaped_set m b (take 16 d) lt s) u.1 rest
    ∙ ap (λ z. puts z (in_blocks ns (drop 16 d))) (sym (put_block m b (take 16 d) s b32 lt))
    ∙ sym (puts_append m (in_block b 0 (take 16 d)) (in_blocks ns (drop 16 d)))

-- the reply that was sent is the one that is heard
pub heard_is : (reply before after : List ℕ) (n : Option ℕ) → n ≡ sent reply → after ≡ over reply before → heard (Ok n) after ≡ reply
heard_is [] before after n e a = ap (λ k. heard (Ok k) after) e
heard_is (x ∷ xs) before after n e a =
    let some : sent (x ∷ xs) ≡ Some (length (x ∷ xs)) = ap (λ t. cond t None (Some (length (x ∷ xs)))) (ne_eqb (length (x ∷ xs)) 0 (λ q. omega arith)) in
    ap₂ (λ k y. heard (Ok k) y) (e ∙ some) a ∙ take-append_seam (x ∷ xs) (drop (length (x ∷ xs)) before)

-- what is not empty is sealed
pub sealed : (xs out : List ℕ) → eqb (length xs) 0 ≡ false → out ≡ type_b_frame xs → out ≡ type_b_reply xs
sealed [] out h e = absurd (both_ways true h refl)
sealed (x ∷ xs) out h e = e

-- a reply that is not normal tells of no write
pub wrote_nothing : (r : Result Asked Fault) (reply : List ℕ) → normal reply ≡ false → wrote_listed r reply ≡ []
wrote_nothing (Ok (req code request slot)) reply h = refl
wrote_nothing (Ok (read services n list)) reply h = refl
wrote_nothing (Ok (write services n list d)) reply h = ap (λ t. cond t (in_blocks (numbers n list) d) []) h
wrote_nothing (Err e) reply h = refl
