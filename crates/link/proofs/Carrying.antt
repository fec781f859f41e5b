-- A body with its checksum is carried, and nothing else is. Assumes nothing.
use Rattle.std.proofs.Common.{◌≡◌, ℕ, ◌-◌, ◌≤◌, Bool, true, false, cond, ◌&&◌, leb, List, [], ◌∷◌, ◌++◌, length, take, drop, Some, None, sym, refl, ap, ◌∙◌, arith, length-append}
use Rattle.std.specs.Str.{bytes_eq}
use Rattle.std.proofs.lemmas.Slice.Eq.{bytes_eq-Decides}
use Rattle.std.proofs.lemmas.List.{take_at, take-append-drop}
use Rattle.std.proofs.lemmas.Bool.{and_parts, cond-true}
use Rattle.checksum.specs.Checksum.{crc_b}
use Rattle.reply.specs.Frames.{type_b_frame}
use Rattle.type_b.specs.Frames.{intact}
use Rattle.type_b.proofs.Codec.{body_intact}
use Rattle.link.specs.Carried.{carried}

pub there : (b : List ℕ) → 1 ≤ length b → length b ≤ 254 → carried (type_b_frame b) ≡ Some b
unfolding carried
there [] low most = absurd (omega arith)
there (x ∷ p) low most =
    let f = type_b_frame (x ∷ p) in
    let two : length (crc_b (x ∷ p)) ≡ 2 = refl in
    let n : length (x ∷ p) ≡ length f - 2 = omega (arith, length-append (x ∷ p) (crc_b (x ∷ p)), two) in
    cond-true (intact f) (Some (take (length f - 2) f)) None (body_intact x p (omega arith)) ∙ ap Some (take_at (x ∷ p) (crc_b (x ∷ p)) (length f - 2) n)

split : (t : Bool) (f b : List ℕ) → intact f ≡ t → cond t (Some (take (length f - 2) f)) None ≡ Some b → f ≡ type_b_frame b
split false f b t e = cc
split true f b t e =
    let body = take (length f - 2) f in
    let is : body ≡ b = cc in
    let same = (and_parts (leb 3 (length f) && leb (length f) 256) (bytes_eq (drop (length f - 2) f) (crc_b body)) t).1 in
    let sum : drop (length f - 2) f ≡ crc_b body = (bytes_eq-Decides (drop (length f - 2) f) (crc_b body)).0 same in
    sym (take-append-drop (length f - 2) f) ∙ ap (λ s. body ++ s) sum ∙ ap type_b_frame is

pub back : (f b : List ℕ) → carried f ≡ Some b → f ≡ type_b_frame b
unfolding carried
back f b e = split (intact f) f b refl e
