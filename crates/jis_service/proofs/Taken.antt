-- What is known of a command once its frame was taken apart. Assumes nothing.
use Rattle.std.proofs.Common.{◌≡◌, ℕ, zero, suc, ◌+◌, ◌-◌, ◌*◌, ◌<◌, ◌≤◌, Bool, true, false, cond, ◌&&◌, eqb, ltb, leb, ◌⊎◌, List, [], ◌∷◌, length, get_or, take, drop, Ok, Err, Result, sym, refl, ap, ◌∙◌, subst, ap₂, inl, inr, arith, length-drop, length-take, take-take, drop-drop}
use Rattle.std.proofs.lemmas.Slice.Eq.{bytes_eq-Decides}
use Rattle.std.proofs.lemmas.List.{drop-take}
use Rattle.std.proofs.lemmas.Bool.{eqb-true, leb-true, and_parts}
use Rattle.std.specs.Str.{bytes_eq}
use Rattle.checksum.specs.Checksum.{jis_checksum}
use Rattle.jis.specs.declared.fault.Access.{Access}
use Rattle.jis.specs.declared.fault.Access.TheVariants as access
use Rattle.jis.specs.declared.fault.Fault.{Fault}
use Rattle.jis.specs.declared.fault.Fault.TheVariants.{Length, Checksum, Code, Shape, ForeignIdentifier, ServiceCount, Truncated, ServicesDiffer, BlockCount, ListEnd, BadElement}
use Rattle.jis.specs.Elements.{width, sound, numbers, rest, lawful}
use Rattle.jis.specs.Commands.{Asked, req, read, write, demand, on, up_to, most_services, most_blocks, data_width, alike, asked, blocks_of, services_of, lists_of, req_of, by_code, opened, command_of}

-- a rule that was passed
passed : {X : Type 0} (b : Bool) (e : Fault) (r : Result X Fault) (x : X) → demand b e r ≡ Ok x → (b ≡ true) × (r ≡ Ok x)
passed true e r x h = (refl, h)
passed false e r x h = let z : ◌≡◌ {A = ℕ} 0 1 = cc in absurd (omega arith)

handed_on : (r : Result (List ℕ) Fault) (k : List ℕ → Result Asked Fault) (x : Asked) → on r k ≡ Ok x → (p : List ℕ) × (r ≡ Ok p) × (k p ≡ Ok x)
handed_on (Ok p) k x h = (p, refl, h)
handed_on (Err e) k x h = let z : ◌≡◌ {A = ℕ} 0 1 = cc in absurd (omega arith)

chosen : (b : Bool) (r s : Result Asked Fault) (x : Asked) → cond b r s ≡ Ok x → ((b ≡ true) × (r ≡ Ok x)) ⊎ ((b ≡ false) × (s ≡ Ok x))
chosen true r s x h = inl (refl, h)
chosen false r s x h = inr (refl, h)

same_ok : {X : Type 0} (x y : X) → ◌≡◌ {A = Result X Fault} (Ok x) (Ok y) → x ≡ y
same_ok x y e = cc

-- the payload of a frame
opened_is : (f p : List ℕ) → opened f ≡ Ok p → p ≡ take (get_or f 0 0 - 1) (drop 1 f)
opened_is f p h =
    let a = passed (leb 2 (get_or f 0 0) && eqb (length f) (get_or f 0 0 + 2)) Length _ p h in
    let b = passed (bytes_eq (drop (get_or f 0 0) f) (jis_checksum (take (get_or f 0 0) f))) Checksum _ p a.1 in
    sym (same_ok (take (get_or f 0 0 - 1) (drop 1 f)) p b.1)

-- the identifier stands at the same place of the frame
identifier_at : (f p : List ℕ) (n : ℕ) → p ≡ take n (drop 1 f) → 10 ≤ length p → take 8 (drop 1 p) ≡ take 8 (drop 2 f)
identifier_at f p n e h =
    let l : length p ≤ n = omega (arith, ap length e ∙ length-take n (drop 1 f)) in
    let s : 1 + (n - 1) ≡ n = omega arith in
    let k : 8 ≤ n - 1 = omega arith in
    ap (λ z. take 8 (drop 1 z)) (e ∙ ap (λ (j : ℕ). take j (drop 1 f)) (sym s)) ∙ ap (take 8) (drop-take 1 (n - 1) (drop 1 f)) ∙ take-take 8 (n - 1) (drop 1 (drop 1 f)) k
    ∙ ap (take 8) (drop-drop 1 1 f)

-- lists of a command for this tag are a command for the identifier in it
own_lists : (id : List ℕ) (a : Access) (p : List ℕ) (x : Asked) → lists_of id a p ≡ Ok x → (lists_of (take 8 (drop 1 p)) a p ≡ Ok x) × (10 ≤ length p) × (services_of a p ≡ Ok x)
own_lists id a p x h =
    let one = passed (leb 10 (length p)) Shape _ x h in
    let two = passed (bytes_eq (take 8 (drop 1 p)) id) ForeignIdentifier _ x one.1 in
    let y = take 8 (drop 1 p) in
    let self : bytes_eq y y ≡ true = (bytes_eq-Decides y y).1 refl in
    (ap₂ (λ s t. demand s Shape (demand t ForeignIdentifier (services_of a p))) one.0 self ∙ two.1, leb-true 10 (length p) one.0, two.1)

-- the ways in which a payload is a command
pub data Way (id p : List ℕ) (x : Asked) : Type 0 where
  polls : eqb (get_or p 0 0) 0x00 ≡ true → req_of p ≡ Ok x → Way id p x
  reads : eqb (get_or p 0 0) 0x00 ≡ false → eqb (get_or p 0 0) 0x06 ≡ true → lists_of id access.Read p ≡ Ok x → Way id p x
  writes : eqb (get_or p 0 0) 0x00 ≡ false → eqb (get_or p 0 0) 0x06 ≡ false → eqb (get_or p 0 0) 0x08 ≡ true → lists_of id access.Write p ≡ Ok x → Way id p x

way : (id p : List ℕ) (x : Asked) → by_code id p ≡ Ok x → Way id p x
way id p x h = elim (chosen (eqb (get_or p 0 0) 0x00) (req_of p) _ x h) [
  | inl a ↦ polls a.0 a.1
  | inr a ↦ elim (chosen (eqb (get_or p 0 0) 0x06) (lists_of id access.Read p) _ x a.1) [
    | inl b ↦ reads a.0 b.0 b.1
    | inr b ↦ elim (chosen (eqb (get_or p 0 0) 0x08) (lists_of id access.Write p) _ x b.1) [
      | inl c ↦ writes a.0 b.0 c.0 c.1
      | inr c ↦ let z : ◌≡◌ {A = ℕ} 0 1 = never x c.1 in absurd (omega arith)
    ]
  ]
]
  where
    never : (x : Asked) → ◌≡◌ {A = Result Asked Fault} (Err Code) (Ok x) → ◌≡◌ {A = ℕ} 0 1
    never x e = cc

by_code_is : (id p : List ℕ) (r s t : Bool) (x : Asked) → eqb (get_or p 0 0) 0x00 ≡ r → eqb (get_or p 0 0) 0x06 ≡ s → eqb (get_or p 0 0) 0x08 ≡ t →
    by_code id p ≡ cond r (req_of p) (cond s (lists_of id access.Read p) (cond t (lists_of id access.Write p) (Err Code)))
by_code_is id p r s t x er es et = ap₂ (λ u v. cond u (req_of p) (cond v (lists_of id access.Read p) (cond (eqb (get_or p 0 0) 0x08) (lists_of id access.Write p) (Err Code)))) er es
    ∙ ap (λ u. cond r (req_of p) (cond s (lists_of id access.Read p) (cond u (lists_of id access.Write p) (Err Code)))) et

own_code : (id p : List ℕ) (x : Asked) → Way id p x → (other : List ℕ) → (10 ≤ length p → other ≡ take 8 (drop 1 p)) → by_code other p ≡ Ok x
own_code id p x (polls a h) other e = by_code_is other p true _ _ x a refl refl ∙ h
own_code id p x (reads a b h) other e =
    let o = own_lists id access.Read p x h in
    by_code_is other p false true _ x a b refl ∙ ap (λ z. lists_of z access.Read p) (e o.1) ∙ o.0
own_code id p x (writes a b c h) other e =
    let o = own_lists id access.Write p x h in
    by_code_is other p false false true x a b c ∙ ap (λ z. lists_of z access.Write p) (e o.1) ∙ o.0

-- a command that a tag takes is a command for the identifier in its frame
pub own_command : (id f : List ℕ) (x : Asked) → command_of id f ≡ Ok x → command_of (take 8 (drop 2 f)) f ≡ Ok x
own_command id f x h =
    let t = handed_on (opened f) (by_code id) x h in
    let p = t.0 in
    let same : 10 ≤ length p → take 8 (drop 2 f) ≡ take 8 (drop 1 p) = λ l. sym (identifier_at f p (get_or f 0 0 - 1) (opened_is f p t.1) l) in
    ap (λ r. on r (by_code (take 8 (drop 2 f)))) t.1 ∙ own_code id p x (way id p x t.2) (take 8 (drop 2 f)) same

-- what holds of the parts of a command
abbrev pub Lawful : Asked → Type 0
Lawful (req code request slot) = Unit {0}
Lawful (read services n list) = sound n list ≡ true
Lawful (write services n list d) = (sound n list ≡ true) × (length d ≡ 16 * n)

in_blocks : (a : Access) (services : List ℕ) (m : ℕ) (body : List ℕ) (x : Asked) → blocks_of a services m body ≡ Ok x → Lawful x
in_blocks a services m body x h =
    let w = width m body in
    let one = passed (eqb (w + data_width a m) (length body)) ListEnd _ x h in
    let two = passed (sound m (take w body)) (BadElement a) _ x one.1 in
    subst Lawful (same_ok (asked a services m (take w body) (drop w body)) x two.1) (facts a two.0 (eqb-true (w + data_width a m) (length body) one.0))
  where
    facts : (a : Access) → sound m (take (width m body) body) ≡ true → width m body + data_width a m ≡ length body →
        Lawful (asked a services m (take (width m body) body) (drop (width m body) body))
    facts access.Read s e = s
    facts access.Write s e = (s, simp length-drop (omega arith))

in_services : (a : Access) (p : List ℕ) (x : Asked) → services_of a p ≡ Ok x → Lawful x
in_services a p x h =
    let k = get_or p 9 0 in
    let lists = drop 10 p in
    let one = passed (up_to (most_services a) k) (ServiceCount a) _ x h in
    let two = passed (ltb (2 * k) (length lists)) Truncated _ x one.1 in
    let three = passed (alike (take (2 * k) lists)) (ServicesDiffer a) _ x two.1 in
    let four = passed (up_to (most_blocks a k) (get_or (drop (2 * k) lists) 0 0)) (BlockCount a) _ x three.1 in
    in_blocks a (take (2 * k) lists) (get_or (drop (2 * k) lists) 0 0) (drop 1 (drop (2 * k) lists)) x four.1

in_way : (id p : List ℕ) (x : Asked) → Way id p x → Lawful x
in_way id p x (polls a h) = subst Lawful (same_ok _ x (passed (eqb (length p) 5) Shape _ x h).1) tt
in_way id p x (reads a b h) = in_services access.Read p x (own_lists id access.Read p x h).2
in_way id p x (writes a b c h) = in_services access.Write p x (own_lists id access.Write p x h).2

pub lawful_command : (id f : List ℕ) (x : Asked) → command_of id f ≡ Ok x → Lawful x
lawful_command id f x h = let t = handed_on (opened f) (by_code id) x h in in_way id t.0 x (way id t.0 x t.2)

-- listed blocks are user blocks
abbrev pub Users : List ℕ → Type 0
Users [] = Unit {0}
Users (b ∷ bs) = (b < 27) × Users bs

pub users : (n : ℕ) (list : List ℕ) → sound n list ≡ true → Users (numbers n list)
users zero list s = tt
users (suc n) list s =
    let h = and_parts (lawful (get_or list 0 0) (get_or list 1 0) (get_or list 2 0)) (sound n (rest list)) s in
    let l = and_parts _ (leb (get_or list 1 0) 26) h.0 in
    (omega (arith, leb-true (get_or list 1 0) 26 l.1), users n (rest list) h.1)
