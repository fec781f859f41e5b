-- Frames of commands taken apart again. Assumes nothing.
use Rattle.std.proofs.Common.{◌≡◌, ℕ, ◌*◌, ◌<◌, ◌≤◌, true, false, ltb, leb, List, [], ◌∷◌, ◌++◌, length, get_or, take, drop, Ok, Err, Result, sym, refl, ap, ◌∙◌, ap₂, inl, inr, arith, length-append}
use Rattle.std.specs.Str.{bytes_eq}
use Rattle.std.proofs.lemmas.Slice.Eq.{bytes_eq-Decides}
use Rattle.std.proofs.lemmas.List.{append_assoc, append-nil, drop-drop, drop_at, get_or_at, take_at}
use Rattle.std.proofs.lemmas.Bool.{both_ways, cases_Bool, cases_lt, cond-false, cond-true, le-leb, lt-leb, lt-ltb}
use Rattle.jis.specs.declared.fault.Access.{Access}
use Rattle.jis.specs.declared.fault.Access.TheVariants as access
use Rattle.jis.specs.declared.fault.Fault.{Fault}
use Rattle.jis.specs.declared.fault.Fault.TheVariants.{Shape, ForeignIdentifier, ServiceCount, Truncated, ServicesDiffer, BlockCount}
use Rattle.jis.specs.Commands as taken
use Rattle.jis.specs.Commands.{Asked, demand, up_to, most_services, most_blocks, data_width, alike, blocks_of, lists_of, by_code, command_of}
use Rattle.jis.specs.Elements.{sound}
use Rattle.jis.proofs.Rules.{passed, up_to_is, blocks_passed}
use Rattle.jis_laws.specs.Sent.{Element, list_bytes, EachFits, Within, services, Command, req, read, write, read_frame, write_frame, frame_of, lists, InRange, For, asked}
use Rattle.jis_laws.proofs.Opening.{same_self, through}
use Rattle.jis_laws.proofs.Elements.{services_length, services_alike, width_is, sound_is, services_same, elements_same}

-- the rules on services, over the number k of them, what follows it, and the two parts of that
abbrev ruled : Access → ℕ → ℕ → List ℕ → List ℕ → Result Asked Fault
ruled a k n front back =
    demand (up_to (most_services a) k) (ServiceCount a)
    (demand (ltb (2 * k) n) Truncated
    (demand (alike front) (ServicesDiffer a)
    (demand (up_to (most_blocks a k) (get_or back 0 0)) (BlockCount a)
    (blocks_of a front (get_or back 0 0) (drop 1 back)))))

services_passed : (a : Access) (k m : ℕ) (ss body : List ℕ) → length ss ≡ 2 * k → alike ss ≡ true → 1 ≤ k → k ≤ most_services a → 1 ≤ m → m ≤ most_blocks a k
    → ruled a k (length (ss ++ m ∷ body)) (take (2 * k) (ss ++ m ∷ body)) (drop (2 * k) (ss ++ m ∷ body)) ≡ blocks_of a ss m body
services_passed a k m ss body long same k1 k2 m1 m2 =
    let n = length-append ss (m ∷ body) in
    ap₂ (ruled a k (length (ss ++ m ∷ body))) (take_at ss (m ∷ body) (2 * k) long) (drop_at ss (m ∷ body) (2 * k) long)
    ∙ passed _ (ServiceCount a) _ (up_to_is (most_services a) k k1 k2)
    ∙ passed _ Truncated _ (lt-ltb _ _ (omega arith))
    ∙ passed _ (ServicesDiffer a) _ same
    ∙ passed _ (BlockCount a) _ (up_to_is (most_blocks a k) m m1 m2)

-- the elements and the data behind their number
elements_passed : (a : Access) (ss : List ℕ) (es : List Element) (d : List ℕ) → EachFits es → length d ≡ data_width a (length es)
    → blocks_of a ss (length es) (list_bytes es ++ d) ≡ Ok (taken.asked a ss (length es) (list_bytes es) d)
elements_passed a ss es d fit ends =
    let xs = list_bytes es in
    let all = length-append xs d in
    let front : take (length xs) (xs ++ d) ≡ xs = take_at xs d (length xs) refl in
    let back : drop (length xs) (xs ++ d) ≡ d = drop_at xs d (length xs) refl in
    blocks_passed a ss (length es) (xs ++ d) (length xs) (length d) (sym (width_is es d fit)) ends (omega (arith, all)) (ap (sound (length es)) front ∙ sound_is es fit)
    ∙ ap₂ (λ s t. Ok (taken.asked a ss (length es) s t)) front back

-- a READ or a WRITE, over its length, the identifier, the number k of services, and what follows it
abbrev headed : List ℕ → Access → ℕ → List ℕ → ℕ → List ℕ → Result Asked Fault
headed own a n idm k behind =
    demand (leb 10 n) Shape
    (demand (bytes_eq idm own) ForeignIdentifier
    (ruled a k (length behind) (take (2 * k) behind) (drop (2 * k) behind)))

module _ (own idm : List ℕ) (a : Access) (code k : ℕ) (behind : List ℕ) (long : length idm ≡ 8) where
  lists_headed : lists_of own a (code ∷ (idm ++ (k ∷ behind))) ≡ headed own a (length (code ∷ (idm ++ (k ∷ behind)))) idm k behind
  lists_headed =
      let p = code ∷ (idm ++ (k ∷ behind)) in
      let last : drop 9 (idm ++ (k ∷ behind)) ≡ behind = sym (drop-drop 1 8 (idm ++ (k ∷ behind))) ∙ ap (drop 1) (drop_at idm (k ∷ behind) 8 long) in
      ap (λ i. headed own a (length p) i (get_or p 9 0) (drop 10 p)) (take_at idm (k ∷ behind) 8 long)
      ∙ ap₂ (λ n t. headed own a (length p) idm n t) (get_or_at idm k behind 0 8 long) last

  ten : leb 10 (length (code ∷ (idm ++ (k ∷ behind)))) ≡ true
  ten = let n = length-append idm (k ∷ behind) in le-leb _ _ (omega arith)

  pub foreign : (idm ≡ own → ⊥) → lists_of own a (code ∷ (idm ++ (k ∷ behind))) ≡ Err ForeignIdentifier
  foreign other = lists_headed ∙ passed _ Shape _ ten ∙ ap (λ t. demand t ForeignIdentifier (ruled a k (length behind) (take (2 * k) behind) (drop (2 * k) behind))) differs
    where
      differs : bytes_eq idm own ≡ false
      differs = elim (cases_Bool (bytes_eq idm own)) [ inl e ↦ absurd (other ((bytes_eq-Decides idm own).0 e)) | inr e ↦ e ]

-- a READ or a WRITE for the tag itself
mine : (idm : List ℕ) (a : Access) (code k : ℕ) (behind : List ℕ) → length idm ≡ 8
    → lists_of idm a (code ∷ (idm ++ (k ∷ behind))) ≡ ruled a k (length behind) (take (2 * k) behind) (drop (2 * k) behind)
mine idm a code k behind long = lists_headed idm idm a code k behind long ∙ passed _ Shape _ (ten idm idm a code k behind long) ∙ passed _ ForeignIdentifier _ (same_self idm)

listed : (idm : List ℕ) (a : Access) (code k x y : ℕ) (es : List Element) (d : List ℕ) → Within (most_services a) (most_blocks a k) idm k es → length d ≡ data_width a (length es)
    → lists_of idm a (code ∷ (idm ++ (k ∷ (services k x y ++ (length es ∷ (list_bytes es ++ d)))))) ≡ Ok (taken.asked a (services k x y) (length es) (list_bytes es) d)
listed idm a code k x y es d w ends =
    mine idm a code k _ w.eight
    ∙ services_passed a k (length es) (services k x y) (list_bytes es ++ d) (services_length k x y) (services_alike k x y w.service) w.service w.services_few w.block w.blocks_few
    ∙ elements_passed a (services k x y) es d w.each ends

-- the data stand behind all the rest
behind_lists : (idm : List ℕ) (k x y : ℕ) (es : List Element) (d : List ℕ) → lists idm k x y es ++ d ≡ idm ++ (k ∷ (services k x y ++ (length es ∷ (list_bytes es ++ d))))
behind_lists idm k x y es d =
    append_assoc idm (k ∷ (services k x y ++ (length es ∷ list_bytes es))) d
    ∙ ap (λ t. idm ++ (k ∷ t)) (append_assoc (services k x y) (length es ∷ list_bytes es) d)

few_blocks : (k m : ℕ) → m ≤ 12 → (8 < k → m ≤ 11) → m ≤ most_blocks access.Write k
few_blocks k m h g = elim (cases_lt 8 k) [
  | inl l ↦ let e : most_blocks access.Write k ≡ 11 = cond-false _ _ _ (lt-leb k 8 l) in omega (arith, g l, e)
  | inr l ↦ let e : most_blocks access.Write k ≡ 12 = cond-true _ _ _ (le-leb k 8 l) in omega (arith, e)
]

-- the tag that a command is for, at least
addressee : Command → List ℕ
addressee (req a b request slot) = []
addressee (read idm k x y es) = idm
addressee (write idm k x y es d) = idm

found : (c : Command) → InRange c → command_of (addressee c) (frame_of c) ≡ Ok (asked c)
unfolding addressee
found (req a b request slot) h = through (by_code []) (0x00 ∷ a ∷ b ∷ request ∷ slot ∷ []) (omega arith)
found (read idm k x y es) h =
    through (by_code idm) (0x06 ∷ lists idm k x y es) (omega arith)
    ∙ ap (λ t. lists_of idm access.Read (0x06 ∷ (idm ++ (k ∷ (services k x y ++ (length es ∷ t)))))) (sym (append-nil (list_bytes es)))
    ∙ listed idm access.Read 0x06 k x y es [] h refl
found (write idm k x y es d) h =
    let w = h.0 in
    let range : Within 11 (most_blocks access.Write k) idm k es =
    record {
      eight = w.eight;
      service = w.service;
      services_few = w.services_few;
      block = w.block;
      blocks_few = few_blocks k (length es) w.blocks_few h.1;
      each = w.each;
    } in
    through (by_code idm) (0x08 ∷ (lists idm k x y es ++ d)) (omega arith)
    ∙ ap (λ t. lists_of idm access.Write (0x08 ∷ t)) (behind_lists idm k x y es d)
    ∙ listed idm access.Write 0x08 k x y es d range h.2

pub returned : (own : List ℕ) (c : Command) → InRange c → For own c → command_of own (frame_of c) ≡ Ok (asked c)
unfolding addressee
returned own (req a b request slot) h m = through (by_code own) (0x00 ∷ a ∷ b ∷ request ∷ slot ∷ []) (omega arith)
returned own (read idm k x y es) h m = ap (λ o. command_of o (read_frame idm k x y es)) (sym m) ∙ found (read idm k x y es) h
returned own (write idm k x y es d) h m = ap (λ o. command_of o (write_frame idm k x y es d)) (sym m) ∙ found (write idm k x y es d) h

pub silent : (own : List ℕ) (c : Command) → InRange c → (For own c → ⊥) → command_of own (frame_of c) ≡ Err ForeignIdentifier
silent own (req a b request slot) h other = absurd (other tt)
silent own (read idm k x y es) h other =
    through (by_code own) (0x06 ∷ lists idm k x y es) (omega arith)
    ∙ foreign own idm access.Read 0x06 k (services k x y ++ (length es ∷ list_bytes es)) h.eight other
silent own (write idm k x y es d) h other =
    through (by_code own) (0x08 ∷ (lists idm k x y es ++ d)) (omega arith)
    ∙ ap (λ t. lists_of own access.Write (0x08 ∷ t)) (behind_lists idm k x y es d)
    ∙ foreign own idm access.Write 0x08 k (services k x y ++ (length es ∷ (list_bytes es ++ d))) h.0.eight other

-- the parts that a tag finds, and that a command is for it, tell the command
asked_same : (c d : Command) → InRange c → InRange d → asked c ≡ asked d → For (addressee c) d → c ≡ d
unfolding addressee
asked_same (req a b r s) (req x y t u) h g e i = cc
asked_same (req a b r s) (read j k x y es) h g e i = let z : ◌≡◌ {A = ℕ} 0 1 = cc in absurd (omega arith)
asked_same (req a b r s) (write j k x y es d) h g e i = let z : ◌≡◌ {A = ℕ} 0 1 = cc in absurd (omega arith)
asked_same (read i k x y es) (req a b r s) h g e o = let z : ◌≡◌ {A = ℕ} 0 1 = cc in absurd (omega arith)
asked_same (read i k x y es) (read j l v w fs) h g e o =
    let s : services k x y ≡ services l v w = cc in
    let t : list_bytes es ≡ list_bytes fs = cc in
    let one = services_same k x y l v w h.service s in
    let two : es ≡ fs = elements_same es fs h.each g.each t in
    cc (one.0, one.1, one.2)
asked_same (read i k x y es) (write j l v w fs d) h g e o = let z : ◌≡◌ {A = ℕ} 0 1 = cc in absurd (omega arith)
asked_same (write i k x y es d) (req a b r s) h g e o = let z : ◌≡◌ {A = ℕ} 0 1 = cc in absurd (omega arith)
asked_same (write i k x y es d) (read j l v w fs) h g e o = let z : ◌≡◌ {A = ℕ} 0 1 = cc in absurd (omega arith)
asked_same (write i k x y es d) (write j l v w fs f) h g e o =
    let s : services k x y ≡ services l v w = cc in
    let t : list_bytes es ≡ list_bytes fs = cc in
    let u : d ≡ f = cc in
    let one = services_same k x y l v w h.0.service s in
    let two : es ≡ fs = elements_same es fs h.0.each g.0.each t in
    cc (one.0, one.1, one.2)

-- identifiers that are not different are the same
same_id : (idm own : List ℕ) → ((idm ≡ own → ⊥) → ⊥) → idm ≡ own
same_id idm own f = elim (cases_Bool (bytes_eq idm own)) [
  | inl t ↦ (bytes_eq-Decides idm own).0 t
  | inr t ↦ absurd (f (λ e. both_ways (bytes_eq idm own) t ((bytes_eq-Decides idm own).1 e)))
]

-- a command that a tag takes is for it
for_it : (own : List ℕ) (c : Command) (x : Asked) → InRange c → command_of own (frame_of c) ≡ Ok x → For own c
for_it own (req a b r s) x h e = tt
for_it own (read idm k v w es) x h e = same_id idm own (λ o. let n = silent own (read idm k v w es) h o in let z : ◌≡◌ {A = ℕ} 0 1 = cc (n, e) in omega arith)
for_it own (write idm k v w es d) x h e = same_id idm own (λ o. let n = silent own (write idm k v w es d) h o in let z : ◌≡◌ {A = ℕ} 0 1 = cc (n, e) in omega arith)

pub differ : (c d : Command) → InRange c → InRange d → frame_of c ≡ frame_of d → c ≡ d
differ c d h g e =
    let own = addressee c in
    let one = ap (command_of own) (sym e) ∙ found c h in
    let mine = for_it own d (asked c) g one in
    let two = returned own d g mine in
    let same : asked c ≡ asked d = cc (one, two) in
    asked_same c d h g same mine
