-- Frames of replies taken apart again. Assumes nothing.
use Rattle.std.proofs.Common.{◌≡◌, ℕ, ◌+◌, List, [], ◌∷◌, ◌++◌, length, get_or, take, drop, Ok, sym, refl, ap, ◌∙◌, ap₂, arith}
use Rattle.std.specs.List.{flat_map}
use Rattle.std.proofs.lemmas.List.{append_assoc, drop-drop, drop_at, get_or-drop, take_at}
use Rattle.memory.specs.Memory.{cut}
use Rattle.reply.specs.Frames.{jis_frame}
use Rattle.jis.specs.declared.fault.Access.{Access}
use Rattle.jis.specs.declared.fault.Access.TheVariants.{Read, Write}
use Rattle.jis.specs.declared.fault.Status.{Status}
use Rattle.jis.specs.declared.fault.Status.TheVariants.{Normal, ServiceCount, ServicesDiffer, BlockCount, BadElement, Protected}
use Rattle.jis.specs.Answers.{extra_of, flags_payload, read_payload, req_payload}
use Rattle.jis.specs.Faults.{answer_code, flags_of}
use Rattle.jis_laws.specs.Replied.{polled, done, status_of, listed, answer_of, reply_of, Sixteens}
use Rattle.jis_laws.proofs.Opening.{through}

-- what stands at a place behind the code and the identifier
module _ (code : ℕ) (idm rest : List ℕ) (long : length idm ≡ 8) where
  front : take 8 (drop 1 (code ∷ (idm ++ rest))) ≡ idm
  front = take_at idm rest 8 long

  behind : (n : ℕ) → drop (8 + n) (idm ++ rest) ≡ drop n rest
  behind n = sym (drop-drop n 8 (idm ++ rest)) ∙ ap (drop n) (drop_at idm rest 8 long)

  byte : (n : ℕ) → get_or (idm ++ rest) (8 + n) 0 ≡ get_or rest n 0
  byte n = sym (get_or-drop 8 (idm ++ rest) n 0) ∙ ap (λ t. get_or t n 0) (drop_at idm rest 8 long)

status_back : (s : Status) → status_of (get_or (flags_of s) 1 0) ≡ s
status_back Normal = refl
status_back ServiceCount = refl
status_back ServicesDiffer = refl
status_back BlockCount = refl
status_back BadElement = refl
status_back Protected = refl

cut_joined : (bs : List (List ℕ)) → Sixteens bs → cut (length bs) (flat_map (λ b. b) bs) ≡ bs
cut_joined [] h = refl
cut_joined (b ∷ bs) h =
    ap₂ (λ x t. x ∷ cut (length bs) t) (take_at b (flat_map (λ x. x) bs) 16 h.0) (drop_at b (flat_map (λ x. x) bs) 16 h.0) ∙ ap (λ t. b ∷ t) (cut_joined bs h.1)

listed_back : (a : Access) (idm rest : List ℕ) (code : ℕ) → length idm ≡ 8
    → listed a (code ∷ (idm ++ rest)) ≡ done a idm (status_of (get_or rest 1 0)) (cut (get_or rest 2 0) (drop 3 rest))
listed_back a idm rest code long =
    ap₂ (λ i s. done a i (status_of s) (cut (get_or (idm ++ rest) 10 0) (drop 11 (idm ++ rest)))) (front code idm rest long) (byte code idm rest long 1)
    ∙ ap₂ (λ n t. done a idm (status_of (get_or rest 1 0)) (cut n t)) (byte code idm rest long 2) (behind code idm rest long 3)

flags_none : (s : Status) → cut (get_or (flags_of s) 2 0) (drop 3 (flags_of s)) ≡ []
flags_none Normal = refl
flags_none ServiceCount = refl
flags_none ServicesDiffer = refl
flags_none BlockCount = refl
flags_none BadElement = refl
flags_none Protected = refl

by_code_is : (a : Access) (rest : List ℕ) → answer_of (answer_code a ∷ rest) ≡ Ok (listed a (answer_code a ∷ rest))
by_code_is Read rest = refl
by_code_is Write rest = refl

pub flags_back : (a : Access) (idm : List ℕ) (s : Status) → length idm ≡ 8 → reply_of (jis_frame (flags_payload (answer_code a) idm s)) ≡ Ok (done a idm s [])
flags_back a idm s long =
    through answer_of (flags_payload (answer_code a) idm s) (omega arith)
    ∙ by_code_is a (idm ++ flags_of s)
    ∙ ap (λ r. Ok r) (listed_back a idm (flags_of s) (answer_code a) long ∙ ap₂ (λ x bs. done a idm x bs) (status_back s) (flags_none s))

pub read_back : (idm : List ℕ) (blocks : List (List ℕ)) → length idm ≡ 8 → Sixteens blocks → reply_of (jis_frame (read_payload idm blocks)) ≡ Ok (done Read idm Normal blocks)
read_back idm blocks long h =
    let bytes = flat_map (λ b. b) blocks in
    let flags : List ℕ = 0x00 ∷ 0x00 ∷ [] in
    let number : List ℕ = length blocks ∷ [] in
    let rest : List ℕ = 0x00 ∷ 0x00 ∷ length blocks ∷ bytes in
    let right : idm ++ flags ++ number ++ bytes ≡ idm ++ rest = append_assoc (idm ++ flags) number bytes ∙ append_assoc idm flags (number ++ bytes) in
    through answer_of (read_payload idm blocks) (omega arith)
    ∙ ap (λ t. answer_of (0x07 ∷ t)) right
    ∙ ap (λ r. Ok r) (listed_back Read idm rest 0x07 long ∙ ap (λ bs. done Read idm Normal bs) (cut_joined blocks h))

-- what follows the identifier in the answer to a REQ, taken together
polled_right : (a b c d e : List ℕ) → a ++ b ++ c ++ d ++ e ≡ a ++ (b ++ (c ++ (d ++ e)))
polled_right a b c d e = simp append_assoc

pub req_back : (idm pmm code : List ℕ) (request : ℕ) → length idm ≡ 8 → length pmm ≡ 2
    → reply_of (jis_frame (req_payload idm pmm request code)) ≡ Ok (polled idm pmm (extra_of request code))
req_back idm pmm code request long two =
    let extra = extra_of request code in
    let tail : List ℕ = 0xFF ∷ extra in
    let rest : List ℕ = 0xFF ∷ 0xFF ∷ 0x00 ∷ 0x00 ∷ 0x00 ∷ (pmm ++ tail) in
    let at-pmm : take 2 (drop 13 (idm ++ rest)) ≡ pmm = ap (take 2) (behind 0x01 idm rest long 5) ∙ take_at pmm tail 2 two in
    let at-extra : drop 16 (idm ++ rest) ≡ extra = behind 0x01 idm rest long 8 ∙ sym (drop-drop 1 2 (pmm ++ tail)) ∙ ap (drop 1) (drop_at pmm tail 2 two) in
    through answer_of (req_payload idm pmm request code) (omega arith)
    ∙ ap (λ t. answer_of (0x01 ∷ t)) (polled_right idm (0xFF ∷ 0xFF ∷ 0x00 ∷ 0x00 ∷ 0x00 ∷ []) pmm (0xFF ∷ []) extra)
    ∙ ap (λ i. Ok (polled i (take 2 (drop 13 (idm ++ rest))) (drop 16 (idm ++ rest)))) (front 0x01 idm rest long)
    ∙ ap₂ (λ x y. Ok (polled idm x y)) at-pmm at-extra
