-- JIS replies and the account: what the flags of a reply tell, and what its frame did to the memory. Assumes nothing.
use Rattle.std.proofs.Common.{◌≡◌, ℕ, ◌+◌, ◌*◌, Bool, true, false, cond, List, [], ◌∷◌, ◌++◌, map, length, take, drop, Ok, Err, Result, sym, refl, ap, ◌∙◌, subst, append_assoc, append-nil, arith, length-append, length-drop, length-take, take_at, drop_at}
use Rattle.std.proofs.lemmas.Bool.{both_ways}
use Rattle.std.specs.List.{flat_map}
use Rattle.std.specs.Str.{bytes_eq}
use Rattle.checksum.specs.Checksum.{jis_checksum}
use Rattle.memory.specs.Memory.{Memory, Shaped, block_at}
use Rattle.reply.specs.Frames.{jis_sealed, jis_frame}
use Rattle.system.specs.Identity.{idm}
use Rattle.system.specs.Protection.{may_read, may_write}
use Rattle.jis.specs.declared.fault.Fault.{Fault}
use Rattle.jis.specs.declared.fault.Fault.TheVariants.{Length, Checksum, Code, Shape, ForeignIdentifier, ServiceCount, Truncated, ServicesDiffer, BlockCount, ListEnd, BadElement}
use Rattle.jis.specs.declared.fault.Status.{Status}
use Rattle.jis.specs.declared.fault.Status.TheVariants as status
use Rattle.jis.specs.Answers.{flags_payload, read_payload}
use Rattle.jis.specs.Faults.{answer_code, answer_to, flags_of}
use Rattle.jis.specs.Elements.{numbers}
use Rattle.jis.specs.Commands.{Asked, req, read, write, command_of}
use Rattle.jis.proofs.Listing.{numbers_length}
use Rattle.jis_service.specs.Service.{every, fault_payload, written_in, payload_for, memory_for}
use Rattle.jis_service.proofs.Taken.{own_command, lawful_command, Users, users}
use Rattle.tag.specs.Puts.{in_blocks, puts}
use Rattle.tag.specs.Steps.{jis_reply}
use Rattle.tag.specs.Account.{identifier_in, normal, wrote_listed}
use Rattle.tag.proofs.Listing.{put_blocks, wrote_nothing}

-- behind LEN, code and identifier stand the flags
two_flags : (s : Status) (z : List ℕ) → take 2 (flags_of s ++ z) ≡ flags_of s
two_flags status.Normal z = refl
two_flags status.ServiceCount z = refl
two_flags status.ServicesDiffer z = refl
two_flags status.BlockCount z = refl
two_flags status.BadElement z = refl
two_flags status.Protected z = refl

flags_at : (code : ℕ) (id : List ℕ) (s : Status) (z : List ℕ) → length id ≡ 8 → take 2 (drop 10 (jis_frame (flags_payload code id s ++ z))) ≡ flags_of s
unfolding jis_sealed
flags_at code id s z e =
    let crc = jis_checksum ((length (flags_payload code id s ++ z) + 1) ∷ (flags_payload code id s ++ z)) in
    ap (λ x. take 2 (drop 8 x)) (append_assoc (id ++ flags_of s) z crc ∙ append_assoc id (flags_of s) (z ++ crc)) ∙ ap (take 2) (drop_at id (flags_of s ++ (z ++ crc)) 8 e) ∙ two_flags s (z ++ crc)

says : (code : ℕ) (id : List ℕ) (s : Status) (z : List ℕ) → length id ≡ 8 → normal (jis_frame (flags_payload code id s ++ z)) ≡ bytes_eq (flags_of s) (flags_of status.Normal)
says code id s z e = ap (λ x. bytes_eq x (flags_of status.Normal)) (flags_at code id s z e)

says_alone : (code : ℕ) (id : List ℕ) (s : Status) → length id ≡ 8 → normal (jis_reply (flags_payload code id s)) ≡ bytes_eq (flags_of s) (flags_of status.Normal)
says_alone code id s e = ap (λ x. normal (jis_frame x)) (sym (append-nil (flags_payload code id s))) ∙ says code id s [] e

says_read : (id : List ℕ) (blocks : List (List ℕ)) → length id ≡ 8 → normal (jis_reply (read_payload id blocks)) ≡ true
says_read id blocks e =
    ap (λ x. normal (jis_frame x)) (append_assoc (flags_payload 0x07 id status.Normal) (length blocks ∷ []) (flat_map (λ x. x) blocks))
    ∙ says 0x07 id status.Normal ((length blocks ∷ []) ++ flat_map (λ x. x) blocks) e

-- a fault is never answered by 00 00
says_fault : (id : List ℕ) (fault : Fault) → length id ≡ 8 → normal (jis_reply (fault_payload id (answer_to fault))) ≡ false
says_fault id Length e = refl
says_fault id Checksum e = refl
says_fault id Code e = refl
says_fault id Shape e = refl
says_fault id ForeignIdentifier e = refl
says_fault id (ServiceCount a) e = says_alone (answer_code a) id status.ServiceCount e
says_fault id Truncated e = refl
says_fault id (ServicesDiffer a) e = says_alone (answer_code a) id status.ServicesDiffer e
says_fault id (BlockCount a) e = says_alone (answer_code a) id status.BlockCount e
says_fault id ListEnd e = refl
says_fault id (BadElement a) e = says_alone (answer_code a) id status.BadElement e

-- behind the flags and the number of blocks stand the blocks
blocks_at : (id : List ℕ) (blocks : List (List ℕ)) (n : ℕ) → length id ≡ 8 → length (flat_map (λ x. x) blocks) ≡ n → take n (drop 13 (jis_reply (read_payload id blocks))) ≡ flat_map (λ x. x) blocks
unfolding jis_sealed
blocks_at id blocks n e l =
    let j = flat_map (λ x. x) blocks in
    let x = (id ++ flags_of status.Normal) ++ (length blocks ∷ []) in
    let crc = jis_checksum ((length (read_payload id blocks) + 1) ∷ read_payload id blocks) in
    let lx : length x ≡ 11 = simp length-append (omega arith) in
    ap (λ z. take n (drop 11 z)) (append_assoc x j crc) ∙ ap (take n) (drop_at x (j ++ crc) 11 lx) ∙ take_at j crc n l

joined_length : (m : Memory) (ns : List ℕ) → Shaped m → Users ns → length (flat_map (λ x. x) (map (block_at m) ns)) ≡ 16 * length ns
joined_length m [] s u = refl
joined_length m (b ∷ ns) s u =
    let r : length (flat_map (λ x. x) (map (block_at m) ns)) ≡ 16 * length ns = joined_length m ns s u.1 in
    let h : length (block_at m b) ≡ 16 = s.each b (omega (arith, u.0)) in
    length-append (block_at m b) (flat_map (λ x. x) (map (block_at m) ns)) ∙ (let g : length (block_at m b) + length (flat_map (λ x. x) (map (block_at m) ns)) ≡ 16 * length (b ∷ ns) = omega arith in g)

same_asked : (x y : Asked) → ◌≡◌ {A = Result Asked Fault} (Ok x) (Ok y) → x ≡ y
same_asked x y e = cc

module _ (identity protection : List ℕ) (li : length identity ≡ 16) (m : Memory) (sm : Shaped m) (f : List ℕ) where
  id_length : length (idm identity) ≡ 8
  id_length = simp (length-take, length-drop) (omega arith)

  abbrev answered : Result Asked Fault → List ℕ
  answered r = jis_reply (payload_for identity protection m r)

  wrote : (services : List ℕ) (n : ℕ) (list d : List ℕ) → command_of (idm identity) f ≡ Ok (write services n list d) → (t : Bool) → every (may_write protection) (numbers n list) ≡ t →
      cond t (written_in m (numbers n list) d) m ≡
      puts m (cond (normal (jis_reply (cond t (flags_payload 0x09 (idm identity) status.Normal) (flags_payload 0x09 (idm identity) status.Protected)))) (in_blocks (numbers n list) d) [])
  wrote services n list d e true h =
      let l = lawful_command (idm identity) f (write services n list d) e in
      let k : length d ≡ 16 * length (numbers n list) = l.1 ∙ ap (λ z. 16 * z) (sym (numbers_length n list)) in
      put_blocks m (numbers n list) d sm (users n list l.0) k ∙ ap (λ t. puts m (cond t (in_blocks (numbers n list) d) [])) (sym (says_alone 0x09 (idm identity) status.Normal id_length))
  wrote services n list d e false h = ap (λ t. puts m (cond t (in_blocks (numbers n list) d) [])) (sym (says_alone 0x09 (idm identity) status.Protected id_length))

  -- the memory after a frame is what the account of its reply puts
  remembered : (r : Result Asked Fault) → command_of (idm identity) f ≡ r → memory_for protection m r ≡ puts m (wrote_listed (command_of (identifier_in f) f) (answered r))
  remembered (Ok (req code request slot)) e = sym (ap (λ z. puts m (wrote_listed z (answered (Ok (req code request slot))))) (own_command (idm identity) f (req code request slot) e))
  remembered (Ok (read services n list)) e = sym (ap (λ z. puts m (wrote_listed z (answered (Ok (read services n list))))) (own_command (idm identity) f (read services n list) e))
  remembered (Ok (write services n list d)) e =
      wrote services n list d e (every (may_write protection) (numbers n list)) refl
      ∙ sym (ap (λ z. puts m (wrote_listed z (answered (Ok (write services n list d))))) (own_command (idm identity) f (write services n list d) e))
  remembered (Err fault) e = sym (ap (puts m) (wrote_nothing (command_of (identifier_in f) f) (answered (Err fault)) (says_fault (idm identity) fault id_length)))

  pub jis_memory_is : memory_for protection m (command_of (idm identity) f) ≡ puts m (wrote_listed (command_of (identifier_in f) f) (answered (command_of (idm identity) f)))
  jis_memory_is = remembered (command_of (idm identity) f) refl

  -- a reply 00 00 is for a command that this tag took
  taken : (x : Asked) (r : Result Asked Fault) → command_of (idm identity) f ≡ r → command_of (identifier_in f) f ≡ Ok x → normal (answered r) ≡ true → r ≡ Ok x
  taken x (Ok y) e a h = ap (λ z. Ok z) (same_asked y x (sym (own_command (idm identity) f y e) ∙ a))
  taken x (Err fault) e a h = absurd (both_ways _ (says_fault (idm identity) fault id_length) h)

  read_free : (ns : List ℕ) (t : Bool) → normal (jis_reply (cond t (read_payload (idm identity) (map (block_at m) ns)) (flags_payload 0x07 (idm identity) status.Protected))) ≡ true → t ≡ true
  read_free ns true h = refl
  read_free ns false h = absurd (both_ways _ (says_alone 0x07 (idm identity) status.Protected id_length) h)

  write_free : (t : Bool) → normal (jis_reply (cond t (flags_payload 0x09 (idm identity) status.Normal) (flags_payload 0x09 (idm identity) status.Protected))) ≡ true → t ≡ true
  write_free true h = refl
  write_free false h = absurd (both_ways _ (says_alone 0x09 (idm identity) status.Protected id_length) h)

  module _ (services list : List ℕ) (n : ℕ) where
    is_read : command_of (identifier_in f) f ≡ Ok (read services n list) → normal (answered (command_of (idm identity) f)) ≡ true → command_of (idm identity) f ≡ Ok (read services n list)
    is_read a h = taken (read services n list) (command_of (idm identity) f) refl a h

    pub jis_open : command_of (identifier_in f) f ≡ Ok (read services n list) → normal (answered (command_of (idm identity) f)) ≡ true → every (may_read protection) (numbers n list) ≡ true
    jis_open a h = read_free (numbers n list) (every (may_read protection) (numbers n list)) (subst (λ r. normal (answered r) ≡ true) (is_read a h) h)

    pub jis_gives : command_of (identifier_in f) f ≡ Ok (read services n list) → normal (answered (command_of (idm identity) f)) ≡ true →
        take (16 * n) (drop 13 (answered (command_of (idm identity) f))) ≡ flat_map (λ x. x) (map (block_at m) (numbers n list))
    jis_gives a h =
        let r = is_read a h in
        let s = lawful_command (idm identity) f (read services n list) r in
        let k : length (flat_map (λ x. x) (map (block_at m) (numbers n list))) ≡ 16 * n = joined_length m (numbers n list) sm (users n list s) ∙ ap (λ z. 16 * z) (numbers_length n list) in
        ap (λ z. take (16 * n) (drop 13 (answered z))) r
        ∙ ap (λ t. take (16 * n) (drop 13 (jis_reply (cond t (read_payload (idm identity) (map (block_at m) (numbers n list))) (flags_payload 0x07 (idm identity) status.Protected))))) (jis_open a h)
        ∙ blocks_at (idm identity) (map (block_at m) (numbers n list)) (16 * n) id_length k

    pub jis_free : (d : List ℕ) → command_of (identifier_in f) f ≡ Ok (write services n list d) → normal (answered (command_of (idm identity) f)) ≡ true → every (may_write protection) (numbers n list) ≡ true
    jis_free d a h =
        let r = taken (write services n list d) (command_of (idm identity) f) refl a h in
        write_free (every (may_write protection) (numbers n list)) (subst (λ r. normal (answered r) ≡ true) r h)
