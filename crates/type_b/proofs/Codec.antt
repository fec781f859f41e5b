-- A frame that was put together is taken apart to the same parts. Assumes nothing.
use Rattle.std.proofs.Common.{◌≡◌, ℕ, ◌+◌, ◌-◌, ◌*◌, ◌%◌, ◌≤◌, Bool, true, false, cond, eqb, leb, List, [], ◌∷◌, ◌++◌, length, take, drop, sym, refl, ap, ◌∙◌, ap₂, arith, length-append}
use Rattle.std.specs.Str.{bytes_eq}
use Rattle.std.proofs.lemmas.Slice.Eq.{bytes_eq-Decides}
use Rattle.std.proofs.lemmas.List.{take_at, drop_at}
use Rattle.std.proofs.lemmas.Bool.{and_from, cond-true, eq-eqb, le-leb}
use Rattle.checksum.specs.Checksum.{crc_b}
use Rattle.reply.specs.Frames.{type_b_frame}
use Rattle.type_b.specs.declared.size.FrameSize.{FrameSize}
use Rattle.type_b.specs.declared.size.FrameSize.TheVariants.{Bytes64, Bytes96, Bytes128, Bytes256}
use Rattle.type_b.specs.Frames as taken
use Rattle.type_b.specs.Frames.{kind_of, body_kind, attrib_body, intact, unknown}
use Rattle.type_b.specs.Laws.{Sent, request, attrib, halt, deselect, information, ack, nak, code_of, rate_of, InRange, parts, frame_of}

same_self : (xs : List ℕ) → bytes_eq xs xs ≡ true
same_self xs = (bytes_eq-Decides xs xs).1 refl

module _ (x : ℕ) (p sum : List ℕ) (two : length sum ≡ 2) (is : sum ≡ crc_b (x ∷ p)) (h : length p ≤ 253) where
  long : length ((x ∷ p) ++ sum) ≡ length (x ∷ p) + 2
  long = length-append (x ∷ p) sum ∙ ap (λ k. length (x ∷ p) + k) two

  end : length (x ∷ p) ≡ length ((x ∷ p) ++ sum) - 2
  end = omega (arith, long)

  whole : intact ((x ∷ p) ++ sum) ≡ true
  whole =
      let w = (x ∷ p) ++ sum in
      let least : leb 3 (length w) ≡ true = le-leb 3 (length w) (omega (arith, long)) in
      let most : leb (length w) 256 ≡ true = le-leb (length w) 256 (omega (arith, long)) in
      let front : take (length w - 2) w ≡ x ∷ p = take_at (x ∷ p) sum (length w - 2) end in
      let back : drop (length w - 2) w ≡ sum = drop_at (x ∷ p) sum (length w - 2) end in
      let same : bytes_eq (drop (length w - 2) w) (crc_b (take (length w - 2) w)) ≡ true =
      ap₂ (λ a b. bytes_eq a (crc_b b)) back front ∙ ap (bytes_eq sum) (sym is) ∙ same_self sum in
      and_from _ _ (and_from _ _ least most) same

  inner : take (length ((x ∷ p) ++ sum) - 3) (p ++ sum) ≡ p
  inner = let n : length p ≡ length ((x ∷ p) ++ sum) - 3 = omega (arith, long) in take_at p sum _ n

  opened : kind_of ((x ∷ p) ++ sum) ≡ body_kind x p
  unfolding kind_of
  opened = cond-true _ _ _ whole ∙ ap (body_kind x) inner

-- a frame with the body x ∷ p
pub body_returns : (x : ℕ) (p : List ℕ) → length p ≤ 253 → kind_of (type_b_frame (x ∷ p)) ≡ body_kind x p
body_returns x p h = opened x p (crc_b (x ∷ p)) refl refl h

-- Param4 is 16 times its high half
suited : (k : taken.Kind) (high : ℕ) → cond (eqb (16 * high % 16) 0) k unknown ≡ k
suited k high = cond-true _ _ _ (eq-eqb (16 * high % 16) 0 (omega arith))

chosen : (a b c d p1 : ℕ) (fast : Bool) (size : FrameSize) (high : ℕ)
    → attrib_body (a ∷ b ∷ c ∷ d ∷ p1 ∷ (rate_of fast + code_of size) ∷ 0x01 ∷ (16 * high) ∷ []) ≡ taken.attrib (a ∷ b ∷ c ∷ d ∷ []) size
chosen a b c d p1 true Bytes64 high = suited _ high
chosen a b c d p1 true Bytes96 high = suited _ high
chosen a b c d p1 true Bytes128 high = suited _ high
chosen a b c d p1 true Bytes256 high = suited _ high
chosen a b c d p1 false Bytes64 high = suited _ high
chosen a b c d p1 false Bytes96 high = suited _ high
chosen a b c d p1 false Bytes128 high = suited _ high
chosen a b c d p1 false Bytes256 high = suited _ high

attrib_returns : (pupi : List ℕ) (p1 : ℕ) (fast : Bool) (size : FrameSize) (high : ℕ) → length pupi ≡ 4
    → attrib_body (pupi ++ (p1 ∷ (rate_of fast + code_of size) ∷ 0x01 ∷ (16 * high) ∷ [])) ≡ taken.attrib pupi size
attrib_returns [] p1 fast size high h = absurd (omega arith)
attrib_returns (a ∷ []) p1 fast size high h = absurd (omega arith)
attrib_returns (a ∷ b ∷ []) p1 fast size high h = absurd (omega arith)
attrib_returns (a ∷ b ∷ c ∷ []) p1 fast size high h = absurd (omega arith)
attrib_returns (a ∷ b ∷ c ∷ d ∷ []) p1 fast size high h = chosen a b c d p1 fast size high
attrib_returns (a ∷ b ∷ c ∷ d ∷ e ∷ r) p1 fast size high h = absurd (omega arith)

block_returns : (number chained : Bool) (inf : List ℕ) → length inf ≤ 253 → kind_of (frame_of (information number chained inf)) ≡ taken.information chained inf
block_returns true true inf h = body_returns 0x13 inf h
block_returns true false inf h = body_returns 0x03 inf h
block_returns false true inf h = body_returns 0x12 inf h
block_returns false false inf h = body_returns 0x02 inf h

ack_returns : (number : Bool) → kind_of (frame_of (ack number)) ≡ taken.ack number
ack_returns true = body_returns 0xa3 [] (omega arith)
ack_returns false = body_returns 0xa2 [] (omega arith)

nak_returns : (number : Bool) → kind_of (frame_of (nak number)) ≡ taken.nak number
nak_returns true = body_returns 0xb3 [] (omega arith)
nak_returns false = body_returns 0xb2 [] (omega arith)

pub frames_return : (s : Sent) → InRange s → kind_of (frame_of s) ≡ parts s
frames_return (request afi param) h = body_returns 0x05 (afi ∷ param ∷ []) (omega arith)
frames_return (attrib pupi p1 fast size high) h =
    let r = p1 ∷ (rate_of fast + code_of size) ∷ 0x01 ∷ (16 * high) ∷ [] in
    body_returns 0x1d (pupi ++ r) (simp length-append (omega arith)) ∙ attrib_returns pupi p1 fast size high h
frames_return (halt pupi) h = body_returns 0x50 pupi (omega arith) ∙ cond-true _ _ _ (eq-eqb (length pupi) 4 h)
frames_return deselect h = body_returns 0xc2 [] (omega arith)
frames_return (information number chained inf) h = block_returns number chained inf h
frames_return (ack number) h = ack_returns number
frames_return (nak number) h = nak_returns number

pub frames_differ : (s t : Sent) → InRange s → InRange t → frame_of s ≡ frame_of t → parts s ≡ parts t
frames_differ s t h k e = sym (frames_return s h) ∙ ap kind_of e ∙ frames_return t k

pub body_intact : (x : ℕ) (p : List ℕ) → length p ≤ 253 → intact (type_b_frame (x ∷ p)) ≡ true
body_intact x p h = whole x p (crc_b (x ∷ p)) refl refl h
