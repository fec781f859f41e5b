-- What a command asks lies in the user blocks. Assumes nothing.
use Rattle.std.proofs.Common.{◌≡◌, ℕ, ◌+◌, ◌≤◌, true, ◌&&◌, ◌||◌, eqb, ltb, leb, List, length, get_or, drop, arith, length-drop}
use Rattle.std.proofs.lemmas.Bool.{and_parts, cond_both, eqb-true, leb-true}
use Rattle.command.specs.Blocks.{user_end}
use Rattle.command.specs.Orders.{address, asked_by, in_user, instructed, read_of, select_of, update_of, up_to, Within}

sized : (n : ℕ) → up_to 251 n ≡ true → (1 ≤ n) × (n ≤ 251)
sized n e = let k = and_parts (leb 1 n) (leb n 251) e in (leb-true 1 n k.0, leb-true n 251 k.1)

ends : (c : List ℕ) (n : ℕ) → in_user c n ≡ true → address c + n ≤ user_end
ends c n e = leb-true (address c + n) user_end (and_parts (ltb (get_or c 2 0) 16) (leb (address c + n) user_end) e).1

read_within : (c : List ℕ) → Within (read_of c)
read_within c =
    let n = get_or c 4 0 in
    cond_both (eqb (length c) 5 && up_to 251 n) _ _ Within
    (λ e.
    let k = sized n (and_parts (eqb (length c) 5) (up_to 251 n) e).1 in
    cond_both (in_user c n) _ _ Within (λ u. (k.0, k.1, ends c n u)) (λ _. tt))
    (λ _. tt)

update_within : (c : List ℕ) → Within (update_of c)
update_within c =
    let n = get_or c 4 0 in
    cond_both (eqb (length c) (5 + n) && up_to 251 n) _ _ Within
    (λ e.
    let both = and_parts (eqb (length c) (5 + n)) (up_to 251 n) e in
    let k = sized n both.1 in
    let l : length c ≡ 5 + get_or c 4 0 = eqb-true (length c) (5 + n) both.0 in
    let d : length (drop 5 c) ≡ get_or c 4 0 = simp length-drop (omega arith) in
    cond_both (in_user c n) _ _ Within (λ u. (omega (arith, k.0), omega (arith, k.1), omega (arith, ends c n u))) (λ _. tt))
    (λ _. tt)

select_within : (c : List ℕ) → Within (select_of c)
select_within c =
    let n = get_or c 4 0 in
    cond_both (ltb (get_or c 2 0) 128) _ _ Within
    (λ _. cond_both (up_to 16 n && (eqb (length c) (5 + n) || eqb (length c) (6 + n))) _ _ Within (λ _. tt) (λ _. tt))
    (λ _. tt)

instructed_within : (c : List ℕ) → Within (instructed c)
instructed_within c =
    cond_both (eqb (get_or c 1 0) 0xa4) _ _ Within (λ _. select_within c)
    (λ _. cond_both (eqb (get_or c 1 0) 0xb0) _ _ Within (λ _. read_within c)
    (λ _. cond_both (eqb (get_or c 1 0) 0xd6) _ _ Within (λ _. update_within c) (λ _. tt)))

pub asked_within : (c : List ℕ) → Within (asked_by c)
unfolding asked_by
asked_within c =
    cond_both (leb 4 (length c) && leb (length c) 256) _ _ Within
    (λ _. cond_both (eqb (get_or c 0 0) 0x00) _ _ Within (λ _. instructed_within c) (λ _. tt))
    (λ _. tt)
