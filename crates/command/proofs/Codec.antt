-- Commands and answers taken apart again. Assumes nothing.
use Rattle.std.proofs.Common.{◌≡◌, ℕ, ◌+◌, ◌-◌, ◌*◌, ◌/◌, ◌%◌, ◌<◌, ◌≤◌, true, ◌&&◌, ◌||◌, eqb, ltb, leb, List, [], ◌∷◌, ◌++◌, length, Some, None, Option, refl, ap, ◌∙◌, arith, length-append}
use Rattle.std.proofs.lemmas.List.{take_at, drop_at}
use Rattle.std.proofs.lemmas.Bool.{and_from, cond-true, eq-eqb, le-leb, lt-ltb, or_left, or_right}
use Rattle.command.specs.declared.status.Status.{Status}
use Rattle.command.specs.declared.status.Status.TheVariants.{Normal, WrongLength, WrongClass, WrongInstruction, WrongParameters, NotAllowed}
use Rattle.command.specs.Blocks.{user_end}
use Rattle.command.specs.Orders as taken
use Rattle.command.specs.Orders.{asked_by, answered, status_bytes, up_to}
use Rattle.command.specs.Laws.{Command, select, read, update, le_bytes, command_bytes, InRange, parts, data_of, status_of, status_word}

up_to_is : (most n : ℕ) → 1 ≤ n → n ≤ most → up_to most n ≡ true
up_to_is most n h k = and_from _ _ (le-leb 1 n h) (le-leb n most k)

-- a command has 4 to 256 bytes
sized : (n : ℕ) → 4 ≤ n → n ≤ 256 → (leb 4 n && leb n 256) ≡ true
sized n h k = and_from _ _ (le-leb 4 n h) (le-leb n 256 k)

-- P1 and P2 give the address again
address_back : (a n : ℕ) → a + n ≤ user_end → a / 256 % 16 * 256 + a % 256 ≡ a
address_back a n h = omega arith

in_user : (a n : ℕ) → a + n ≤ user_end → (ltb (a / 256) 16 && leb (a / 256 % 16 * 256 + a % 256 + n) user_end) ≡ true
in_user a n h = and_from _ _ (lt-ltb (a / 256) 16 (omega arith)) (le-leb (a / 256 % 16 * 256 + a % 256 + n) user_end (omega arith))

read_returns : (a n : ℕ) → 1 ≤ n → n ≤ 251 → a + n ≤ user_end → asked_by (command_bytes (read a n)) ≡ taken.read a n
unfolding asked_by
read_returns a n h k e = cond-true _ _ _ (up_to_is 251 n h k) ∙ cond-true _ _ _ (in_user a n e) ∙ ap (λ x. taken.read x n) (address_back a n e)

update_returns : (a : ℕ) (d : List ℕ) → 1 ≤ length d → length d ≤ 251 → a + length d ≤ user_end → asked_by (command_bytes (update a d)) ≡ taken.update a d
unfolding asked_by
update_returns a d h k e =
    let n = length (command_bytes (update a d)) in
    let long : length (command_bytes (update a d)) ≡ 5 + length d = omega arith in
    cond-true _ _ _ (sized n (omega arith) (omega arith))
    ∙ cond-true _ _ _ (and_from _ _ (eq-eqb n (5 + length d) long) (up_to_is 251 (length d) h k))
    ∙ cond-true _ _ _ (in_user a (length d) e)
    ∙ ap (λ x. taken.update x d) (address_back a (length d) e)

-- with or without Le
ends : (n : ℕ) (name : List ℕ) (le : Option ℕ) → n ≡ 5 + length (name ++ le_bytes le) → (eqb n (5 + length name) || eqb n (6 + length name)) ≡ true
ends n name None e = or_left _ _ (eq-eqb n (5 + length name) (omega (arith, length-append name [])))
ends n name (Some x) e = or_right _ _ (eq-eqb n (6 + length name) (omega (arith, length-append name (x ∷ []))))

one_more_is : (le : Option ℕ) → length (le_bytes le) ≤ 1
one_more_is None = omega arith
one_more_is (Some x) = omega arith

select_returns : (p1 p2 : ℕ) (name : List ℕ) (le : Option ℕ) → p1 < 128 → 1 ≤ length name → length name ≤ 16
    → asked_by (command_bytes (select p1 p2 name le)) ≡ answered Normal
unfolding asked_by
select_returns p1 p2 name le p h k =
    let n = length (command_bytes (select p1 p2 name le)) in
    let long : length (command_bytes (select p1 p2 name le)) ≡ 5 + length (name ++ le_bytes le) = omega arith in
    let few : n ≤ 256 = omega (arith, length-append name (le_bytes le), one_more_is le) in
    cond-true _ _ _ (sized n (omega arith) few)
    ∙ cond-true _ _ _ (lt-ltb p1 128 p)
    ∙ cond-true _ _ _ (and_from _ _ (up_to_is 16 (length name) h k) (ends n name le long))

pub commands_return : (c : Command) → InRange c → asked_by (command_bytes c) ≡ parts c
commands_return (select p1 p2 name le) h = select_returns p1 p2 name le h.0 h.1 h.2
commands_return (read a n) h = read_returns a n h.0 h.1 h.2
commands_return (update a d) h = update_returns a d h.0 h.1 h.2

two : (s : Status) → length (status_bytes s) ≡ 2
two Normal = refl
two WrongLength = refl
two WrongClass = refl
two WrongInstruction = refl
two WrongParameters = refl
two NotAllowed = refl

known : (s : Status) → status_word (status_bytes s) ≡ Some s
known Normal = refl
known WrongLength = refl
known WrongClass = refl
known WrongInstruction = refl
known WrongParameters = refl
known NotAllowed = refl

pub answers_return : (d : List ℕ) (s : Status) → (data_of (d ++ status_bytes s) ≡ d) × (status_of (d ++ status_bytes s) ≡ Some s)
answers_return d s =
    let n : length d ≡ length (d ++ status_bytes s) - 2 = omega (arith, length-append d (status_bytes s), two s) in
    (take_at d (status_bytes s) _ n, ap status_word (drop_at d (status_bytes s) _ n) ∙ known s)
