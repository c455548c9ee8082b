-- How a list of numbers is read as calls: the next index lies further on and within the list, and each call is followed by those from the
-- next index on.
use Rattle.std.specs.Prelude.{ℕ, zero, suc, ◌+◌, ◌-◌, ◌≤◌, ◌<◌, min, ◌≡◌, refl, List, [], ◌∷◌, length, get_or, take, drop}
use Rattle.std.proofs.Common.{sym, ap, ◌∙◌, arith, length-drop, take_all, eq-eqb, ne_eqb}
use Rattle.rules.specs.Calls.{Call, one, forward}
use Rattle.theory.specs.Tests.{by-leb, by_eqb}
use Rattle.guarantee.specs.Encoding.{call_at, next_at, calls_from, calls_in}

-- the next call's index lies further on, and at the list's end at most
pub next_after : (l : List ℕ) (i : ℕ) → i < length l → i + 1 ≤ next_at l i
unfolding next_at
next_after l i h = omega arith

pub next_within : (l : List ℕ) (i : ℕ) → next_at l i ≤ length l
unfolding next_at
next_within l i = omega arith

-- numbers beyond the end are not taken
take_within : (n : ℕ) (l : List ℕ) → take n l ≡ take (min n (length l)) l
take_within n l =
    by-leb n (length l) (λ _ h. let e : n ≡ min n (length l) = omega arith in ap (λ (x : ℕ). take x l) e)
    (λ _ h. take_all n l (omega arith) ∙ sym (take_all (min n (length l)) l (omega arith)))

-- the call that code makes after each kind of head
pub call_one : (l : List ℕ) (i : ℕ) → get_or l i 0 ≡ 0 → call_at l i ≡ one (get_or l (i + 1) 0)
unfolding call_at
call_one l i e = rw (eq-eqb (get_or l i 0) 0 e)

pub call_forward : (l : List ℕ) (i : ℕ) → i < length l → (get_or l i 0 ≡ 0 → ⊥) → call_at l i ≡ forward (take (next_at l i - (i + 1)) (drop (i + 1) l))
unfolding call_at next_at
call_forward l i h n =
    let m : min (get_or l i 0 - 1) (length (drop (i + 1) l)) ≡ min (i + 1 + (get_or l i 0 - 1)) (length l) - (i + 1) = omega (arith, length-drop (i + 1) l) in
    rw (ne_eqb (get_or l i 0) 0 n) (ap forward (take_within (get_or l i 0 - 1) (drop (i + 1) l) ∙ ap (λ (x : ℕ). take x (drop (i + 1) l)) m))

-- a bound on the number of calls beyond the numbers left changes nothing
enough : (l : List ℕ) (k j i : ℕ) → length l - i ≤ k → length l - i ≤ j → calls_from k l i ≡ calls_from j l i
unfolding calls_from
enough l zero zero i p q = refl
enough l zero (suc j) i p q = rw (eq-eqb (length l - i) 0 (omega arith))
enough l (suc k) zero i p q = rw (eq-eqb (length l - i) 0 (omega arith))
enough l (suc k) (suc j) i p q =
    by_eqb (length l - i) 0 (λ e _. rw e)
    (λ e n.
    let more : i < length l = omega arith in
    rw e (ap (λ (r : List Call). call_at l i ∷ r) (enough l k j (next_at l i) (omega (arith, next_after l i more)) (omega (arith, next_after l i more)))))

-- the calls from index i on
unfoldable pub calls_left : List ℕ → ℕ → List Call
calls_left l i = calls_from (length l) l i

pub left_all : (l : List ℕ) → calls_left l 0 ≡ calls_in l
unfolding calls_left calls_in
left_all l = refl

pub left_none : (l : List ℕ) (i : ℕ) → length l ≤ i → calls_left l i ≡ []
unfolding calls_left calls_from
left_none l i h = enough l (length l) 0 i (omega arith) (omega arith)

pub left_next : (l : List ℕ) (i : ℕ) → i < length l → calls_left l i ≡ call_at l i ∷ calls_left l (next_at l i)
unfolding calls_left calls_from
left_next l i h = enough l (length l) (suc (length l)) i (omega arith) (omega arith) ∙ rw (ne_eqb (length l - i) 0 (λ e. omega arith))
