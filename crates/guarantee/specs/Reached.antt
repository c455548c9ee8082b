-- Every list of calls (rule 9.5) is that of some list of numbers: reading the numbers that a list of calls is given by gives it back.
use Rattle.std.specs.Prelude.{ℕ, suc, ◌+◌, ◌-◌, ◌≤◌, ◌≡◌, refl, List, [], ◌∷◌, ◌++◌, length, get_or, drop}
use Rattle.std.proofs.Common.{sym, ap, ◌∙◌, append_assoc, arith, take_at}
use Rattle.std.proofs.Math.ListN.{length-append}
use borrow.Author.Tests.{ne_eqb}
use Rattle.rules.specs.Calls.{Call, one, forward}
use Rattle.guarantee.specs.Encoding.{call_at, next_at, calls_in, numbers_of, all_numbers}
use Rattle.guarantee.specs.Reading.{calls_left, left_all, left_none, left_next}

-- what stands after the numbers p
head_of : (p : List ℕ) (h : ℕ) (m : List ℕ) → get_or (p ++ (h ∷ m)) (length p) 0 ≡ h
head_of [] h m = refl
head_of (x ∷ p) h m = head_of p h m

second_of : (p : List ℕ) (h x : ℕ) (m : List ℕ) → get_or (p ++ (h ∷ x ∷ m)) (length p + 1) 0 ≡ x
second_of [] h x m = refl
second_of (y ∷ p) h x m = let e : suc (length p) + 1 ≡ suc (length p + 1) = omega arith in rw e (second_of p h x m)

tail_of : (p : List ℕ) (h : ℕ) (m : List ℕ) → drop (length p + 1) (p ++ (h ∷ m)) ≡ m
tail_of [] h m = refl
tail_of (x ∷ p) h m = let e : suc (length p) + 1 ≡ suc (length p + 1) = omega arith in rw e (tail_of p h m)

-- the call that stands after the numbers p, with any numbers after its own
module _ (p rest : List ℕ) where
  call_is : (c : Call) → call_at (p ++ (numbers_of c ++ rest)) (length p) ≡ c
  unfolding call_at
  call_is (one v) = rw (head_of p 0 (v ∷ rest), second_of p 0 v rest)
  call_is (forward vs) =
      rw (head_of p (suc (length vs)) (vs ++ rest), ne_eqb (suc (length vs)) 0 (λ e. omega arith), tail_of p (suc (length vs)) (vs ++ rest))
      (ap forward (take_at vs rest (suc (length vs) - 1) (omega arith)))

  next_is : (c : Call) → next_at (p ++ (numbers_of c ++ rest)) (length p) ≡ length (p ++ numbers_of c)
  unfolding next_at
  next_is (one v) =
      rw (head_of p 0 (v ∷ rest)) (omega (arith, length-append p (0 ∷ v ∷ rest), length-append p (0 ∷ v ∷ [])))
  next_is (forward vs) =
      rw (head_of p (suc (length vs)) (vs ++ rest), ne_eqb (suc (length vs)) 0 (λ e. omega arith))
      (omega (arith, length-append p (suc (length vs) ∷ (vs ++ rest)), length-append p (suc (length vs) ∷ vs), length-append vs rest))

some : (c : Call) → 1 ≤ length (numbers_of c)
some (one v) = omega arith
some (forward vs) = omega arith

left_of_lem : (p : List ℕ) (cs : List Call) → calls_left (p ++ all_numbers cs) (length p) ≡ cs
unfolding all_numbers
left_of_lem p [] = left_none (p ++ []) (length p) (omega (arith, length-append p []))
left_of_lem p (c ∷ cs) =
    let l = p ++ (numbers_of c ++ all_numbers cs) in
    left_next l (length p) (omega (arith, length-append p (numbers_of c ++ all_numbers cs), length-append (numbers_of c) (all_numbers cs), some c))
    ∙ rw (call_is p (all_numbers cs) c, next_is p (all_numbers cs) c)
    (ap (λ (r : List Call). c ∷ r)
    (ap (λ (m : List ℕ). calls_left m (length (p ++ numbers_of c))) (sym (append_assoc p (numbers_of c) (all_numbers cs))) ∙ left_of_lem (p ++ numbers_of c) cs))

-- so what `play` shows of every list of numbers, it shows of every list of calls
pub calls_reached : (cs : List Call) → calls_in (all_numbers cs) ≡ cs
calls_reached cs = sym (left_all (all_numbers cs)) ∙ left_of_lem [] cs
