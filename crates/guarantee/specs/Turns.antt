-- One turn of the loop that makes the calls: what the calls left over say and leave, put to what is noted, stays the same.
use Rattle.std.specs.Prelude.{ℕ, zero, suc, ◌+◌, ◌≤◌, ◌<◌, ◌≡◌, refl, List, [], ◌∷◌, ◌++◌, length, take, drop}
use Rattle.std.proofs.Math.Path.{sym}
use Rattle.std.proofs.Common.{ap, ◌∙◌, arith, length-set, length-drop, take-append-drop}
use Rattle.record.specs.declared.Run.{Run}
use Rattle.rules.specs.Calls.{Call, Said}
use Rattle.guarantee.specs.declared.Turn.{Turn}
use Rattle.guarantee.specs.Playing.{make, make_all}
use Rattle.guarantee.specs.Encoding.{call_at, next_at, calls_in}
use Rattle.guarantee.specs.Shown.{Turned, Answered, noted, laid}
use Rattle.guarantee.specs.Reading.{calls_left, next_within, left_all, left_none, left_next}

-- where two numbers fit, an answer is noted and the others go after it
laid_noted : (k : ℕ) (b : List ℕ) (n v : ℕ) (s : Said) (ss : List Said) → k + 2 ≤ length b → n ≡ s.number → v ≡ s.value
    → take (k + 2) (noted b k n v) ++ laid ss (drop (k + 2) (noted b k n v)) ≡ take k b ++ laid (s ∷ ss) (drop k b)
laid_noted zero [] n v s ss h p q = absurd (omega arith)
laid_noted zero (x ∷ []) n v s ss h p q = absurd (omega arith)
laid_noted zero (x ∷ y ∷ b) n v s ss h p q = rw (p, q)
laid_noted (suc k) [] n v s ss h p q = absurd (omega arith)
laid_noted (suc k) (x ∷ b) n v s ss h p q =
    let one : suc k + 1 ≡ suc (k + 1) = omega arith in
    let two : suc k + 2 ≡ suc (k + 2) = omega arith in
    rw (one, two) (ap (λ (r : List ℕ). x ∷ r) (laid_noted k b n v s ss (omega arith) p q))

-- where they do not fit, no answer is noted
laid_short : (ss : List Said) (b : List ℕ) → length b ≤ 1 → laid ss b ≡ b
laid_short [] b h = refl
laid_short (s ∷ ss) [] h = refl
laid_short (s ∷ ss) (x ∷ []) h = refl
laid_short (s ∷ ss) (x ∷ y ∷ b) h = absurd (omega arith)

-- before a turn: the record r, the buffer with k numbers noted, and the calls from index i on still to be made
pub record Going (calls before : List ℕ) (start : Run) (buffer : List ℕ) (r : Run) (i k : ℕ) : Type 0 where
  pub within : i ≤ length calls
  pub room : k ≤ length buffer
  pub long : length buffer ≡ length before
  pub noting : take k buffer ++ laid (make_all (calls_left calls i) r).said (drop k buffer) ≡ laid (make_all (calls_in calls) start).said before
  pub left : (make_all (calls_left calls i) r).run ≡ (make_all (calls_in calls) start).run

pub going_first : (calls before : List ℕ) (start : Run) → Going calls before start before start 0 0
going_first calls before start =
    record { within = omega arith; room = omega arith; long = refl; noting = rw (left_all calls); left = rw (left_all calls) }

module _ (calls before : List ℕ) (start : Run) (b : List ℕ) (r : Run) (i k : ℕ) (g : Going calls before start b r i k) where
  -- the list is at its end
  pub going_last : length calls ≤ i → Answered (calls_in calls) start before b r
  unfolding make_all
  going_last h =
      let e = left_none calls i h in
      record {
        noting = sym (take-append-drop k b) ∙ (rw e at g.noting);
        left = rw e at g.left;
      }

  module _ (t : Turn) (made : Turned t (make (call_at calls i) r)) (more : i < length calls) where
    abbrev call : Call
    call = call_at calls i

    abbrev then : List Said
    then = (make_all (calls_left calls (next_at calls i)) (make call r).run).said

    said_next : (make_all (calls_left calls i) r).said ≡ (make call r).said ∷ then
    unfolding make_all
    said_next = rw (left_next calls i more)

    run_next : (make_all (calls_left calls i) r).run ≡ (make_all (calls_left calls (next_at calls i)) (make call r).run).run
    unfolding make_all
    run_next = rw (left_next calls i more)

    -- two numbers fit
    pub going_noted : k + 2 ≤ length b → Going calls before start (noted b k t.number t.value) t.run (next_at calls i) (k + 2)
    going_noted fits =
        let long : length (noted b k t.number t.value) ≡ length b = simp length-set in
        record {
          within = next_within calls i;
          room = omega arith;
          long = long ∙ g.long;
          noting = rw made.run
              (laid_noted k b t.number t.value (make call r).said then fits made.number made.value
              ∙ ap (λ (s : List Said). take k b ++ laid s (drop k b)) (sym said_next) ∙ g.noting);
          left = rw made.run (sym run_next ∙ g.left);
        }

    -- they do not
    pub going_full : length b < k + 2 → Going calls before start b t.run (next_at calls i) k
    going_full full =
        let short : length (drop k b) ≤ 1 = omega (arith, length-drop k b) in
        let same : (s : List Said) → take k b ++ laid s (drop k b) ≡ take k b ++ drop k b =
        λ s. ap (λ (d : List ℕ). take k b ++ d) (laid_short s (drop k b) short) in
        record {
          within = next_within calls i;
          room = g.room;
          long = g.long;
          noting = same (make_all (calls_left calls (next_at calls i)) t.run).said ∙ sym (same (make_all (calls_left calls i) r).said) ∙ g.noting;
          left = rw made.run (sym run_next ∙ g.left);
        }
