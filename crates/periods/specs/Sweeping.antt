-- The sweep of a busy period as the code takes its turns, over columns.
use Rattle.std.specs.Prelude.{ℕ, zero, suc, ◌+◌, ◌-◌, ◌≤◌, ◌<◌, max, Bool, true, false, ◌≡◌, refl, ◌⊎◌, List, length, get_or, take, set}
use Rattle.std.proofs.Common.{sym, ap, ◌∙◌, inl, inr, ⊎_elim, add-one, arith, get_or-take, length-take-le}
use Rattle.std.specs.Int.Bits.{bit_or}
use Rattle.rules.specs.Rows.{at}
use Rattle.sweep.specs.Masks.{is_left}
use Rattle.sweep.specs.Padded.{rows_within}
use Rattle.periods.specs.Entries.{timely}
use Rattle.periods.specs.Busy.{row, LeftAt}
use Rattle.periods.specs.Renewing.{Renewing, renewing_start, renewing_skip, renewing_begins, renewing_joins, renewed_groups, renewed_sound, renewed_whole}
use Rattle.periods.specs.Trying.{Speed, Grouped, Renewed}

-- before the turn at place k of the sweep of the busy period that began at `begin`
abbrev pub Turn : List ℕ → ℕ → List ℕ → List ℕ → List ℕ → List ℕ → ℕ → ℕ → List ℕ → List ℕ → ℕ → ℕ → ℕ → ℕ → Type 0
Turn queue n release deadline cap entry left begin old period passing k first b =
    Renewing (λ j. at release j) (λ j. at cap j) (λ j. at deadline j) (λ j. at entry j) (is_left left) (take n queue) old begin period passing k first b

-- the trials over the queue's first places
abbrev pub told_of : List ℕ → List ℕ → List ℕ → ℕ → ℕ → ℕ → ℕ → ℕ
told_of queue deadline entry left first end clock = timely (λ j. is_left left j) (λ j. at deadline j) (λ j. at entry j) clock queue first end

timely_take : (live : ℕ → Bool) (due entry : ℕ → ℕ) (clock : ℕ) (queue : List ℕ) (n first k : ℕ) → k ≤ n
    → timely live due entry clock queue first k ≡ timely live due entry clock (take n queue) first k
timely_take live due entry clock queue n first zero h = refl
timely_take live due entry clock queue n first (suc k) h = rw (get_or-take n queue k 0 h, timely_take live due entry clock queue n first k (omega arith))

module _ (queue : List ℕ) (n : ℕ) (release deadline cap entry : List ℕ) (left : ℕ) (s : Speed queue n release cap entry) where
  abbrev q : List ℕ
  q = take n queue

  abbrev rel : ℕ → ℕ
  rel j = at release j

  abbrev caps : ℕ → ℕ
  caps j = at cap j

  abbrev due : ℕ → ℕ
  due j = at deadline j

  abbrev seat : ℕ → ℕ
  seat j = at entry j

  pub queue_length : length q ≡ n
  queue_length = length-take-le n queue (rows_within queue n s.columns.rows)

  queue_row : (k : ℕ) → k < n → row q k ≡ get_or queue k 0
  queue_row k h = get_or-take n queue k 0 h

  module _ (begin : ℕ) (old : List ℕ) (known : Grouped queue n release cap left old) where
    pub turn_start : Turn queue n release deadline cap entry left begin old old 0 begin begin 0
    turn_start = renewing_start rel caps due seat (is_left left) q s.queued old known begin

    module _ (period : List ℕ) (passing k first b : ℕ) (r : Turn queue n release deadline cap entry left begin old period passing k first b) where
      module _ (h : k < n) where
        inside : k < length q
        inside = omega (arith, queue_length)

        abbrev mine : ℕ
        mine = get_or queue k 0

        is : row q k ≡ mine
        is = queue_row k h

        -- a row that is not left is passed over
        pub turn_skip : is_left left mine ≡ false → Turn queue n release deadline cap entry left begin old period passing (k + 1) first b
        turn_skip e =
            rw (add-one k) (renewing_skip rel caps due seat (is_left left) q s.queued old known begin period passing k first b r inside (ap (is_left left) is ∙ e))

        -- a row of the busy period is run
        pub turn_row : is_left left mine ≡ true → at period mine ≡ begin → (next word ends : ℕ)
            → ((b ≤ at release mine) × (next ≡ k) × (word ≡ bit_or passing (told_of queue deadline entry left first k b)))
            ⊎ ((at release mine < b) × (next ≡ first) × (word ≡ passing))
            → ends ≡ max b (at release mine) + at cap mine
            → Turn queue n release deadline cap entry left begin old (set period (mine - 1) next) word (k + 1) next ends
        turn_row e own next word ends way x =
            let f = ap (is_left left) is ∙ e in
            let o : at old (row q k) ≡ begin = sym (r.kept_after k (inside, f) (omega arith)) ∙ ap (at period) is ∙ own in
            ⊎_elim
            (λ v. done k (bit_or passing (timely (is_left left) due seat b q first k)) v.1
            (v.2 ∙ ap (bit_or passing) (timely_take (is_left left) due seat b queue n first k (omega arith)))
            (rw is at (renewing_begins rel caps due seat (is_left left) q s.queued old known begin period passing k first b r inside f o
            (omega (arith, v.0, ap rel is)))))
            (λ v. done first passing v.1 v.2
            (rw is at (renewing_joins rel caps due seat (is_left left) q s.queued old known begin period passing k first b r inside f o
            (omega (arith, v.0, ap rel is)))))
            way
          where
            done : (from some : ℕ) → next ≡ from → word ≡ some
                → Turn queue n release deadline cap entry left begin old (set period (mine - 1) from) some (suc k) from (max b (rel mine) + caps mine)
                → Turn queue n release deadline cap entry left begin old (set period (mine - 1) next) word (k + 1) next ends
            done from some z y t = rw (add-one k, z, y, x) t

      -- the queue is passed, or the next row is of another busy period
      pub turn_end : k ≤ n → (n ≤ k) ⊎ ((k < n) × (is_left left (get_or queue k 0) ≡ true) × (at period (get_or queue k 0) ≡ begin → ⊥))
          → Renewed queue n release deadline cap entry left begin old period (bit_or passing (told_of queue deadline entry left first k b))
      turn_end upto way =
          let l = queue_length in
          let end : (length q ≤ k) ⊎ (LeftAt (is_left left) q k × (at old (row q k) ≡ begin → ⊥)) =
          ⊎_elim
          (λ h. inl (omega arith))
          (λ v. let i = queue_row k v.0 in
          let w : LeftAt (is_left left) q k = (omega (arith, v.0), ap (is_left left) i ∙ v.1) in
          inr (w, λ z. v.2 (ap (at period) (sym i) ∙ r.kept_after k w (omega arith) ∙ z)))
          way in
          rw (timely_take (is_left left) due seat b queue n first k upto)
          record {
            groups = renewed_groups rel caps due seat (is_left left) q s.queued old known begin period passing k first b r (omega arith) end;
            sound = renewed_sound rel caps due seat (is_left left) q s.queued old known begin period passing k first b r (omega arith) end;
            whole = renewed_whole rel caps due seat (is_left left) q s.queued old known begin period passing k first b r (omega arith) end;
          }
