-- A turn of the choice over what a planning has prepared.
use Rattle.std.specs.Prelude.{ℕ, ◌+◌, ◌-◌, ◌^◌, ◌≤◌, ◌<◌, Bool, cond, ◌≡◌, List, get_or}
use Rattle.std.proofs.Math.Path.{refl}
use Rattle.std.proofs.Common.{arith, pow_mono}
use Rattle.std.specs.Int.Bits.{bit_and, bit_or}
use Rattle.rules.specs.declared.Table.{Table}
use Rattle.rules.specs.Lists.{all_zero}
use Rattle.rules.specs.Rows.{at, rows_of, follows_of}
use Rattle.rules.specs.Tables.{Accepted}
use Rattle.rules.specs.Choice.{sequence, taker, padded}
use Rattle.theory.specs.Counts.{In}
use Rattle.theory.specs.Tests.{by_bool, by-leb}
use Rattle.theory.specs.Facts.{Row, TableFacts, facts, rows_in_lem}
use Rattle.theory.specs.Waits.{Closed}
use Rattle.sweep.specs.Holds.{Holds}
use Rattle.sweep.specs.Masks.{bit}
use Rattle.sweep.specs.Padded.{zeros}
use Rattle.periods.specs.Entries.{Entries}
use Rattle.periods.specs.Trying.{Speed, KnownAt, Open, in_time, FirstIn, Parts, low_in_time}
use Rattle.trials.specs.declared.Trials.{Trials}
use Rattle.trials.specs.Prepared.{left_of, trials_of}
use Rattle.trials.specs.Opening.{open_to, open_most}
use Rattle.trials.specs.Allowed.{FirstOf}
use Rattle.trials.specs.Taking.{Unplaced, Opened, Taken, speed_of, opened, opening, unplaced_turn, taken_row, known_first, known_turn, period_place, parts_of}
use Rattle.trials.specs.Counting.{FirstAllowed, searched_low, searched_high}

-- what is known of the same busy periods
pub known_same : (queue : List ℕ) (n : ℕ) (release deadline cap entry : List ℕ) (left : ℕ) (p p' : List ℕ) (c c' k k' : ℕ) → p ≡ p' → c ≡ c' → k ≡ k'
    → KnownAt queue n release deadline cap entry left p' c' k' → KnownAt queue n release deadline cap entry left p c k
known_same queue n release deadline cap entry left p p' c c' k k' x y z w = rw (x, y, z) w

module _ (t : Table) (accepted : Accepted t) (w : Trials) (prepared : w ≡ trials_of t) where
  f : TableFacts t
  f = facts t accepted

  -- what is known at supplies of at least the speed of these caps
  abbrev pub KnownIn : List ℕ → ℕ → List ℕ → ℕ → ℕ → Type 0
  KnownIn caps left period changed passing = KnownAt w.queue t.n t.release t.deadline caps w.entry left period changed passing

  -- what the trials at either speed ask for

  pub normal_speed : Speed w.queue t.n t.release w.normal w.entry
  unfolding trials_of
  normal_speed = rw prepared (speed_of t accepted t.normal f.runs)

  pub degraded_speed : Speed w.queue t.n t.release w.degraded w.entry
  unfolding trials_of
  degraded_speed = rw prepared (speed_of t accepted t.degraded f.crawls)

  pub degraded_parts : Parts w.queue t.n t.release w.degraded w.part w.sequence w.entry
  unfolding trials_of
  degraded_parts = rw prepared (parts_of t accepted)

  pub open_entries : (left unplaced tries most v m : ℕ) → Unplaced t left unplaced → Opened t left unplaced tries → FirstOf tries most v
      → Open w.queue w.entry t.n left (bit_and v m)
  unfolding trials_of
  open_entries left unplaced tries most v m q o a = rw prepared (opened t accepted left unplaced q tries o most v a m)

  -- what the entries of a place are asked for with, and what they are

  pub entries_small : Entries w.entry
  unfolding trials_of
  entries_small = rw prepared (speed_of t accepted t.normal f.runs).entries

  pub followed_few : (k : ℕ) → k < t.n → get_or t.follows k 0 ≤ 64
  followed_few k h =
      let z : k + 1 - 1 ≡ k = omega arith in
      let own : Row t (k + 1) = record { from = omega arith; up_to = omega arith } in
      let e : follows_of t (k + 1) ≡ get_or t.follows k 0 = rw z in
      by-leb 1 (follows_of t (k + 1))
      (λ _ some. omega (arith, e, f.lower (k + 1) own some, own.up_to, f.few))
      (λ _ none. omega (arith, e))

  pub opened_now : (free : Bool) → free ≡ all_zero t.follows → (left unplaced tries : ℕ) → Unplaced t left unplaced
      → tries ≡ cond free unplaced (open_to t.follows w.entry left unplaced t.n) → Opened t left unplaced tries
  unfolding trials_of
  opened_now free e left unplaced tries q z = opening t accepted left unplaced q free e tries (rw prepared at z)

  -- the word fits
  pub tries_small : (free : Bool) (left unplaced tries : ℕ) → Unplaced t left unplaced
      → tries ≡ cond free unplaced (open_to t.follows w.entry left unplaced t.n) → tries < 2 ^ 64
  tries_small free left unplaced tries q z =
      let most : tries ≤ unplaced = rw z (by_bool free (λ e. rw e (omega arith)) (λ e. rw e (open_most t.follows w.entry left unplaced t.n))) in
      omega (arith, q.within, pow_mono {i = t.n} {j = 64} f.few)

  -- before the first sweep

  pub normal_first : (left : ℕ) → KnownIn w.normal left (zeros 64) 1 0
  unfolding trials_of
  normal_first left = rw prepared (known_first t accepted t.normal f.runs left)

  pub degraded_first : (left : ℕ) → KnownIn w.degraded left (zeros 64) 1 0
  unfolding trials_of
  degraded_first left = rw prepared (known_first t accepted t.degraded f.crawls left)

  -- the entry found among those allowed

  module _ (left unplaced : ℕ) (holds : Holds left (left_of t left)) (closed : Closed t (left_of t left)) (q : Unplaced t left unplaced) (tries : ℕ) (o : Opened t left unplaced tries)
      (small : tries < 2 ^ 64) (most v : ℕ) (a : FirstOf tries most v) where
    abbrev Search : (ℕ → Bool) → ℕ → ℕ → Type 0
    Search tested level e = FirstIn tested w.queue w.entry t.n left (bit_and v level) e

    abbrev low_test : ℕ → Bool
    low_test = low_in_time w.queue t.n t.release t.deadline w.normal w.degraded t.promised w.part left

    abbrev high_test : ℕ → Bool
    high_test = in_time w.queue t.n t.release t.deadline w.degraded left

    pub low_found : (e : ℕ) → Search low_test w.low e → (e ≡ 0 → ⊥) → FirstAllowed t left unplaced tries most v e
    unfolding trials_of
    low_found e k n = searched_low t accepted left holds closed unplaced q tries o small most v a e (rw prepared at k) n

    pub high_found : (d e : ℕ) → Search low_test w.low d → d ≡ 0 → Search high_test w.high e → FirstAllowed t left unplaced tries most v e
    unfolding trials_of
    high_found d e k z l = searched_high t accepted left holds closed unplaced q tries o small most v a d e (rw prepared at k) z (rw prepared at l)

  -- the row at the entry taken
  module _ (left unplaced : ℕ) (q : Unplaced t left unplaced) where
    module _ (e : ℕ) (k : Taken t left unplaced e) (some : e ≡ 0 → ⊥) where
      abbrev mine : ℕ
      mine = get_or w.sequence (e - 1) 0

      pub taken_range : (1 ≤ e) × (e ≤ t.n) × (bit unplaced (e - 1) ≡ 1)
      taken_range = let r = k.found some in (r.0, r.1, r.2)

      pub row_is : mine ≡ taker t (left_of t left)
      unfolding trials_of
      row_is = rw prepared (k.found some).3

      row_in : In mine (rows_of t)
      unfolding trials_of
      row_in = rw prepared (taken_row t accepted e taken_range.0 taken_range.1)

      pub row_some : mine ≡ 0 → ⊥
      row_some z = omega (arith, (rows_in_lem t mine row_in).from)

      module _ (b : bit left (mine - 1) ≡ 1) where
        pub unplaced_next : Unplaced t (left - 2 ^ (mine - 1)) (unplaced - 2 ^ (e - 1))
        unfolding trials_of
        unplaced_next =
            let r = taken_range in
            rw prepared (unplaced_turn t accepted left unplaced q e (get_or (padded (sequence t)) (e - 1) 0) r.0 r.1 refl r.2 (rw prepared at b))

        module _ (period : List ℕ) (changed passing : ℕ) where
          -- its busy period begins at a place of the queue, and changes

          pub normal_within : KnownIn w.normal left period changed passing → at period mine < 64
          unfolding trials_of
          normal_within known =
              rw prepared (period_place t accepted t.normal f.runs left (get_or (padded (sequence t)) (e - 1) 0) period changed passing (rw prepared at known)
              (rw prepared at row_in) (rw prepared at b))

          pub degraded_within : KnownIn w.degraded left period changed passing → at period mine < 64
          unfolding trials_of
          degraded_within known =
              rw prepared (period_place t accepted t.degraded f.crawls left (get_or (padded (sequence t)) (e - 1) 0) period changed passing (rw prepared at known)
              (rw prepared at row_in) (rw prepared at b))

          pub normal_next : KnownIn w.normal left period changed passing → KnownIn w.normal (left - 2 ^ (mine - 1)) period (bit_or changed (2 ^ at period mine)) passing
          unfolding trials_of
          normal_next known =
              rw prepared (known_turn t accepted t.normal f.runs left (get_or (padded (sequence t)) (e - 1) 0) period changed passing (rw prepared at known)
              (rw prepared at row_in) (rw prepared at b))

          pub degraded_next : KnownIn w.degraded left period changed passing
              → KnownIn w.degraded (left - 2 ^ (mine - 1)) period (bit_or changed (2 ^ at period mine)) passing
          unfolding trials_of
          degraded_next known =
              rw prepared (known_turn t accepted t.degraded f.crawls left (get_or (padded (sequence t)) (e - 1) 0) period changed passing (rw prepared at known)
              (rw prepared at row_in) (rw prepared at b))
