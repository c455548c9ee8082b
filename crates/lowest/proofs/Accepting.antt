-- The table of some rows alone passes the checks of a table, if the whole table does (rule 25.3).
use Rattle.std.specs.Prelude.{ℕ, zero, suc, ◌-◌, ◌≤◌, ◌<◌, false, not, List, [], ◌∷◌, map, ◌≡◌, refl, eqb, leb, length, drop}
use Rattle.std.proofs.Math.Bool.{true, or-true}
use Rattle.std.proofs.Common.{sym, ap, ◌∙◌, arith, drop_at}
use Rattle.std.proofs.lemmas.List.{length-map}
use borrow.Author.Tests.{le-leb, lt-ltb, eq-eqb}
use Rattle.rules.specs.declared.Table.{Table}
use Rattle.rules.specs.Checks.{Passed}
use Rattle.rules.specs.Choice.{padded}
use Rattle.rules.specs.Lists.{all, all_zero}
use Rattle.rules.specs.Rows.{at, rows_of, release_of, work_of, deadline_of, promised_of, follows_of, is_low, is_high}
use Rattle.rules.specs.Tables.{count_ok, speeds_ok, row_ok, promise_ok, check_wait, check_waits, tail_ok, check_table, Accepted}
use Rattle.theory.specs.Counts.{In, in_head, in_tail}
use Rattle.theory.specs.Facts.{Row, RowFacts, PartFacts, TableFacts, facts, follows, rows_in_lem, in_all}
use Rattle.theory.specs.Tests.{by_bool, by-leb, by-ltb, not_is, and_both}
use Rattle.sweep.specs.Padded.{zeros, padded_zeros}
use Rattle.choices.specs.Choices.{renumbered, alone}
use Rattle.lowest.proofs.Alone.{alone_table, few, row_at, row_of, row_in, level_of, followed, by-followed}
use Rattle.lowest.specs.Alone.{Chosen}

zeros_zero : (n : ℕ) → all_zero (zeros n) ≡ true
zeros_zero zero = refl
zeros_zero (suc n) = zeros_zero n

waits_pass : (t : Table) (l : List ℕ) → ((x : ℕ) → In x l → check_wait t x ≡ Passed) → check_waits t l ≡ Passed
waits_pass t [] h = refl
waits_pass t (x ∷ l) h = rw (h x (in_head x l)) (waits_pass t l (λ y i. h y (in_tail y x l i)))

-- a row within its limits, and what it promises
row_passes : (t : Table) (i : ℕ) → RowFacts t i → row_ok t i ≡ true
unfolding row_ok
row_passes t i r =
    rw (
      le-leb 1 (work_of t i) r.works,
      le-leb (work_of t i) 1000000 r.light,
      le-leb (deadline_of t i) 1000000 r.soon,
      lt-ltb (release_of t i) (deadline_of t i) r.before,
      le-leb (at t.level i) 1 r.level,
    )

promise_passes : (t : Table) (i : ℕ) → PartFacts t i → promise_ok t i ≡ true
unfolding promise_ok
promise_passes t i r =
    rw (le-leb (promised_of t i) (work_of t i) r.within)
    (by-leb 1 (promised_of t i)
    (λ _ h. rw (r.low h))
    (λ _ h. rw (eq-eqb (promised_of t i) 0 (omega arith)) (or-true (is_low t i))))

-- a wait: the row that is followed has a lower number, is released no later, and is HI if the follower is
wait_passes : (t : Table) (i : ℕ) → (1 ≤ follows_of t i → follows_of t i < i) → (1 ≤ follows_of t i → release_of t (follows_of t i) ≤ release_of t i)
    → (1 ≤ follows_of t i → is_high t i ≡ true → is_low t (follows_of t i) ≡ false) → check_wait t i ≡ Passed
unfolding check_wait
wait_passes t i lower earlier level =
    by-ltb 0 (follows_of t i)
    (λ e h. rw (e, lt-ltb (follows_of t i) i (lower h), le-leb (release_of t (follows_of t i)) (release_of t i) (earlier h))
    (by_bool (is_high t i) (λ g. rw (g, level h g)) (λ g. rw g)))
    (λ e h. rw e)

module _ (t : Table) (accepted : Accepted t) (s : List ℕ) (c : Chosen t s) (some : 1 ≤ length s) where
  f : TableFacts t
  f = facts t accepted

  u : TableFacts (alone t s)
  u = alone_table t f s c some

  column_ends : (g : ℕ → ℕ) → all_zero (drop (length s) (padded (map g s))) ≡ true
  column_ends g =
      let e = length-map s g in
      ap (λ (l : List ℕ). all_zero (drop (length s) l)) (padded_zeros (map g s) (omega (arith, few t f s c)))
      ∙ ap all_zero (drop_at (map g s) (zeros (64 - length (map g s))) (length s) e) ∙ zeros_zero (64 - length (map g s))

  tail : tail_ok (alone t s) ≡ true
  unfolding alone tail_ok
  tail =
      rw (
        column_ends (release_of t),
        column_ends (work_of t),
        column_ends (deadline_of t),
        column_ends (at t.level),
        column_ends (promised_of t),
        column_ends (λ i. renumbered s (follows_of t i)),
      )

  -- what is followed has the level that it had
  wait_level : (k : ℕ) → Row (alone t s) k → 1 ≤ follows_of (alone t s) k → is_high (alone t s) k ≡ true → is_low (alone t s) (follows_of (alone t s) k) ≡ false
  wait_level k r h g =
      let b = row_in t f s c k r in
      let w = follows_of t (at s k) in
      let e = followed t f s c k b.0 b.1 in
      by-followed t f s c w
      (λ i q. let own = row_at t f s c k b.0 b.1 in
      let high : is_high t (at s k) ≡ true = ap (λ (l : ℕ). not (eqb l 0)) (sym (level_of t f s c k b.0 b.1)) ∙ g in
      let there : is_high t w ≡ true = (follows t accepted (at s k) own (row_of t f s c w i).from).level high in
      ap (is_low (alone t s)) e ∙ ap (λ (l : ℕ). eqb l 0) (level_of t f s c (renumbered s w) q.0 q.1) ∙ ap (is_low t) q.2 ∙ not_is (is_low t w) there)
      (λ z. absurd (omega (arith, e, z, h)))

  pub alone_accepted : Accepted (alone t s)
  unfolding check_table
  alone_accepted =
      let v = alone t s in
      let counts : count_ok v.n ≡ true = and_both (leb 1 v.n) (leb v.n 64) (le-leb 1 v.n u.some) (le-leb v.n 64 u.few) in
      let speeds : speeds_ok v.normal v.degraded ≡ true = rw (le-leb 1 v.normal u.runs, le-leb v.normal 1000 u.fast, le-leb 1 v.degraded u.crawls, le-leb v.degraded v.normal u.slower) in
      let rows : all (row_ok v) (rows_of v) ≡ true = in_all (row_ok v) (rows_of v) (λ x i. row_passes v x (u.row x (rows_in_lem v x i))) in
      let parts : all (promise_ok v) (rows_of v) ≡ true = in_all (promise_ok v) (rows_of v) (λ x i. promise_passes v x (u.part x (rows_in_lem v x i))) in
      rw (counts, speeds, le-leb v.loading 16 u.loads, rows, tail, parts)
      (waits_pass v (rows_of v) (λ x i. let r = rows_in_lem v x i in wait_passes v x (u.lower x r) (u.earlier x r) (wait_level x r)))
