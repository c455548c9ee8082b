use Prim.Native.Nat.{ℕ, ◌≤◌, ◌<◌, ◌+◌, ◌-◌, ◌^◌}
use native.Mathlib.Omega.{arith}
use Rattle.std.specs.Int.Bits.{bit_and, bit_or}
use mathlib.Core.Path.{◌≡◌, refl, sym, ap, subst, ◌∙◌}
use mathlib.Core.Bool.{true}
use mathlib.Core.List.{List, map}
use lib.ListN.{length, get_or, set, length-set}
use Rattle.rules.specs.declared.Table.{Table}
use Rattle.rules.specs.Choice.{padded}
use Rattle.rules.specs.Lists.{sum, rows_to}
use Rattle.rules.specs.Rows.{rows_of}
use Rattle.rules.specs.Tables.{Accepted}
use Rattle.theory.specs.Facts.{TableFacts, facts}
use Rattle.sweep.specs.Masks.{is_left}
use Rattle.trials.specs.Turns.{followed_few, entries_small, normal_speed, degraded_speed, degraded_parts}
use Rattle.choices.specs.Choices.{choices, choices_lowest, choices_of}
use Rattle.trials.specs.Lent.{lent_tried, lent_entries, lent_parts}
use Rattle.counter.specs.Lent.{all_lent, standing_lent}
use Rattle.counter.specs.Summing.{without_row}
use Rattle.counter.specs.Words.{filled, standing_rows, filled_first, filled_next, filled_last, standing_inside, total_is, total_fits, count_is, lowest_is}
use Rattle.counter.specs.Turns.{standing_found, words_few, words_all, kept_length, pow_two, counts_are}
use Rattle.counter.proofs.count_words.Goals as goal
use Rattle.counter.proofs.count_words.Goals.{At-loop-word, After-standing-rows}

-- the table of a turn
module _ (c : At-loop-word) where
  abbrev t : Table
  t = c.args.t

  accepted : Accepted t
  accepted = c.requires.0

  f : TableFacts t
  f = facts t accepted

  abbrev all : ℕ
  all = c.first_rows-all.result

  every : all ≡ 2 ^ t.n - 1
  every = c.first_rows-all.ensures

  abbrev old : List ℕ
  old = c.args.scratch.now

  long : length c.loop-word.scratch ≡ length old
  long =
      kept_length t accepted c.requires.1 all every old c.loop-word.scratch c.loop-word.word c.requires.2 (omega (arith, every, pow_two t.n f.some))
      c.loop-word.invariant.0

  -- the word has an entry
  inside : c.loop-word.word ≤ all → c.loop-word.word < length c.loop-word.scratch
  inside h = omega (arith, h, long, c.requires.2, words_few t accepted c.requires.1 all every)

-- the rows found are those that may stand lowest
rows_are : (c : After-standing-rows) → c.standing-rows.result ≡ standing_rows c.args.t c.loop-word.word
rows_are c =
    let t = c.args.t in
    let w = c.prepare-w.result in
    let word = c.loop-word.word in
    let normal = c.all_in_time-at_normal in
    let slow = c.all_in_time-at_slow in
    let parts = c.promises-parts in
    standing_found t c.requires.0 w c.prepare-w.ensures word c.first_rows-all.result c.open_entries-tries.result
    normal.result slow.result c.standing-rows.result c.zero_after-free.result c.first_rows-all.ensures c.zero_after-free.ensures c.open_entries-tries.ensures
    (all_lent w t w.normal c.at_normal-normal.result c.at_normal-normal.ensures word normal.result normal.ensures)
    (all_lent w t w.degraded parts.result.slow parts.ensures.slow word slow.result slow.ensures)
    (standing_lent w t parts.result parts.ensures word
    (bit_and c.open_entries-tries.result (bit_or (bit_and normal.result w.low) (bit_and slow.result w.high))) c.standing-rows.result c.standing-rows.ensures)

pub loop-word-init : goal.loop-word-init
loop-word-init c =
    (filled_first c.args.t (facts _ c.requires.0) c.args.scratch.now (omega (arith, c.requires.2)), λ n. absurd (n refl))

pub open_entries-tries-requires : goal.open_entries-tries-requires
open_entries-tries-requires c =
    let t = c.args.t in
    let p = c.prepare-w in
    ((facts t c.requires.0).few, followed_few t c.requires.0 p.result p.ensures, entries_small t c.requires.0 p.result p.ensures)

pub all_in_time-at_normal-requires : goal.all_in_time-at_normal-requires
all_in_time-at_normal-requires c =
    let t = c.args.t in
    let w = c.prepare-w in
    let normal = c.at_normal-normal in (
      lent_tried w.result t w.result.normal normal.result normal.ensures (normal_speed t c.requires.0 w.result w.ensures),
      omega (arith, normal.ensures.n, (facts t c.requires.0).some),
    )

pub all_in_time-at_slow-requires : goal.all_in_time-at_slow-requires
all_in_time-at_slow-requires c =
    let t = c.args.t in
    let w = c.prepare-w in
    let parts = c.promises-parts in (
      lent_tried w.result t w.result.degraded parts.result.slow parts.ensures.slow (degraded_speed t c.requires.0 w.result w.ensures),
      omega (arith, parts.ensures.slow.n, (facts t c.requires.0).some),
    )

pub standing-rows-requires : goal.standing-rows-requires
standing-rows-requires c =
    let t = c.args.t in
    let w = c.prepare-w in
    let parts = c.promises-parts in (
      lent_parts w.result t parts.result parts.ensures (degraded_parts t c.requires.0 w.result w.ensures),
      lent_entries w.result t w.result.degraded parts.result.slow parts.ensures.slow (entries_small t c.requires.0 w.result w.ensures),
    )

pub total-requires : goal.total-requires
total-requires c =
    let l = (goal.at.total-requires c).At-loop-word in
    let rows = rows_are (goal.at.total-requires c).After-standing-rows in
    let w = c.loop-word.word in
    let h : w ≤ all l = omega (arith, c.loop-word-test.true) in (
      (f l).few,
      inside l h,
      λ i e. standing_inside (t l) (f l) w i (subst (λ (r : ℕ). is_left r i ≡ true) rows e),
      subst (λ (r : ℕ). sum (without_row c.loop-word.scratch w r) (rows_to (t l).n) < 2 ^ 32) (sym rows)
          (subst (λ (x : List ℕ). sum (without_row x w (standing_rows (t l) w)) (rows_to (t l).n) < 2 ^ 32) (sym c.loop-word.invariant.0)
          (total_fits (t l) (f l) (set (old l) 0 1) w c.requires.1 (omega arith) (omega (arith, h, words_all (t l) (accepted l) c.requires.1 (all l) (every l))))),
    )

pub bounds-scratch-word : goal.bounds-scratch-word
bounds-scratch-word c = inside (goal.at.bounds-scratch-word c).At-loop-word (omega (arith, c.loop-word-test.true))

pub loop-word-preserved : goal.loop-word-preserved
loop-word-preserved c =
    let l = (goal.at.loop-word-preserved c).At-loop-word in
    let rows = rows_are (goal.at.loop-word-preserved c).After-standing-rows in
    let w = c.loop-word.word in
    let i = c.loop-word.invariant in
    let h : w ≤ all l = omega (arith, c.loop-word-test.true) in
    let base = set (old l) 0 1 in
    let small : w < 2 ^ (t l).n = omega (arith, h, words_all (t l) (accepted l) c.requires.1 (all l) (every l)) in
    let is : c.total.result ≡ choices_of (t l) w = c.total.ensures
    ∙ ap (λ (r : ℕ). sum (without_row c.loop-word.scratch w r) (rows_to (t l).n)) rows
    ∙ ap (λ (x : List ℕ). sum (without_row x w (standing_rows (t l) w)) (rows_to (t l).n)) i.0
    ∙ total_is (t l) (f l) base w (omega arith) small in
    let z : w + 1 - 1 ≡ w = omega arith in (
      ap (λ (x : List ℕ). set x w c.total.result) i.0 ∙ ap (set (filled (t l) base w) w) is
          ∙ filled_next (t l) (f l) base w (omega (arith, inside l h, long l, length-set (old l) 0 1)),
      λ _. rows ∙ ap (standing_rows (t l)) (sym z),
    )

-- at the end all words are done, and the rows are those of the last, the word of all rows
module _ (l : At-loop-word) (over : all l < l.loop-word.word) where
  last_word : l.loop-word.word ≡ all l + 1
  last_word = omega (arith, over)

  last_rows : l.loop-word.rows ≡ standing_rows (t l) (all l)
  last_rows =
      let z : l.loop-word.word - 1 ≡ all l = omega (arith, last_word) in
      l.loop-word.invariant.1 (λ q. omega (arith, q, last_word, every l, pow_two (t l).n (f l).some)) ∙ ap (standing_rows (t l)) z

  last_inside : all l < length l.loop-word.scratch
  last_inside = omega (arith, long l, l.requires.2, words_few (t l) (accepted l) l.requires.1 (all l) (every l))

pub lowest_counts-requires : goal.lowest_counts-requires
lowest_counts-requires c =
    let l = (goal.at.lowest_counts-requires c).At-loop-word in
    let over : all l < c.loop-word.word = omega (arith, c.loop-word-test.false) in
    ((f l).few, last_inside l over, λ i e. standing_inside (t l) (f l) (all l) i (subst (λ (r : ℕ). is_left r i ≡ true) (last_rows l over) e))

pub bounds-scratch-all : goal.bounds-scratch-all
bounds-scratch-all c = last_inside (goal.at.bounds-scratch-all c).At-loop-word (omega (arith, c.loop-word-test.false))

pub returns : goal.returns
returns c =
    let l = (goal.at.returns c).At-loop-word in
    let over : all l < c.loop-word.word = omega (arith, c.loop-word-test.false) in
    let x = c.loop-word.scratch in
    let i = c.loop-word.invariant in
    let n = last_word l over in
    let base = set (old l) 0 1 in (
      counts_are (get_or x (all l) 0) (choices (t l)) c.lowest_counts.result (padded (map (choices_lowest (t l)) (rows_of (t l))))
          (ap (λ (x : List ℕ). get_or x (all l) 0) i.0 ∙ count_is (t l) (f l) (all l) (every l) base c.loop-word.word n)
          (c.lowest_counts.ensures
          ∙ ap (λ (r : ℕ). padded (map (without_row x (all l) r) (rows_to (t l).n))) (last_rows l over)
          ∙ ap (λ (x : List ℕ). padded (map (without_row x (all l) (standing_rows (t l) (all l))) (rows_to (t l).n))) i.0
          ∙ lowest_is (t l) (f l) (all l) (every l) base c.loop-word.word n),
      i.0 ∙ filled_last (t l) (f l) (old l) c.loop-word.word (n ∙ words_all (t l) (accepted l) c.requires.1 (all l) (every l)),
    )
