-- Orders in plain terms: what check 6 lets through, place by place, and when 6 is said.
use Rattle.std.specs.Prelude.{ℕ, ◌+◌, ◌-◌, ◌≤◌, ◌<◌, Bool, true, ◌&&◌, ◌||◌, List, get_or, take, drop, Ok, Err}
use Rattle.std.proofs.Math.Path.{◌≡◌, refl}
use Rattle.std.proofs.Common.{sym, ap, ◌∙◌, take-append-drop}
use native.Mathlib.Omega.{arith}
use borrow.Author.Tests.{eq-eqb, eqb-true, lt-ltb, ltb-true}
use Rattle.std.proofs.Math.Dec.{eqb}
use Rattle.std.proofs.Math.Seq.{get_or-drop}
use Rattle.rules.specs.declared.Table.{Table}
use Rattle.rules.specs.Checks.{Check}
use Rattle.rules.specs.Lists.{all, all_zero, count, first, rows_to}
use Rattle.rules.specs.Numbers.{refusal_number, check_number}
use Rattle.rules.specs.Orders.{is_arrangement, is_above, keeps_wait, is_order, check_order, check_both}
use Rattle.rules.specs.Rows.{follows_of, is_follower}
use Rattle.rules.specs.Tables.{and_then, check_table, Accepted}
use Rattle.theory.specs.Counts.{In, first_passes, first_above}
use Rattle.theory.specs.Facts.{Row, rows_in_lem, in_rows, TableFacts, facts, followed_row_lem}
use Rattle.theory.specs.Places.{arranged_rows, place_row}
use Rattle.theory.specs.Tests.{by_bool, by_eqb, by-ltb, not_both, and_left, and_right, and_both}
use Rattle.checks.specs.RowLists.{zero_at}
use Rattle.columns.specs.AllRows.{all_each, all_of}
use Rattle.words.specs.Words.{table_in}
use Rattle.conclusions.specs.Conclusions.{AnOrder, OrderIn}
use Rattle.conclusions.specs.Entries.{table_words}
use Rattle.conclusions.specs.Places.{first_at, entry_of_lem, one_place, each_zero}
use Rattle.conclusions.specs.Refusals.{not_later}

-- ---- an order under check 6, and place by place
module _ (t : Table) (accepted : Accepted t) (o : List ℕ) (follows : ℕ → ℕ) (same : (i : ℕ) → Row t i → follows i ≡ follows_of t i) where
  f : TableFacts t
  f = facts t accepted

  abbrev once : Bool
  once = all (λ i. eqb (count i o) 1) (rows_to t.n)

  abbrev ended : Bool
  ended = all_zero (drop t.n o)

  -- of two rows, the first from the top
  abbrev either : ℕ → ℕ → ℕ → Bool
  either w i x = eqb x w || eqb x i

  own : (w i : ℕ) → either w i i ≡ true
  own w i = by_bool (eqb i w) (λ e. rw e) (λ e. rw (e, eq-eqb i i refl))

  module _ (e : is_order t o ≡ true) where
    arranged : once && ended ≡ true
    unfolding is_order is_arrangement
    arranged = and_left (once && ended) (all (keeps_wait t o) (rows_to t.n)) e

    keeps : (i : ℕ) → Row t i → keeps_wait t o i ≡ true
    unfolding is_order
    keeps i r = all_each (keeps_wait t o) t.n (and_right (is_arrangement t o) (all (keeps_wait t o) (rows_to t.n)) e) i r.from r.up_to

    placed_once : (i : ℕ) → Row t i → count i o ≡ 1
    placed_once i r = eqb-true (count i o) 1 (all_each (λ i. eqb (count i o) 1) t.n (and_left once ended arranged) i r.from r.up_to)

    placed_zero : (k : ℕ) → t.n ≤ k → get_or o k 0 ≡ 0
    placed_zero k h = zero_at o t.n k (and_right once ended arranged) h

    row_at : (k : ℕ) → 1 ≤ get_or o k 0 → Row t (get_or o k 0)
    row_at k some =
        let z : k + 1 - 1 ≡ k = omega arith in
        by-ltb k t.n
        (λ _ h. rw z at (place_row t o e (k + 1) (omega arith) (omega arith)))
        (λ _ h. absurd (omega (arith, placed_zero k h)))

    -- the row at place q follows the one at place p
    followed_first : (p q : ℕ) → 1 ≤ get_or o p 0 → 1 ≤ get_or o q 0 → follows (get_or o q 0) ≡ get_or o p 0 → p < q
    followed_first p q some other h =
        let i = get_or o q 0 in
        let w = follows_of t i in
        let r = row_at q other in
        let is : w ≡ get_or o p 0 = sym (same i r) ∙ h in
        let above : is_above w i o ≡ true = rw (lt-ltb 0 w (omega arith)) at (keeps i r) in
        let found : first (either w i) o ≡ w = eqb-true (first (either w i) o) w above in
        let top = first_at (either w i) o (λ z. omega (arith, found)) in
        let here : top.place ≡ p = one_place o top.place p w (placed_once w (rw is (row_at p some))) (omega arith) (top.stands ∙ found) (sym is) in
        by-ltb p q
        (λ _ l. l)
        (λ _ l. by_eqb p q
        (λ _ s. absurd (omega (arith, f.lower i r (omega arith), is, ap (λ (k : ℕ). get_or o k 0) s)))
        (λ _ s. absurd (not_both (either w i i) (own w i) (top.before q (omega arith)))))

    pub order_plain : AnOrder t.n follows o
    order_plain = record { each_once = λ i l h. placed_once i (record { from = l; up_to = h }); zeros_after = placed_zero; waits = followed_first }

  module _ (a : AnOrder t.n follows o) where
    arrangement : is_arrangement t o ≡ true
    unfolding is_arrangement
    arrangement =
        and_both once ended
        (all_of (λ i. eqb (count i o) 1) t.n (λ i l h. eq-eqb (count i o) 1 (a.each_once i l h)))
        (each_zero (drop t.n o) (λ k _. get_or-drop t.n o k 0 ∙ a.zeros_after (t.n + k) (omega arith)))

    -- a row among the first n places
    among : (i : ℕ) → Row t i → In i (take t.n o)
    among i r = omega (arith, arranged_rows t o arrangement i, in_rows t i r)

    -- of a row and the one that it follows, that one comes first from the top
    above : (i : ℕ) → Row t i → 1 ≤ follows_of t i → is_above (follows_of t i) i o ≡ true
    above i r some =
        let w = follows_of t i in
        let v = followed_row_lem t f i r some in
        let found = first (either w i) o in
        let own-w : either w i w ≡ true = rw (eq-eqb w w refl) in
        let inside : In found (take t.n o) = rw (take-append-drop t.n o) at (first_above (either w i) (take t.n o) (drop t.n o) w (among w v) own-w) in
        let row : Row t found = rows_in_lem t found (omega (arith, arranged_rows t o arrangement found)) in
        let top = first_at (either w i) o (λ z. omega (arith, row.from)) in
        by_eqb found w
        (λ e _. e)
        (λ e _. let is : found ≡ i = eqb-true found i (rw e at (first_passes (either w i) o (λ z. omega (arith, row.from)))) in
        let p = entry_of_lem o w (omega (arith, a.each_once w v.from v.up_to)) in
        let below : p.0 < top.place = a.waits p.0 top.place (rw p.2 v.from) (rw top.stands row.from) (rw (top.stands, is, p.2) (same i r)) in
        absurd (not_both (either w i w) own-w (rw p.2 at (top.before p.0 below))))

    kept : (i : ℕ) → 1 ≤ i → i ≤ t.n → keeps_wait t o i ≡ true
    kept i l h = by_bool (is_follower t i) (λ g. rw g (above i (record { from = l; up_to = h }) (ltb-true 0 (follows_of t i) g))) (λ g. rw g)

    pub plain_order : is_order t o ≡ true
    unfolding is_order
    plain_order = and_both (is_arrangement t o) (all (keeps_wait t o) (rows_to t.n)) arrangement (all_of (keeps_wait t o) t.n kept)

-- ---- 6 is said of the order alone
module _ (t : Table) (o : List ℕ) (follows : ℕ → ℕ) (same : Accepted t → (i : ℕ) → Row t i → follows i ≡ follows_of t i) where
  pub six_said : check_number (check_both t o) ≡ 6 → Accepted t × (AnOrder t.n follows o → ⊥)
  unfolding check_both check_order check_number refusal_number
  six_said = by_check (check_table t) refl
    where
      by_check : (c : Check) → check_table t ≡ c → check_number (and_then c (check_order t o)) ≡ 6 → Accepted t × (AnOrder t.n follows o → ⊥)
      by_check (Ok tt) e h = (
        e,
        λ a. let z : ◌≡◌ {A = ℕ} 0 6 = rw (plain_order t e o follows (same e) a) at h in omega arith,
      )
      by_check (Err r) e h = absurd (not_later t 6 (omega arith) (omega arith) (ap check_number e ∙ h))

  pub say_six : Accepted t → (AnOrder t.n follows o → ⊥) → check_number (check_both t o) ≡ 6
  unfolding check_both check_order check_number refusal_number
  say_six e n = rw e (by_bool (is_order t o) (λ h. absurd (n (order_plain t e o follows (same e) h))) (λ h. rw h))

-- ---- over the words
module _ (table order : List ℕ) where
  abbrev u : Table
  u = table_in table

  abbrev followed_row : ℕ → ℕ
  followed_row i = get_or table (323 + i) 0

  followed_word : Accepted u → (i : ℕ) → Row u i → followed_row i ≡ follows_of u i
  followed_word accepted i r = (table_words table i r.from (omega (arith, r.up_to, (facts u accepted).few))).follows

  pub order_words : Accepted u → is_order u order ≡ true → OrderIn table order
  unfolding table_in
  order_words accepted = order_plain u accepted order followed_row (followed_word accepted)

  pub words_order : Accepted u → OrderIn table order → is_order u order ≡ true
  unfolding table_in
  words_order accepted = plain_order u accepted order followed_row (followed_word accepted)

  pub six_words : check_number (check_both u order) ≡ 6 → Accepted u × (OrderIn table order → ⊥)
  unfolding table_in
  six_words = six_said u order followed_row followed_word

  pub words_six : Accepted u → (OrderIn table order → ⊥) → check_number (check_both u order) ≡ 6
  unfolding table_in
  words_six = say_six u order followed_row followed_word
