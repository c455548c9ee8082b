-- What some of the conclusions settle, so that these fields cannot say less unseen: a row's figures after a slot, which row a slot runs, when LO and HI
-- rows are closed, when a follower has no slot, which orders break a wait, the K that is read, and when 11, 13, 14 and 15 are said.
use Rattle.std.specs.Prelude.{ℕ, ◌+◌, ◌≤◌, ◌<◌, cond, ◌⊎◌, ◌≡◌, refl, List, ltb, leb, get_or}
use Rattle.std.proofs.Common.{inl, inr, ⊎_elim, sym, ap, ◌∙◌, arith, le-leb, lt-ltb, le-ltb}
use Rattle.std.proofs.lemmas.Bool.{lt-leb}
use Rattle.rules.specs.Calls.{Call, supply_from}
use Rattle.rules.specs.Running.{run_after}
use Rattle.rules.specs.Slots.{chosen}
use Rattle.rules.specs.Tables.{Accepted}
use Rattle.texts.specs.Sheets.{number_at}
use Rattle.theory.specs.Tests.{by-ltb, by-leb, by_eqb}
use Rattle.words.specs.Words.{table_in}
use Rattle.conclusions.specs.declared.Begun.{Begun}
use Rattle.conclusions.specs.declared.Slots.{Slots}
use Rattle.conclusions.specs.Conclusions.{figure_at, WaitFits, FirstWait, NotLower, ReleasedLater, FollowsLow, RowTaken, Taken, TableAuthor, FreshRecord, PendingIn, SameRow, DueIn, RowRests, RowRuns, FirmwareWriter, list_words, start_of, PenEngineer, allowed_slots}

-- a row that does not run has one set of figures after the slot
pub one_rests : (table state next other : List ℕ) (j : ℕ) → RowRests table state next j → RowRests table state other j → SameRow next other j
one_rests table state next other j a b = (a.got ∙ sym b.got, a.used ∙ sym b.used, closing)
  where
    clock : ℕ
    clock = get_or state 0 0 + 1

    left : get_or state (128 + j) 0 ≡ 0 → (DueIn table clock j → ⊥) → get_or next (128 + j) 0 ≡ get_or other (128 + j) 0
    left z n = a.still_open z n ∙ sym (b.still_open z n)

    closing : get_or next (128 + j) 0 ≡ get_or other (128 + j) 0
    closing =
        by_eqb (get_or state (128 + j) 0) 0
        (λ _ z. by-leb 1 j
        (λ _ l. by-leb j (get_or table 0 0)
        (λ _ h. by_eqb (get_or table (195 + j) 0) 0
        (λ _ q. by-leb (get_or table (131 + j) 0) clock
        (λ _ d. a.late z (l, h, q, d) ∙ sym (b.late z (l, h, q, d)))
        (λ _ d. left z (λ y. omega (arith, y.3))))
        (λ _ q. left z (λ y. q y.2)))
        (λ _ h. left z (λ y. omega (arith, y.1))))
        (λ _ l. left z (λ y. omega (arith, y.0))))
        (λ _ z. a.closed z ∙ sym (b.closed z))

-- a slot leaves one state: the running row's figures are settled by table, state and supply
module _ (table order state : List ℕ) (supply i : ℕ) (next other : List ℕ) (a : RowRuns table order state supply i next)
    (b : RowRuns table order state supply i other) where
  got_one : get_or next i 0 ≡ get_or other i 0
  got_one =
      by-ltb (get_or state (64 + i) 0) (get_or table 3 0)
      (λ _ h. a.loads h ∙ sym (b.loads h))
      (λ _ h. a.got h ∙ sym (b.got h))

  used_one : get_or next (64 + i) 0 ≡ get_or other (64 + i) 0
  used_one = a.used ∙ sym b.used

  closing_one : get_or next (128 + i) 0 ≡ get_or other (128 + i) 0
  closing_one =
      by_eqb (get_or next i 0) (get_or table (67 + i) 0)
      (λ _ q. a.done q ∙ sym (b.done (sym got_one ∙ q)))
      (λ _ n. by_eqb (get_or table (195 + i) 0) 0
      (λ _ z. by-leb (allowed_slots table i) (get_or next (64 + i) 0)
      (λ _ h. a.dropped z h ∙ sym (b.dropped z (omega (arith, used_one, h))))
      (λ _ h. by-leb (get_or table (131 + i) 0) (get_or state 0 0 + 1)
      (λ _ d. a.late z d ∙ sym (b.late z d))
      (λ _ d. a.still_open n (λ _. (h, d)) ∙ sym (b.still_open (λ q. n (got_one ∙ q)) (λ _. (omega (arith, used_one, h), d))))))
      (λ _ z. a.still_open n (λ y. absurd (z y)) ∙ sym (b.still_open (λ q. n (got_one ∙ q)) (λ y. absurd (z y)))))

  pub one_next : (j : ℕ) → 1 ≤ j → j ≤ 64 → SameRow next other j
  one_next j l h =
      by_eqb j i
      (λ _ q. rw q (got_one, used_one, closing_one))
      (λ _ q. one_rests table state next other j (a.others j l h q) (b.others j l h q))

-- a slot runs the highest row in the order that is released and open, whether or not rows wait
pub highest_runs : (table order state : List ℕ) (supply : ℕ) (said : Slots) → FirmwareWriter table order state supply said → said.number ≡ 0
    → (p : ℕ) → PendingIn table state (get_or order p 0) → ((q : ℕ) → q < p → PendingIn table state (get_or order q 0) → ⊥)
    → said.row ≡ get_or order p 0
highest_runs table order state supply said f passed p pending none =
    by_eqb said.row 0
    (λ _ z. absurd (f.none_open passed z (get_or order p 0) pending))
    (λ _ some. let r = f.runs passed some in
    by-ltb p r.place
    (λ _ h. absurd (r.highest_open p h pending))
    (λ _ h. by-ltb r.place p
    (λ _ g. absurd (none r.place g (rw r.stands r.ready.0)))
    (λ _ g. let e : r.place ≡ p = omega arith in sym r.stands ∙ ap (λ (k : ℕ). get_or order k 0) e)))

-- and the row that it runs follows none that is open
pub none_beside : (table order state : List ℕ) (supply i : ℕ) (next : List ℕ) → RowRuns table order state supply i next
    → (get_or table (323 + i) 0 ≡ 0 → ⊥) → get_or state (128 + get_or table (323 + i) 0) 0 ≡ 0 → ⊥
none_beside table order state supply i next r follows still = ⊎_elim (λ z. follows z) (λ h. omega (arith, still)) r.ready.1

-- an order that has a follower above the row that it follows is refused with 6
pub follower_above : (table order : List ℕ) (said : Begun) → FreshRecord table order said → Accepted (table_in table)
    → (p q : ℕ) → p < q → 1 ≤ get_or order p 0 → 1 ≤ get_or order q 0 → get_or table (323 + get_or order p 0) 0 ≡ get_or order q 0 → said.number ≡ 6
follower_above table order said f accepted p q h follower followed e = f.no_order accepted (λ k. omega (arith, k.waits q p followed follower e))

-- what a pen engineer is told of a LO row: from its deadline on it is closed, and by then; and of a HI row: missing work, it is open
module _ (table order : List ℕ) (k : ℕ) (cs : List Call) (p : PenEngineer table order k cs) (i : ℕ) (l : 1 ≤ i) (h : i ≤ get_or table 0 0) where
  abbrev end : List ℕ
  end = (list_words table order cs (start_of table order k)).state

  pub preview_closed : get_or table (195 + i) 0 ≡ 0 → get_or table (131 + i) 0 ≤ get_or end 0 0
      → (1 ≤ get_or end (128 + i) 0) × (get_or end (128 + i) 0 ≤ get_or table (131 + i) 0)
  preview_closed z d =
      let q = p.preview i l h z in
      (by_eqb (get_or end (128 + i) 0) 0 (λ _ e. absurd (omega (arith, q.0 e, d))) (λ _ e. omega arith), q.1)

  pub pen_unfinished : (get_or table (195 + i) 0 ≡ 0 → ⊥) → (get_or end i 0 ≡ get_or table (67 + i) 0 → ⊥) → get_or end (128 + i) 0 ≡ 0
  pen_unfinished n w = by_eqb (get_or end (128 + i) 0) 0 (λ _ e. e) (λ _ e. absurd (w (p.pen i l h n (omega arith))))

  -- and of a follower: while the row that it follows is open, it has used no slot, and at the clock at which that one was closed it had none either; nor
  -- has a HI row while the row that it follows is missing work
  module _ (follows : get_or table (323 + i) 0 ≡ 0 → ⊥) where
    abbrev followed : ℕ
    followed = get_or table (323 + i) 0

    -- beside a row that is open, or closed only after slot u began, no such slot goes to its follower, nor does the coming one
    pub no_slot : (u : ℕ) → u ≤ get_or end 0 0 → (get_or end (128 + followed) 0 ≡ 0) ⊎ (u < get_or end (128 + followed) 0)
        → chosen (table_in table) order (run_after (table_in table) order (supply_from k cs) u) ≡ i → ⊥
    no_slot u c (inl still) q = omega (arith, still, (p.slots i u l h follows c q).0)
    no_slot u c (inr later) q = omega (arith, later, (p.slots i u l h follows c q).1)

    pub held_back : get_or end (128 + followed) 0 ≡ 0 → get_or end (64 + i) 0 ≡ 0
    held_back still = by_eqb (get_or end (64 + i) 0) 0 (λ _ e. e) (λ _ e. absurd (omega (arith, still, p.waits.closed i l h follows (omega arith))))

    pub none_at_closing : get_or end 0 0 ≤ get_or end (128 + followed) 0 → get_or end (64 + i) 0 ≡ 0
    none_at_closing now = by_eqb (get_or end (64 + i) 0) 0 (λ _ e. e) (λ _ e. absurd (omega (arith, now, p.waits.after i l h follows (omega arith))))

    pub pen_held_back : (get_or table (195 + i) 0 ≡ 0 → ⊥) → (get_or end followed 0 ≡ get_or table (67 + followed) 0 → ⊥) → get_or end (64 + i) 0 ≡ 0
    pen_held_back high missing =
        by_eqb (get_or end (64 + i) 0) 0 (λ _ e. e) (λ _ e. absurd (missing (p.waits.done i l h follows high (omega arith))))

-- the K of a sheet that is taken, and 11
pub one_loading : (sheet table other : List ℕ) → Taken sheet table → Taken sheet other → get_or table 3 0 ≡ get_or other 3 0
one_loading sheet table other a b = a.loading ∙ sym b.loading

pub within_limit : (sheet table : List ℕ) → Taken sheet table → number_at sheet 0 4 ≤ 16
within_limit sheet table a = omega (arith, a.loads, a.loading)

pub beyond_limit : (sheet table : List ℕ) → TableAuthor sheet 11 table → 16 < number_at sheet 0 4
beyond_limit sheet table a = by-leb (number_at sheet 0 4) 16 (λ _ h. absurd (a.eleven refl h)) (λ _ h. h)

-- the waits of a sheet that is taken, over its figures
pub waits_taken : (sheet table : List ℕ) → Taken sheet table → (i : ℕ) → 1 ≤ i → i ≤ number_at sheet 0 1 → WaitFits sheet i
waits_taken sheet table a i l h =
    let r = a.row i l (omega (arith, a.count)) in
    let w = rw r.follows at r.wait in
    let k = figure_at sheet i 6 in
    let v : 1 ≤ k → RowTaken sheet table k = λ some. a.row k some (omega (arith, w.lower some, a.count)) in
    record {
      lower = w.lower;
      no_later = λ some. omega (arith, w.no_later some, r.release, (v some).release);
      high = λ some n z. w.high some (λ y. n (sym r.level ∙ y)) ((v some).level ∙ z);
    }

-- one row's wait is the first that is refused, and for one reason
module _ (sheet : List ℕ) where
  -- the number that the figures of row i and of the row that it follows give
  abbrev reason : ℕ → ℕ
  reason i = let w = figure_at sheet i 6 in cond (leb i w) 13 (cond (ltb (figure_at sheet i 1) (figure_at sheet w 1)) 14 15)

  record Wrong (number i : ℕ) : Type 0 where
    first : FirstWait sheet i
    beyond : WaitFits sheet i → ⊥
    is : reason i ≡ number

  not_lower : (i : ℕ) → NotLower sheet i → Wrong 13 i
  not_lower i a = record { first = a.0; beyond = λ w. omega (arith, a.1, w.lower a.0.follows); is = rw (le-leb _ _ a.1) }

  released_later : (i : ℕ) → ReleasedLater sheet i → Wrong 14 i
  released_later i a =
      record {
        first = a.0;
        beyond = λ w. omega (arith, a.2, w.no_later a.0.follows);
        is = rw (lt-leb _ _ a.1, lt-ltb _ _ a.2);
      }

  follows_low : (i : ℕ) → FollowsLow sheet i → Wrong 15 i
  follows_low i a =
      record {
        first = a.0;
        beyond = λ w. w.high a.0.follows a.3 a.4;
        is = rw (lt-leb _ _ a.1, le-ltb _ _ a.2);
      }

  one_first : (k m i j : ℕ) → Wrong k i → Wrong m j → i ≡ j
  one_first k m i j a b =
      by-ltb i j
      (λ _ h. absurd (a.beyond (b.first.before i a.first.from h)))
      (λ _ h. by-ltb j i (λ _ g. absurd (b.beyond (a.first.before j b.first.from g))) (λ _ g. omega arith))

  module _ (number : ℕ) (table : List ℕ) (a : TableAuthor sheet number table) (late : 13 ≤ number) where
    wrong : (i : ℕ) × Wrong number i
    wrong =
        by_eqb number 13
        (λ _ e. let x = a.thirteen e in rw e (x.0, not_lower x.0 x.1))
        (λ _ n. by_eqb number 14
        (λ _ e. let x = a.fourteen e in rw e (x.0, released_later x.0 x.1))
        (λ _ m. let e : number ≡ 15 = ⊎_elim (λ h. absurd (omega arith)) (λ h. omega (arith, h.1)) a.known in
        let x = a.fifteen e in
        rw e (x.0, follows_low x.0 x.1)))

  -- so no two of 13, 14 and 15 are said of one sheet
  pub one_wait : (k m : ℕ) (t u : List ℕ) → TableAuthor sheet k t → TableAuthor sheet m u → 13 ≤ k → 13 ≤ m → k ≡ m
  one_wait k m t u a b x y =
      let p = wrong k t a x in
      let q = wrong m u b y in
      sym p.1.is ∙ ap reason (one_first k m p.0 q.0 p.1 q.1) ∙ q.1.is

  -- and a sheet of which one of them is said is not taken, nor refused with 5 or 12
  pub wait_alone : (k m : ℕ) (t u : List ℕ) → TableAuthor sheet k t → TableAuthor sheet m u → 13 ≤ k → (m ≡ 0 → ⊥) × (m ≡ 5 → ⊥) × (m ≡ 12 → ⊥)
  wait_alone k m t u a b x =
      let p = wrong k t a x in
      let f = p.1.first in (
        λ e. p.1.beyond (waits_taken sheet u (b.taken e) p.0 f.from f.up_to),
        λ e. b.five e (λ i l h. (a.after_twelve x i l h).0),
        λ e. b.twelve e (λ i l h. (a.after_twelve x i l h).1),
      )
