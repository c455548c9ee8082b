-- The trials of a place: what the searches among the allowed entries find, and how many trials that makes (rules 23.1, 23.6).
use Rattle.std.specs.Prelude.{ℕ, zero, suc, ◌+◌, ◌-◌, ◌^◌, ◌≤◌, ◌<◌, Bool, true, ◌&&◌, ◌≡◌, refl, length, get_or, take}
use Rattle.std.proofs.Math.Bool.{cond}
use mathlib.Core.List.{List, [], ◌∷◌}
use Rattle.std.proofs.Common.{⊎_elim, subst, ◌∙◌, arith}
use Rattle.std.proofs.Math.Path.{sym, ap}
use Rattle.std.specs.Int.Count.{ones}
use Rattle.rules.specs.declared.Table.{Table}
use Rattle.rules.specs.Lists.{first, count, keep}
use Rattle.rules.specs.Tables.{Accepted}
use Rattle.rules.specs.Choice.{sequence, unfollowed, tried, passes, taker}
use Rattle.ceiling.specs.Ceiling.{up_to_first, trials_at}
use Rattle.theory.specs.Tests.{by_bool, by_eqb, by-ltb}
use Rattle.theory.specs.Counts.{In, Once, in_head, in_entry, first_in, first_passes, count_same}
use Rattle.theory.specs.Facts.{TableFacts, facts}
use Rattle.theory.specs.Waits.{Closed}
use Rattle.theory.proofs.Choosing.{same_sequence, keep_in}
use Rattle.sweep.specs.Holds.{Holds, count_tail, count_keep_le}
use Rattle.sweep.specs.Masks.{bit, is_left}
use Rattle.trials.specs.Lines.{At, place_of, keep_both}
use Rattle.trials.specs.Prepared.{at_level, left_of, sequence_once, sequence_zero, every_length}
use Rattle.trials.specs.Allowed.{below, below_more, below_rises, below_ends, below_all, below_keep, FirstOf, first_below, first_within}
use Rattle.trials.specs.Taking.{Unplaced, Opened, Taken, tries_bit, tries_end, sequence_entry, Allowed, of_allowed, low_test, high_test, allowed_low, allowed_high, allowed_none}

-- the rows of a list up to the first that passes

take_all : (l : List ℕ) → take (length l) l ≡ l
take_all [] = refl
take_all (x ∷ l) = ap (λ (r : List ℕ). x ∷ r) (take_all l)

-- where none passes, all of them
up_to_none : (p : ℕ → Bool) (l : List ℕ) → count 0 l ≡ 0 → first p l ≡ 0 → up_to_first p l ≡ length l
up_to_none p [] z h = refl
up_to_none p (x ∷ l) z h =
    by_bool (p x)
    (λ e. let q : x ≡ 0 = rw e at h in absurd (omega (arith, subst (λ (y : ℕ). In y (x ∷ l)) q (in_head x l))))
    (λ e. rw e (ap suc (up_to_none p l (omega (arith, count_tail 0 x l)) (rw e at h))))

-- else those up to its place
module _ (p q : ℕ → Bool) where
  -- the first of a list that passes stands in it
  first_stands : (l : List ℕ) (x : ℕ) → (x ≡ 0 → ⊥) → first p (keep q l) ≡ x → In x l
  first_stands l x n e = (keep_in q l x (subst (λ (y : ℕ). In y (keep q l)) e (first_in p (keep q l) (λ z. n (sym e ∙ z))))).0

  up_to_found : (l : List ℕ) → Once l → count 0 l ≡ 0 → (k : ℕ) → k < length l → first p (keep q l) ≡ get_or l k 0
      → up_to_first p (keep q l) ≡ length (keep q (take (suc k) l))
  up_to_found [] o z k h e = absurd (omega arith)
  up_to_found (x ∷ l) o z k h e =
      let again = up_to_found l (λ y. omega (arith, o y, count_tail y x l)) (omega (arith, count_tail 0 x l)) in
      by_bool (q x)
      (λ f. by_bool (p x) (λ g. rw (f, g) (passing f g k h e)) (λ g. rw (f, g) (ap suc (later again k h (rw (f, g) at e)))))
      (λ f. rw f (later again k h (rw f at e)))
    where
      nonzero : x ≡ 0 → ⊥
      nonzero y = omega (arith, subst (λ (i : ℕ). In i (x ∷ l)) y (in_head x l))

      once : In x l → ⊥
      once i = omega (arith, o x, count_same x l)

      passing : q x ≡ true → p x ≡ true → (k : ℕ) → k < length (x ∷ l) → first p (keep q (x ∷ l)) ≡ get_or (x ∷ l) k 0 → 1 ≡ suc (length (keep q (take k l)))
      passing f g zero h e = refl
      passing f g (suc k) h e = absurd (once (subst (λ (i : ℕ). In i l) (sym (rw (f, g) at e)) (in_entry l k (omega arith))))

      later : ((k : ℕ) → k < length l → first p (keep q l) ≡ get_or l k 0 → up_to_first p (keep q l) ≡ length (keep q (take (suc k) l)))
          → (k : ℕ) → k < length (x ∷ l) → first p (keep q l) ≡ get_or (x ∷ l) k 0 → up_to_first p (keep q l) ≡ length (keep q (take k l))
      later again zero h e = absurd (once (first_stands l x nonzero e))
      later again (suc k) h e = again k (omega arith) e

-- What the searches of a place come to where `most` trials are allowed: v has the allowed entries of those that are tried, and e is the entry found, from 1, or 0.
pub record FirstAllowed (t : Table) (left unplaced tries most v e : ℕ) : Type 0 where
  -- the entry found has the row that takes the place, and up to it are the trials made
  pub taken : (e ≡ 0 → ⊥) → Taken t left unplaced e
  pub made : (e ≡ 0 → ⊥) → trials_at t (left_of t left) ≡ below v e
  -- where all that are tried are allowed and none is found, no row takes the place, and all of them are trials
  pub stuck : e ≡ 0 → v ≡ tries → (taker t (left_of t left) ≡ 0) × (trials_at t (left_of t left) ≡ ones v)
  -- where some are not allowed and none is found, the place takes more trials than are allowed
  pub over : e ≡ 0 → (v ≡ tries → ⊥) → most < trials_at t (left_of t left)

module _ (t : Table) (accepted : Accepted t) (left : ℕ) (holds : Holds left (left_of t left)) (closed : Closed t (left_of t left)) (unplaced : ℕ) (w : Unplaced t left unplaced)
    (tries : ℕ) (o : Opened t left unplaced tries) where
  f : TableFacts t
  f = facts t accepted

  sequence_long : length (sequence t) ≡ t.n
  sequence_long = every_length t f (sequence t) (same_sequence t)

  -- left, and followed by no row left
  abbrev live : ℕ → Bool
  live x = is_left left x && unfollowed t (left_of t left) x

  tried_are : tried t (left_of t left) ≡ keep live (sequence t)
  tried_are = keep_both (unfollowed t (left_of t left)) (is_left left) (sequence t)

  -- the trials where the row at entry k takes the place
  trials_found : (k : ℕ) → k < t.n → get_or (sequence t) k 0 ≡ taker t (left_of t left) → trials_at t (left_of t left) ≡ length (keep live (take (suc k) (sequence t)))
  unfolding trials_at taker
  trials_found k h e =
      let p = passes t (left_of t left) in
      let n = sequence_long in
      ap (up_to_first p) tried_are
      ∙ up_to_found p live (sequence t) (sequence_once t) (sequence_zero t) k (omega arith) (ap (first p) (sym tried_are) ∙ sym e)

  -- those of a word with the entries that are tried, up to entry k
  entries_below : (v k : ℕ) → k ≤ t.n → ((x : ℕ) → x < k → bit v x ≡ bit tries x) → below v k ≡ length (keep live (take k (sequence t)))
  entries_below v k h b =
      let n = sequence_long in
      below_keep live (sequence t) v k (omega arith) (λ x l. b x l ∙ tries_bit t accepted left holds closed unplaced w tries o x (omega arith))

  module _ (small : tries < 2 ^ 64) where
    -- all entries that are tried, and all of them trials where no row takes the place
    tries_all : ones tries ≡ length (keep live (sequence t))
    tries_all =
        let n = sequence_long in
        let z : t.n + (64 - t.n) ≡ 64 = omega (arith, f.few) in
        let whole : take t.n (sequence t) ≡ sequence t = ap (λ (k : ℕ). take k (sequence t)) (sym n) ∙ take_all (sequence t) in
        sym (below_all tries 64 small) ∙ ap (below tries) (sym z)
        ∙ below_ends tries t.n (64 - t.n) (tries_end t accepted left holds closed unplaced w tries o)
        ∙ entries_below tries t.n (omega arith) (λ x _. refl)
        ∙ ap (λ (l : List ℕ). length (keep live l)) whole

    trials_stuck : taker t (left_of t left) ≡ 0 → trials_at t (left_of t left) ≡ ones tries
    unfolding trials_at taker
    trials_stuck e =
        let p = passes t (left_of t left) in
        ap (up_to_first p) tried_are
        ∙ up_to_none p (keep live (sequence t)) (omega (arith, count_keep_le live 0 (sequence t), sequence_zero t)) (ap (first p) (sym tried_are) ∙ e)
        ∙ sym tries_all

    module _ (most v : ℕ) (a : FirstOf tries most v) where
      -- the first allowed entry of a LO row that passes, and that of a HI row
      abbrev LowSearch : ℕ → Type 0
      LowSearch = Allowed t accepted left holds closed unplaced w tries o most v a 0 (low_test t accepted left holds closed unplaced w tries o)

      abbrev HighSearch : ℕ → Type 0
      HighSearch = Allowed t accepted left holds closed unplaced w tries o most v a 1 (high_test t accepted left holds closed unplaced w tries o)

      -- trials up to an entry that is allowed
      trials_made : (e : ℕ) → 1 ≤ e → bit v (e - 1) ≡ 1 → Taken t left unplaced e → trials_at t (left_of t left) ≡ below v e
      trials_made e some b k =
          let r = k.found (λ z. omega arith) in
          let bound = first_within tries most v a (e - 1) b in
          let z : suc (e - 1) ≡ e = omega arith in
          trials_found (e - 1) (omega (arith, r.1)) (sym (sequence_entry t accepted (e - 1) (omega (arith, r.1))) ∙ r.3)
          ∙ ap (λ (j : ℕ). length (keep live (take j (sequence t)))) z
          ∙ sym (entries_below v e r.1 (λ x l. first_below tries most v a x (omega arith)))

      -- no row with an allowed entry takes the place: it is stuck, or takes more trials than are allowed
      module _ (low : LowSearch 0)
          (high : HighSearch 0) where
        -- the row that takes the place, if one does, has an entry that is not allowed
        beyond : (n : taker t (left_of t left) ≡ 0 → ⊥) → At (sequence t) (taker t (left_of t left))
        unfolding taker
        beyond n =
            place_of (sequence t) (taker t (left_of t left))
            (keep_in live (sequence t) (taker t (left_of t left)) (subst (λ (l : List ℕ). In (taker t (left_of t left)) l) tried_are
            (first_in (passes t (left_of t left)) (tried t (left_of t left)) n))).0

        place_live : (n : taker t (left_of t left) ≡ 0 → ⊥) → bit tries (beyond n).place ≡ 1
        unfolding taker
        place_live n =
            let r = beyond n in
            let l = sequence_long in
            let i = (keep_in live (sequence t) (taker t (left_of t left)) (subst (λ (l : List ℕ). In (taker t (left_of t left)) l) tried_are
            (first_in (passes t (left_of t left)) (tried t (left_of t left)) n))).1 in
            tries_bit t accepted left holds closed unplaced w tries o r.place (omega (arith, r.within))
            ∙ ap {B = ℕ} (λ (c : Bool). cond c 1 0) (ap live r.is ∙ i)

        place_passes : (n : taker t (left_of t left) ≡ 0 → ⊥) → passes t (left_of t left) (get_or (sequence t) (beyond n).place 0) ≡ true
        unfolding taker
        place_passes n = ap (passes t (left_of t left)) (beyond n).is ∙ first_passes (passes t (left_of t left)) (tried t (left_of t left)) n

        not_allowed : (n : taker t (left_of t left) ≡ 0 → ⊥) → a.bound ≤ (beyond n).place
        not_allowed n =
            let r = beyond n in
            let l = sequence_long in
            by-ltb r.place a.bound
            (λ _ h. let b = first_below tries most v a r.place h ∙ place_live n in
            let g = allowed_none t accepted left holds closed unplaced w tries o most v a low high r.place (omega (arith, r.within)) b in
            let y = place_passes n in
            let z : ◌≡◌ {A = ℕ} 0 1 = cc in absurd (omega arith))
            (λ _ h. h)

        none_stuck : v ≡ tries → (taker t (left_of t left) ≡ 0) × (trials_at t (left_of t left) ≡ ones v)
        none_stuck e =
            let no-taker : taker t (left_of t left) ≡ 0 = by_eqb (taker t (left_of t left)) 0 (λ _ z. z)
            (λ _ n. absurd (omega (arith, not_allowed n, first_within tries most v a (beyond n).place (ap (λ (m : ℕ). bit m (beyond n).place) e ∙ place_live n)))) in
            (no-taker, trials_stuck no-taker ∙ ap ones (sym e))

        none_over : (v ≡ tries → ⊥) → most < trials_at t (left_of t left)
        none_over n = ⊎_elim (λ e. absurd (n e)) (λ m. more m.0 m.1) a.whole
          where
            more : ones v ≡ most → most < ones tries → most < trials_at t (left_of t left)
            more e l =
                by_eqb (taker t (left_of t left)) 0
                (λ _ z. omega (arith, trials_stuck z))
                (λ _ m.
                let r = beyond m in
                let g = not_allowed m in
                let long = sequence_long in
                let k : a.bound + (r.place - a.bound) ≡ r.place = omega arith in
                omega (
                  arith,
                  trials_found r.place (omega (arith, r.within)) r.is,
                  entries_below tries (suc r.place) (omega (arith, r.within)) (λ x _. refl),
                  below_more tries r.place,
                  place_live m,
                  below_rises tries a.bound (r.place - a.bound),
                  ap (below tries) k,
                  ap ones a.part,
                ))

      -- the two ways through a place: a LO row is found
      pub searched_low : (e : ℕ) → LowSearch e
          → (e ≡ 0 → ⊥) → FirstAllowed t left unplaced tries most v e
      searched_low e k n =
          let taken = allowed_low t accepted left holds closed unplaced w tries o most v a e k n in
          let r = k.found n in
          record {
            taken = λ _. taken;
            made = λ _. trials_made e r.some (of_allowed t accepted left holds closed unplaced w tries o most v a (at_level t 0) (e - 1) r.inside).0 taken;
            stuck = λ z. absurd (n z);
            over = λ z. absurd (n z);
          }

      -- none is, and a HI row is looked for
      pub searched_high : (d e : ℕ) → LowSearch d
          → d ≡ 0 → HighSearch e
          → FirstAllowed t left unplaced tries most v e
      searched_high d e k z l =
          record {
            taken = λ n. allowed_high t accepted left holds closed unplaced w tries o most v a d e k z l n;
            made = λ n. let r = l.found n in
                trials_made e r.some (of_allowed t accepted left holds closed unplaced w tries o most v a (at_level t 1) (e - 1) r.inside).0
                (allowed_high t accepted left holds closed unplaced w tries o most v a d e k z l n);
            stuck = λ y. none_stuck (subst LowSearch z k) (subst HighSearch y l);
            over = λ y. none_over (subst LowSearch z k) (subst HighSearch y l);
          }
