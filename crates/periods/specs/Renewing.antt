-- The sweep over one busy period: what stands between two turns, what each turn does, and what is known at the end.
use Rattle.std.specs.Prelude.{ℕ, suc, ◌+◌, ◌-◌, ◌≤◌, ◌<◌, max, Bool, true, false, ◌≡◌, refl, ◌⊎◌, List, length, set}
use Rattle.std.proofs.Common.{sym, ap, subst, ◌∙◌, inl, inr, ⊎_elim, arith, length-set, get_or-set_same, get_or-set_other}
use Rattle.std.specs.Int.Bits.{bit_or}
use Rattle.rules.specs.Rows.{at}
use Rattle.theory.specs.Tests.{by_bool, by-ltb, by_eqb, not_both}
use Rattle.sweep.specs.Masks.{bit, zero_bit}
use Rattle.periods.specs.Marks.{or_left, or_right, by-or}
use Rattle.periods.specs.Entries.{timely, timely_sound, timely_whole}
use Rattle.periods.specs.Busy.{row, LeftAt, busy_to, from, finish, from_end, from_busy, from_free, from_skip, stops}
use Rattle.periods.specs.Busy.{busy_row, busy_skip, busy_over, reach}
use Rattle.periods.specs.Periods.{Queue, Groups}

module _ (rel cap due entry : ℕ → ℕ) (live : ℕ → Bool) (q : List ℕ) where
  -- rows left of the old busy period, which began at place p, that stand before place k
  abbrev pub Swept : ℕ → ℕ → ℕ → Type 0
  Swept p k i = LeftAt live q i × (p ≤ i) × (i < k)

  -- the row at place i is in time
  abbrev pub Meets : ℕ → Type 0
  Meets i = finish rel cap live q i ≤ due (row q i)

  -- before the turn at place k: the busy time ends at b and is that of a busy period which begins at place first
  pub record Renewing (old : List ℕ) (p : ℕ) (period : List ℕ) (passing k first b : ℕ) : Type 0 where
    pub after : p ≤ k
    pub range : (p ≤ first) × (first ≤ k)
    pub theirs : (i : ℕ) → Swept p k i → at old (row q i) ≡ p
    pub kept_after : (i : ℕ) → LeftAt live q i → k ≤ i → at period (row q i) ≡ at old (row q i)
    pub kept_before : (i : ℕ) → LeftAt live q i → i < p → at period (row q i) ≡ at old (row q i)
    pub low : (i : ℕ) → Swept p k i → (p ≤ at period (row q i)) × (at period (row q i) ≤ i)
    pub one : (i j : ℕ) → Swept p k i → LeftAt live q j → at period (row q i) ≤ j → j ≤ i → at period (row q j) ≡ at period (row q i)
    pub group : (i : ℕ) → Swept p k i → first ≤ i → at period (row q i) ≡ first
    pub free : (i : ℕ) → Swept p k i → busy_to rel cap live q (at period (row q i)) ≤ rel (row q i)
    pub clean : 1 ≤ b → (i : ℕ) → LeftAt live q i → first ≤ i → busy_to rel cap live q first ≤ rel (row q i)
    pub busy : 1 ≤ b → b ≡ busy_to rel cap live q k
    pub fresh : b ≡ 0 → (i : ℕ) → LeftAt live q i → k ≤ i → at old (row q i) ≡ p → busy_to rel cap live q k ≤ rel (row q i)
    pub going : (i : ℕ) → Swept p k i → at period (row q i) ≡ first
        → (finish rel cap live q i ≡ from rel cap live q (rel (row q i)) b k) × (rel (row q i) < b)
    pub done : (i : ℕ) → Swept p k i → (at period (row q i) ≡ first → ⊥) → Meets i → bit passing (entry (row q i)) ≡ 1
    pub sound : (i : ℕ) → LeftAt live q i → bit passing (entry (row q i)) ≡ 1 → Meets i
    pub wide : length period ≡ 64

  module _ (queue : Queue rel cap entry q) (old : List ℕ) (known : Groups rel cap live q old) (p : ℕ) where
    -- at first nothing is swept
    pub renewing_start : Renewing old p old 0 p p 0
    renewing_start =
        record {
          after = omega arith;
          range = (omega arith, omega arith);
          theirs = λ i s. absurd (omega (arith, s.1, s.2));
          kept_after = λ i v h. refl;
          kept_before = λ i v h. refl;
          low = λ i s. absurd (omega (arith, s.1, s.2));
          one = λ i j s v h l. absurd (omega (arith, s.1, s.2));
          group = λ i s h. absurd (omega (arith, s.1, s.2));
          free = λ i s. absurd (omega (arith, s.1, s.2));
          clean = λ h. absurd (omega arith);
          busy = λ h. absurd (omega arith);
          fresh = λ z i v h e. omega (arith, known.free i v, ap (busy_to rel cap live q) e);
          going = λ i s n. absurd (omega (arith, s.1, s.2));
          done = λ i s n. absurd (omega (arith, s.1, s.2));
          sound = λ i v e. absurd (omega (arith, zero_bit (entry (row q i))));
          wide = known.wide;
        }

    module _ (period : List ℕ) (passing k first b : ℕ) (r : Renewing old p period passing k first b) where
      -- the trials of the rows of the busy period that ends at b
      abbrev told : ℕ
      told = timely live due entry b q first k

      -- where those rows finish at b, the word with their entries is sound
      told_sound : ((i : ℕ) → Swept p k i → at period (row q i) ≡ first → finish rel cap live q i ≡ b) → k ≤ length q → (i : ℕ) → LeftAt live q i
          → bit (bit_or passing told) (entry (row q i)) ≡ 1 → Meets i
      told_sound f l i v e =
          by-or passing told (entry (row q i)) e
          (λ x. r.sound i v x)
          (λ x. let t = timely_sound live due entry b q first k (entry (row q i)) x in
          let w : LeftAt live q t.place = (omega (arith, t.range.1), t.left) in
          let s : Swept p k t.place = (w, omega (arith, r.range.0, t.range.0), t.range.1) in
          let z : i ≡ t.place = queue.single i t.place v.0 w.0 (sym t.is) in
          subst Meets (sym z) (omega (arith, f t.place s (r.group t.place s t.range.0), t.meets)))

      -- and has those of all rows swept that are in time
      told_whole : ((i : ℕ) → Swept p k i → at period (row q i) ≡ first → finish rel cap live q i ≡ b) → (i : ℕ) → Swept p k i → Meets i
          → bit (bit_or passing told) (entry (row q i)) ≡ 1
      told_whole f i s m =
          by_eqb (at period (row q i)) first
          (λ _ z. or_right passing told (entry (row q i))
          (timely_whole live due entry b q first k i (omega (arith, (r.low i s).1)) s.2 s.0.1 (omega (arith, f i s z))))
          (λ _ z. or_left passing told (entry (row q i)) (r.done i s z m))

      module _ (inside : k < length q) where
        -- a place whose row is not left is passed
        pub renewing_skip : live (row q k) ≡ false → Renewing old p period passing (suc k) first b
        renewing_skip e =
            let back : (i : ℕ) → Swept p (suc k) i → Swept p k i = λ i s. (
              s.0,
              s.1,
              by-ltb i k (λ _ l. l) (λ _ l.
                  let z : i ≡ k = omega (arith, s.2) in
                  absurd (not_both (live (row q i)) s.0.1 (ap (λ (j : ℕ). live (row q j)) z ∙ e))),
            ) in
            record {
              after = omega (arith, r.after);
              range = (r.range.0, omega (arith, r.range.1));
              theirs = λ i s. r.theirs i (back i s);
              kept_after = λ i v h. r.kept_after i v (omega arith);
              kept_before = r.kept_before;
              low = λ i s. r.low i (back i s);
              one = λ i j s v h l. r.one i j (back i s) v h l;
              group = λ i s h. r.group i (back i s) h;
              free = λ i s. r.free i (back i s);
              clean = r.clean;
              busy = λ h. r.busy h ∙ sym (busy_skip rel cap live q k e);
              fresh = λ z i v h o. omega (arith, busy_skip rel cap live q k e, r.fresh z i v (omega arith) o);
              going = λ i s n. let o = r.going i (back i s) n in (o.0 ∙ from_skip rel cap live q (rel (row q i)) b k inside e, o.1);
              done = λ i s n m. r.done i (back i s) n m;
              sound = r.sound;
              wide = r.wide;
            }

        -- a row of the old busy period is run
        module _ (e : live (row q k) ≡ true) (own : at old (row q k) ≡ p) where
          abbrev w : LeftAt live q k
          w = (inside, e)

          abbrev ends : ℕ
          ends = max b (rel (row q k)) + cap (row q k)

          same_start : max b (rel (row q k)) ≡ max (busy_to rel cap live q k) (rel (row q k))
          same_start =
              by_eqb b 0
              (λ _ z. omega (arith, r.fresh z k w (omega arith) own))
              (λ _ z. omega (arith, r.busy (omega (arith, z))))

          ends_are : ends ≡ busy_to rel cap live q (suc k)
          ends_are = ap (λ (x : ℕ). x + cap (row q k)) same_start ∙ sym (busy_row rel cap live q k e)

          -- the place at which the row's busy period begins, and what is known of the rows swept before it
          record Joins (word next : ℕ) : Type 0 where
            range : (p ≤ next) × (next ≤ k)
            group : (i : ℕ) → Swept p k i → next ≤ i → at period (row q i) ≡ next
            clean : (i : ℕ) → LeftAt live q i → next ≤ i → busy_to rel cap live q next ≤ rel (row q i)
            going : (i : ℕ) → Swept p k i → at period (row q i) ≡ next
                → (finish rel cap live q i ≡ from rel cap live q (rel (row q i)) ends (suc k)) × (rel (row q i) < ends)
            done : (i : ℕ) → Swept p k i → (at period (row q i) ≡ next → ⊥) → Meets i → bit word (entry (row q i)) ≡ 1
            sound : (i : ℕ) → LeftAt live q i → bit word (entry (row q i)) ≡ 1 → Meets i

          -- it finds the processor free: the busy period before it is over, and one begins here
          begins : b ≤ rel (row q k) → Joins (bit_or passing told) k
          begins h =
              let over : (i : ℕ) → Swept p k i → at period (row q i) ≡ first → finish rel cap live q i ≡ b = λ i s z.
              let o = r.going i s z in
              o.0 ∙ from_free rel cap live q (rel (row q i)) b k w (omega (arith, o.1)) h in
              record {
                range = (r.after, omega arith);
                group = λ i s l. absurd (omega (arith, s.2));
                clean = λ i v l. omega (arith, same_start, queue.rising k i l v.0);
                going = λ i s z. absurd (omega (arith, (r.low i s).1, s.2));
                done = λ i s n m. told_whole over i s m;
                sound = told_sound over (omega arith);
              }

          -- it finds the processor busy: it joins the busy period
          joins : rel (row q k) < b → Joins passing first
          joins h =
              record {
                range = r.range;
                group = r.group;
                clean = r.clean (omega arith);
                going = λ i s z. let o = r.going i s z in (o.0 ∙ from_busy rel cap live q (rel (row q i)) b k w h, omega (arith, o.1));
                done = r.done;
                sound = r.sound;
              }

          module _ (word next : ℕ) (j : Joins word next) where
            abbrev marked : List ℕ
            marked = set period (row q k - 1) next

            mine : at marked (row q k) ≡ next
            mine = get_or-set_same period (row q k - 1) next 0 (omega (arith, queue.range k inside, r.wide))

            other : (i : ℕ) → i < length q → (i ≡ k → ⊥) → at marked (row q i) ≡ at period (row q i)
            other i l n = get_or-set_other period (row q k - 1) (row q i - 1) next 0 (queue.apart i k l inside n)

            -- the row at place k, or one swept before it
            by_last {ℓ} : (P : ℕ → Type ℓ) (i : ℕ) → Swept p (suc k) i → P k → (Swept p k i → at marked (row q i) ≡ at period (row q i) → P i) → P i
            by_last P i s f g =
                by_eqb i k
                (λ _ z. subst P (sym z) f)
                (λ _ z. g (s.0, s.1, omega (arith, s.2)) (other i s.0.0 z))

            run : Renewing old p marked word (suc k) next ends
            run =
                let busy = busy_to rel cap live q in
                record {
                  after = omega (arith, r.after);
                  range = (j.range.0, omega (arith, j.range.1));
                  theirs = λ i s. by_last (λ (i : ℕ). at old (row q i) ≡ p) i s own (λ t _. r.theirs i t);
                  kept_after = λ i v h. other i v.0 (λ z. omega arith) ∙ r.kept_after i v (omega arith);
                  kept_before = λ i v h. other i v.0 (λ z. omega (arith, r.after)) ∙ r.kept_before i v h;
                  low = λ i s. by_last (λ (i : ℕ). (p ≤ at marked (row q i)) × (at marked (row q i) ≤ i)) i s
                      (omega (arith, mine, j.range.0), omega (arith, mine, j.range.1))
                      (λ t z. (omega (arith, z, (r.low i t).0), omega (arith, z, (r.low i t).1)));
                  one = λ i x s v h l. by_last (λ (i : ℕ). at marked (row q i) ≤ x → x ≤ i → at marked (row q x) ≡ at marked (row q i)) i s
                      (λ h l. by_eqb x k
                      (λ _ z. ap (λ (y : ℕ). at marked (row q y)) z)
                      (λ _ z. other x v.0 z ∙ j.group x (v, omega (arith, mine, j.range.0), omega arith) (omega (arith, mine)) ∙ sym mine))
                      (λ t z h l. other x v.0 (λ y. omega (arith, t.2)) ∙ r.one i x t v (omega (arith, z)) l ∙ sym z)
                      h l;
                  group = λ i s l. by_last (λ (i : ℕ). next ≤ i → at marked (row q i) ≡ next) i s (λ l. mine) (λ t z l. z ∙ j.group i t l) l;
                  free = λ i s. by_last (λ (i : ℕ). busy (at marked (row q i)) ≤ rel (row q i)) i s
                      (omega (arith, ap busy mine, j.clean k w j.range.1))
                      (λ t z. omega (arith, ap busy z, r.free i t));
                  clean = λ _. j.clean;
                  busy = λ _. ends_are;
                  fresh = λ z. absurd (omega (arith, queue.runs k inside));
                  going = λ i s n. by_last
                      (λ (i : ℕ). at marked (row q i) ≡ next
                      → (finish rel cap live q i ≡ from rel cap live q (rel (row q i)) ends (suc k)) × (rel (row q i) < ends)) i s
                      (λ _. (
                        reach rel cap live q queue.rising k (suc k) inside (omega arith)
                            ∙ ap (λ (x : ℕ). from rel cap live q (rel (row q k)) x (suc k)) (sym ends_are),
                        omega (arith, queue.runs k inside),
                      ))
                      (λ t z n. j.going i t (sym z ∙ n))
                      n;
                  done = λ i s n m. by_last (λ (i : ℕ). (at marked (row q i) ≡ next → ⊥) → Meets i → bit word (entry (row q i)) ≡ 1) i s
                      (λ n m. absurd (n mine))
                      (λ t z n m. j.done i t (λ y. n (z ∙ y)) m)
                      n m;
                  sound = j.sound;
                  wide = length-set period (row q k - 1) next ∙ r.wide;
                }

          -- the turn: what the code does where it finds the processor free, and where not
          pub renewing_begins : b ≤ rel (row q k) → Renewing old p (set period (row q k - 1) k) (bit_or passing told) (suc k) k ends
          renewing_begins h = run (bit_or passing told) k (begins h)

          pub renewing_joins : rel (row q k) < b → Renewing old p (set period (row q k - 1) first) passing (suc k) first ends
          renewing_joins h = run passing first (joins h)

      -- the end: the rows are passed, or the next one is of another busy period
      module _ (upto : k ≤ length q) (end : (length q ≤ k) ⊎ (LeftAt live q k × (at old (row q k) ≡ p → ⊥))) where
        past : (i : ℕ) → LeftAt live q i → k ≤ i → at old (row q i) ≡ p → ⊥
        past i v h z =
            ⊎_elim
            (λ l. omega (arith, v.0))
            (λ x. x.1 (known.one i k v x.0 (omega (arith, r.after)) h ∙ z))
            end

        -- the next row finds the processor free
        over : (i : ℕ) → Swept p k i → 1 ≤ b → LeftAt live q k → (at old (row q k) ≡ p → ⊥) → b ≤ rel (row q k)
        over i s some w n =
            let y = at old (row q k) in
            let none : (j : ℕ) → y ≤ j → j < k → live (row q j) ≡ false = λ j h l.
            by_bool (live (row q j))
            (λ e. let v : LeftAt live q j = (omega (arith, w.0), e) in
            absurd (by-ltb j p
            (λ _ m. n (sym (known.one k i w s.0 (omega (arith, s.1)) (omega (arith, s.2))) ∙ r.theirs i s))
            (λ _ m. n (sym (known.one k j w v h (omega arith)) ∙ r.theirs j (v, m, l)))))
            (λ e. e) in
            omega (
              arith,
              known.free k w,
              busy_over rel cap live q (k - y) y k (omega (arith, known.low k w)) none,
              r.busy some,
            )

        -- the rows of the last busy period finish where its busy time ends
        settled : (i : ℕ) → Swept p k i → at period (row q i) ≡ first → finish rel cap live q i ≡ b
        settled i s z =
            let o = r.going i s z in
            o.0 ∙ ⊎_elim
            (λ l. from_end rel cap live q (rel (row q i)) b k l)
            (λ x. let f = over i s (omega (arith, o.1)) x.0 x.1 in
            stops rel cap live q (length q) (rel (row q i)) b k (omega arith)
            (λ j h v. let m = queue.rising k j h v.0 in (omega (arith, o.1), omega arith)))
            end

        -- a row before the old busy period, of it, or after it
        by_part {ℓ} : {P : Type ℓ} (i : ℕ) → LeftAt live q i → (i < p → P) → (Swept p k i → P) → (k ≤ i → P) → P
        by_part i v f g h = by-ltb i p (λ _ l. f l) (λ _ l. by-ltb i k (λ _ m. g (v, l, m)) (λ _ m. h m))

        -- rows of other busy periods stay with theirs
        untouched : (i : ℕ) → LeftAt live q i → (i < p) ⊎ (k ≤ i) → (at period (row q i) ≡ at old (row q i)) × (at old (row q i) ≡ p → ⊥)
        untouched i v side = (
          ⊎_elim (λ l. r.kept_before i v l) (λ l. r.kept_after i v l) side,
          λ e. ⊎_elim (λ l. omega (arith, known.low i v)) (λ l. past i v l e) side,
        )

        pub renewed_groups : Groups rel cap live q period
        renewed_groups =
            let busy = busy_to rel cap live q in
            record {
              low = λ i v. by_part i v
                  (λ l. omega (arith, (untouched i v (inl l)).0, known.low i v))
                  (λ s. (r.low i s).1)
                  (λ l. omega (arith, (untouched i v (inr l)).0, known.low i v));
              one = λ i j v w h l. by_part i v
                  (λ m. (untouched j w (inl (omega arith))).0 ∙ known.one i j v w (omega (arith, (untouched i v (inl m)).0)) l ∙ sym (untouched i v (inl m)).0)
                  (λ s. r.one i j s w h l)
                  (λ m. let z = (untouched i v (inr m)).0 in
                  let o = known.one i j v w (omega arith) l in
                  by_part j w
                  (λ n. (untouched j w (inl n)).0 ∙ o ∙ sym z)
                  (λ s. absurd (past i v m (sym o ∙ r.theirs j s)))
                  (λ n. (untouched j w (inr n)).0 ∙ o ∙ sym z));
              free = λ i v. by_part i v
                  (λ l. omega (arith, ap busy (untouched i v (inl l)).0, known.free i v))
                  (λ s. r.free i s)
                  (λ l. omega (arith, ap busy (untouched i v (inr l)).0, known.free i v));
              wide = r.wide;
            }

        -- what the word says of every row, and of each row whether it stayed or was swept
        pub renewed_sound : (i : ℕ) → LeftAt live q i → bit (bit_or passing told) (entry (row q i)) ≡ 1 → Meets i
        renewed_sound = told_sound settled upto

        pub renewed_whole : (i : ℕ) → LeftAt live q i
            → (Meets i → bit (bit_or passing told) (entry (row q i)) ≡ 1) ⊎ ((at period (row q i) ≡ at old (row q i)) × (at old (row q i) ≡ p → ⊥))
        renewed_whole i v =
            by_part i v
            (λ l. inr (untouched i v (inl l)))
            (λ s. inl (told_whole settled i s))
            (λ l. inr (untouched i v (inr l)))
