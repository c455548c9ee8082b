-- The sweep over the rows left, place by place of the queue: where it stands and where it stops.
use Rattle.std.specs.Prelude.{ℕ, zero, suc, ◌+◌, ◌-◌, ◌≤◌, ◌<◌, max, Bool, true, false, cond, ◌&&◌, ◌≡◌, refl, List, ltb, leb, length, get_or, drop}
use Rattle.std.proofs.Common.{sym, ap, ◌∙◌, arith, drop_of_length-le, drop-cons, lt-ltb, le-ltb, le-leb}
use Rattle.std.proofs.lemmas.Bool.{lt-leb}
use Rattle.rules.specs.Lists.{keep}
use Rattle.theory.specs.Tests.{by_bool, by-ltb}
use Rattle.theory.specs.Sweep.{sweep}

-- the row at place k of the queue
abbrev pub row : List ℕ → ℕ → ℕ
row q k = get_or q k 0

-- place k of the queue has a row that is left
abbrev pub LeftAt : (ℕ → Bool) → List ℕ → ℕ → Type 0
LeftAt live q k = (k < length q) × (live (row q k) ≡ true)

-- releases rise along the queue
abbrev pub Rising : (ℕ → ℕ) → List ℕ → Type 0
Rising rel q = (i j : ℕ) → i ≤ j → j < length q → rel (row q i) ≤ rel (row q j)

module _ (rel cap : ℕ → ℕ) where
  -- the end of the busy time, in slots, after the rows left at the first k places
  abbrev pub busy_to : (ℕ → Bool) → List ℕ → ℕ → ℕ
  busy_to live q zero = 0
  busy_to live q (suc k) = cond (live (row q k)) (max (busy_to live q k) (rel (row q k)) + cap (row q k)) (busy_to live q k)

  -- the sweep for a row released at a, from place k on with a busy time that ends at b
  abbrev pub from : (ℕ → Bool) → List ℕ → ℕ → ℕ → ℕ → ℕ
  from live q a b k = sweep rel cap a b (keep live (drop k q))

  -- the finish of the row at place k
  abbrev pub finish : (ℕ → Bool) → List ℕ → ℕ → ℕ
  finish live q k = from live q (rel (row q k)) 0 0

  module _ (live : ℕ → Bool) (q : List ℕ) where
    pub from_end : (a b k : ℕ) → length q ≤ k → from live q a b k ≡ b
    from_end a b k h = rw (drop_of_length-le q {i = k} h)

    pub from_skip : (a b k : ℕ) → k < length q → live (row q k) ≡ false → from live q a b k ≡ from live q a b (suc k)
    from_skip a b k h e = rw (drop-cons q k 0 h, e)

    pub from_row : (a b k : ℕ) → LeftAt live q k
        → from live q a b k
        ≡ cond (ltb a (rel (row q k)) && leb b (rel (row q k))) b (from live q a (max b (rel (row q k)) + cap (row q k)) (suc k))
    from_row a b k w = rw (drop-cons q k 0 w.0, w.1)

    -- a row released by a does not stop the sweep
    pub from_early : (a b k : ℕ) → LeftAt live q k → rel (row q k) ≤ a → from live q a b k ≡ from live q a (max b (rel (row q k)) + cap (row q k)) (suc k)
    from_early a b k w h = from_row a b k w ∙ rw (le-ltb a (rel (row q k)) h)

    -- a row that finds the processor busy does not either
    pub from_busy : (a b k : ℕ) → LeftAt live q k → rel (row q k) < b → from live q a b k ≡ from live q a (max b (rel (row q k)) + cap (row q k)) (suc k)
    from_busy a b k w h =
        from_row a b k w
        ∙ by_bool (ltb a (rel (row q k)))
        (λ e. rw (e, lt-leb b (rel (row q k)) h))
        (λ e. rw e)

    -- a later row that finds it free does
    pub from_free : (a b k : ℕ) → LeftAt live q k → a < rel (row q k) → b ≤ rel (row q k) → from live q a b k ≡ b
    from_free a b k w p h = from_row a b k w ∙ rw (lt-ltb a (rel (row q k)) p, le-leb b (rel (row q k)) h)

    -- the sweep stops at once where all rows from here on are later and find the processor free
    pub stops : (d a b k : ℕ) → length q ≤ d + k → ((i : ℕ) → k ≤ i → LeftAt live q i → (a < rel (row q i)) × (b ≤ rel (row q i))) → from live q a b k ≡ b
    stops zero a b k f h = from_end a b k (omega arith)
    stops (suc d) a b k f h =
        by-ltb k (length q)
        (λ _ l. by_bool (live (row q k))
        (λ e. let r = h k (omega arith) (l, e) in from_free a b k (l, e) r.0 r.1)
        (λ e. from_skip a b k l e ∙ stops d a b (suc k) (omega arith) (λ i p w. h i (omega arith) w)))
        (λ _ l. from_end a b k l)

    pub busy_row : (k : ℕ) → live (row q k) ≡ true → busy_to live q (suc k) ≡ max (busy_to live q k) (rel (row q k)) + cap (row q k)
    busy_row k e = rw e

    pub busy_skip : (k : ℕ) → live (row q k) ≡ false → busy_to live q (suc k) ≡ busy_to live q k
    busy_skip k e = rw e

    -- no row that is left stands between two places
    pub busy_over : (d i j : ℕ) → j ≡ d + i → ((k : ℕ) → i ≤ k → k < j → live (row q k) ≡ false) → busy_to live q j ≡ busy_to live q i
    busy_over zero i j e h = let z : j ≡ i = omega arith in ap (busy_to live q) z
    busy_over (suc d) i zero e h = absurd (omega arith)
    busy_over (suc d) i (suc j) e h =
        busy_skip j (h j (omega arith) (omega arith)) ∙ busy_over d i j (omega arith) (λ k p r. h k p (omega arith))

    pub busy_more : (d i j : ℕ) → j ≡ d + i → busy_to live q i ≤ busy_to live q j
    busy_more zero i j e = let z : j ≡ i = omega arith in omega (arith, ap (busy_to live q) z)
    busy_more (suc d) i zero e = absurd (omega arith)
    busy_more (suc d) i (suc j) e =
        by_bool (live (row q j))
        (λ f. omega (arith, busy_more d i j (omega arith), busy_row j f))
        (λ f. omega (arith, busy_more d i j (omega arith), busy_skip j f))

    -- the busy time ends after the release of every row in it
    pub busy_past : (k j : ℕ) → live (row q k) ≡ true → 1 ≤ cap (row q k) → k < j → rel (row q k) < busy_to live q j
    busy_past k j e c h = omega (arith, busy_row k e, busy_more (j - suc k) (suc k) j (omega arith))

    -- a sweep goes through rows released by a
    ahead : (a k : ℕ) → k < length q → rel (row q k) ≤ a → from live q a (busy_to live q k) k ≡ from live q a (busy_to live q (suc k)) (suc k)
    ahead a k h r =
        by_bool (live (row q k))
        (λ e. from_early a (busy_to live q k) k (h, e) r ∙ ap (λ (b : ℕ). from live q a b (suc k)) (sym (busy_row k e)))
        (λ e. from_skip a (busy_to live q k) k h e ∙ ap (λ (b : ℕ). from live q a b (suc k)) (sym (busy_skip k e)))

    module _ (rising : Rising rel q) where
      -- the finish of the row at place k is found from any place up to its own, and from the next
      pub reach : (k i : ℕ) → k < length q → i ≤ suc k → finish live q k ≡ from live q (rel (row q k)) (busy_to live q i) i
      reach k zero h l = refl
      reach k (suc i) h l = reach k i h (omega arith) ∙ ahead (rel (row q k)) i (omega arith) (rising i k (omega arith) h)

      here : (a b c i : ℕ) → LeftAt live q i → rel (row q i) ≤ a → (LeftAt live q i → (b ≤ rel (row q i)) × (c ≤ rel (row q i)))
          → from live q a b i ≡ from live q a c i
      here a b c i v g h =
          let s = h v in
          let m : max b (rel (row q i)) ≡ max c (rel (row q i)) = omega arith in
          from_early a b i v g ∙ ap (λ (x : ℕ). from live q a (x + cap (row q i)) (suc i)) m ∙ sym (from_early a c i v g)

      -- what the busy time was before does not matter to rows that find it over
      pub free : (d a b c i k : ℕ) → k ≡ d + i → LeftAt live q k → rel (row q k) ≤ a
          → ((j : ℕ) → i ≤ j → j ≤ k → LeftAt live q j → (b ≤ rel (row q j)) × (c ≤ rel (row q j))) → from live q a b i ≡ from live q a c i
      free zero a b c i k e w r h =
          let z : i ≡ k = omega arith in
          here a b c i (rw z w) (rw z r) (λ v. h i (omega arith) (omega arith) v)
      free (suc d) a b c i k e w r h =
          by_bool (live (row q i))
          (λ f. here a b c i (omega arith, f) (omega (arith, rising i k (omega arith) w.0)) (λ v. h i (omega arith) (omega arith) v))
          (λ f. from_skip a b i (omega arith) f ∙ free d a b c (suc i) k (omega arith) w r (λ j p s v. h j (omega arith) s v)
          ∙ sym (from_skip a c i (omega arith) f))
