-- Rows that are gone: no finish is later without them, and those of other busy periods are what they were.
use Rattle.std.specs.Prelude.{ℕ, zero, suc, ◌+◌, ◌-◌, ◌≤◌, ◌<◌, max, Bool, true, ◌≡◌, refl, List, length, drop}
use Rattle.std.proofs.Common.{sym, ap, ◌∙◌, arith}
use Rattle.rules.specs.Lists.{keep}
use Rattle.theory.specs.Tests.{by_bool, by-ltb, by-leb}
use Rattle.theory.proofs.Sweep.{sweep_ge}
use Rattle.periods.specs.Busy.{row, LeftAt, Rising, busy_to, from, finish, from_end, from_skip, from_early, from_busy, from_free, stops}
use Rattle.periods.specs.Busy.{busy_row, busy_skip, busy_past, reach, free}

module _ (rel cap : ℕ → ℕ) where
  -- a row that is left stops the sweep, or is run
  by_row {ℓ} : {P : Type ℓ} (live : ℕ → Bool) (q : List ℕ) (a b k : ℕ) → LeftAt live q k
      → (a < rel (row q k) → b ≤ rel (row q k) → from rel cap live q a b k ≡ b → P)
      → (from rel cap live q a b k ≡ from rel cap live q a (max b (rel (row q k)) + cap (row q k)) (suc k) → P) → P
  by_row live q a b k w f g =
      by-ltb a (rel (row q k))
      (λ _ p. by-leb b (rel (row q k))
      (λ _ r. f p r (from_free rel cap live q a b k w p r))
      (λ _ r. g (from_busy rel cap live q a b k w r)))
      (λ _ p. g (from_early rel cap live q a b k w p))

  from_ge : (live : ℕ → Bool) (q : List ℕ) (a b k : ℕ) → b ≤ from rel cap live q a b k
  from_ge live q a b k = sweep_ge rel cap a b (keep live (drop k q))

  module _ (live less : ℕ → Bool) (q : List ℕ) (rising : Rising rel q) (within : (x : ℕ) → less x ≡ true → live x ≡ true) where
    pub busy_fewer : (k : ℕ) → busy_to rel cap less q k ≤ busy_to rel cap live q k
    busy_fewer zero = omega arith
    busy_fewer (suc k) =
        by_bool (less (row q k))
        (λ e. omega (arith, busy_row rel cap less q k e, busy_row rel cap live q k (within (row q k) e), busy_fewer k))
        (λ e. by_bool (live (row q k))
        (λ f. omega (arith, busy_skip rel cap less q k e, busy_row rel cap live q k f, busy_fewer k))
        (λ f. omega (arith, busy_skip rel cap less q k e, busy_skip rel cap live q k f, busy_fewer k)))

    from_fewer : (d a b c k : ℕ) → length q ≤ d + k → c ≤ b → from rel cap less q a c k ≤ from rel cap live q a b k
    from_fewer zero a b c k f h = omega (arith, from_end rel cap less q a c k (omega arith), from_end rel cap live q a b k (omega arith))
    from_fewer (suc d) a b c k f h =
        by-ltb k (length q)
        (λ _ l. by_bool (less (row q k))
        (λ e. let v : LeftAt live q k = (l, within (row q k) e) in
        by_row live q a b k v
        (λ p r g. omega (arith, g, from_free rel cap less q a c k (l, e) p (omega arith)))
        (λ g. by_row less q a c k (l, e)
        (λ p r i. omega (arith, i, from_ge live q a b k))
        (λ i. omega (
          arith,
          g,
          i,
          from_fewer d a (max b (rel (row q k)) + cap (row q k)) (max c (rel (row q k)) + cap (row q k)) (suc k) (omega arith) (omega arith),
        ))))
        (λ e. by_bool (live (row q k))
        (λ w. by_row live q a b k (l, w)
        (λ p r g. omega (
          arith,
          g,
          stops rel cap less q (suc d) a c k f (λ i s v. let m = rising k i s v.0 in (omega arith, omega arith)),
        ))
        (λ g. omega (
          arith,
          g,
          from_skip rel cap less q a c k l e,
          from_fewer d a (max b (rel (row q k)) + cap (row q k)) c (suc k) (omega arith) (omega arith),
        )))
        (λ w. omega (
          arith,
          from_skip rel cap less q a c k l e,
          from_skip rel cap live q a b k l w,
          from_fewer d a b c (suc k) (omega arith) h,
        ))))
        (λ _ l. omega (arith, from_end rel cap less q a c k l, from_end rel cap live q a b k l))

    -- no finish is later without some of the rows
    pub finish_fewer : (k : ℕ) → finish rel cap less q k ≤ finish rel cap live q k
    finish_fewer k = from_fewer (length q) (rel (row q k)) 0 0 0 (omega arith) (omega arith)

    -- one row is gone, the one at place m
    module _ (m : ℕ) (others : (k : ℕ) → k < length q → (k ≡ m → ⊥) → less (row q k) ≡ live (row q k)) where
      busy_before : (k : ℕ) → k ≤ m → k ≤ length q → busy_to rel cap less q k ≡ busy_to rel cap live q k
      busy_before zero h l = refl
      busy_before (suc k) h l =
          let e = others k (omega arith) (λ z. omega arith) in
          by_bool (live (row q k))
          (λ f. omega (arith, busy_row rel cap less q k (e ∙ f), busy_row rel cap live q k f, busy_before k (omega arith) (omega arith)))
          (λ f. busy_skip rel cap less q k (e ∙ f) ∙ busy_before k (omega arith) (omega arith) ∙ sym (busy_skip rel cap live q k f))

      from_after : (d a b k : ℕ) → length q ≤ d + k → m < k → from rel cap less q a b k ≡ from rel cap live q a b k
      from_after zero a b k f h = from_end rel cap less q a b k (omega arith) ∙ sym (from_end rel cap live q a b k (omega arith))
      from_after (suc d) a b k f h =
          by-ltb k (length q)
          (λ _ l. let e = others k l (λ z. omega arith) in
          by_bool (live (row q k))
          (λ w. by_row live q a b k (l, w)
          (λ p r g. from_free rel cap less q a b k (l, e ∙ w) p r ∙ sym g)
          (λ g. by_row less q a b k (l, e ∙ w)
          (λ p r i. i ∙ sym (from_free rel cap live q a b k (l, w) p r))
          (λ i. i ∙ from_after d a (max b (rel (row q k)) + cap (row q k)) (suc k) (omega arith) (omega arith) ∙ sym g)))
          (λ w. from_skip rel cap less q a b k l (e ∙ w) ∙ from_after d a b (suc k) (omega arith) (omega arith) ∙ sym (from_skip rel cap live q a b k l w)))
          (λ _ l. from_end rel cap less q a b k l ∙ sym (from_end rel cap live q a b k l))

      -- up to place p, before the row that is gone, both sweeps go alike; at p both stop
      from_before : (d a p k : ℕ) → p ≡ d + k → p ≤ m → p ≤ length q
          → from rel cap less q a (busy_to rel cap live q p) p ≡ from rel cap live q a (busy_to rel cap live q p) p
          → from rel cap less q a (busy_to rel cap live q k) k ≡ from rel cap live q a (busy_to rel cap live q k) k
      from_before zero a p k f h l e = let z : p ≡ k = omega arith in rw z at e
      from_before (suc d) a p k f h l e =
          let s : k < length q = omega arith in
          let x = others k s (λ z. omega arith) in
          let next = from_before d a p (suc k) (omega arith) h l e in
          by_bool (live (row q k))
          (λ w. let n : from rel cap less q a (max (busy_to rel cap live q k) (rel (row q k)) + cap (row q k)) (suc k)
          ≡ from rel cap live q a (max (busy_to rel cap live q k) (rel (row q k)) + cap (row q k)) (suc k) = rw w at next in
          by_row live q a (busy_to rel cap live q k) k (s, w)
          (λ p r g. from_free rel cap less q a (busy_to rel cap live q k) k (s, x ∙ w) p r ∙ sym g)
          (λ g. by_row less q a (busy_to rel cap live q k) k (s, x ∙ w)
          (λ p r i. i ∙ sym (from_free rel cap live q a (busy_to rel cap live q k) k (s, w) p r))
          (λ i. i ∙ n ∙ sym g)))
          (λ w. let n : from rel cap less q a (busy_to rel cap live q k) (suc k) ≡ from rel cap live q a (busy_to rel cap live q k) (suc k) = rw w at next in
          from_skip rel cap less q a (busy_to rel cap live q k) k s (x ∙ w) ∙ n ∙ sym (from_skip rel cap live q a (busy_to rel cap live q k) k s w))

      -- the row at place k starts after place p, where a busy time that held the gone row is over
      pub finish_after : (k p : ℕ) → LeftAt live q k → p ≤ k → m < p → ((i : ℕ) → p ≤ i → i ≤ k → LeftAt live q i → busy_to rel cap live q p ≤ rel (row q i))
          → finish rel cap less q k ≡ finish rel cap live q k
      finish_after k p w h g r =
          reach rel cap less q rising k p w.0 (omega arith)
          ∙ from_after (length q) (rel (row q k)) (busy_to rel cap less q p) p (omega arith) g
          ∙ free rel cap live q rising (k - p) (rel (row q k)) (busy_to rel cap less q p) (busy_to rel cap live q p) p k (omega arith) w (omega arith)
          (λ i s t v. let o = r i s t v in (omega (arith, busy_fewer p), o))
          ∙ sym (reach rel cap live q rising k p w.0 (omega arith))

      -- the row at place k is done by place p, from which on the gone row stood
      pub finish_before : (k p : ℕ) → LeftAt live q k → 1 ≤ cap (row q k) → k < p → p ≤ m → m < length q
          → ((i : ℕ) → p ≤ i → LeftAt live q i → busy_to rel cap live q p ≤ rel (row q i)) → finish rel cap less q k ≡ finish rel cap live q k
      finish_before k p w c h g l r =
          let a = rel (row q k) in
          let b = busy_to rel cap live q p in
          let y : a < b = busy_past rel cap live q k p w.1 c h in
          let s = stops rel cap live q (length q) a b p (omega arith) (λ i t v. let o = r i t v in (omega arith, o)) in
          let t = stops rel cap less q (length q) a b p (omega arith) (λ i t v. let o = r i t (v.0, within (row q i) v.1) in (omega arith, o)) in
          reach rel cap less q rising k (suc k) w.0 (omega arith)
          ∙ ap (λ (x : ℕ). from rel cap less q a x (suc k)) (busy_before (suc k) (omega arith) (omega (arith, w.0)))
          ∙ from_before (p - suc k) a p (suc k) (omega arith) g (omega arith) (t ∙ sym s)
          ∙ sym (reach rel cap live q rising k (suc k) w.0 (omega arith))
