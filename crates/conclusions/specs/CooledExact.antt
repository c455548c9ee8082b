-- The conclusion about least workable speeds leaves nothing open: two answers that meet it are the same, so that whatever meets it is what the
-- archive answers; and what it gives at every speed of the range.
use Rattle.std.specs.Prelude.{ℕ, ◌≤◌, ◌<◌, true, ◌↔◌, ◌≡◌, List}
use Rattle.std.proofs.Common.{inl, inr, ⊎_elim, sym, ap, subst, ◌∙◌, arith}
use Rattle.rules.specs.Choice.{choice, padded}
use Rattle.rules.specs.Meaning.{Serves}
use Rattle.rules.specs.Orders.{is_order}
use Rattle.theory.specs.Tests.{by_eqb, by-ltb}
use Rattle.conclusions.specs.Conclusions.{speed_at, LeastFound, LeastRead}

module _ (table : List ℕ) (index from up_to : ℕ) where
  abbrev Met : ℕ → ℕ → List ℕ → Type 0
  Met = LeastFound table index from up_to

  -- one finds a speed and the other none
  not_none : (a b s u : ℕ) (o q : List ℕ) → Met a s o → Met b u q → a ≡ 0 → b ≡ 7 → ⊥
  not_none a b s u o q x y z w =
      let in_range_lem = x.within z in
      let served = x.serves z s (omega arith) in_range_lem.1 in
      y.none w s in_range_lem.0 in_range_lem.1 o served.0 served.1

  -- both find a speed: neither is below the other
  not_below : (a b s u : ℕ) (o q : List ℕ) → Met a s o → Met b u q → a ≡ 0 → b ≡ 0 → s < u → ⊥
  not_below a b s u o q x y z w h =
      let in_range_lem = x.within z in
      let served = x.serves z s (omega arith) in_range_lem.1 in
      y.smaller w s in_range_lem.0 h o served.0 served.1

  pub met_once : (a b s u : ℕ) (o q : List ℕ) → Met a s o → Met b u q → (a ≡ b) × (s ≡ u) × (o ≡ q)
  met_once a b s u o q x y =
      by_eqb a 0
      (λ _ z. ⊎_elim
      (λ w. let e : s ≡ u = same_speed z w in (z ∙ sym w, e, x.made z ∙ ap (λ (k : ℕ). padded (choice (speed_at table index k)).placed) e ∙ sym (y.made w)))
      (λ w. absurd (not_none a b s u o q x y z w))
      (y.either (x.accepted (inl z))))
      (λ _ n. by_eqb b 0
      (λ _ w. ⊎_elim (λ z. absurd (n z)) (λ z. absurd (not_none b a u s q o y x w z)) (x.either (y.accepted (inl w))))
      (λ _ m. (same_number n m, (x.zeros n).0 ∙ sym (y.zeros m).0, (x.zeros n).1 ∙ sym (y.zeros m).1)))
    where
      same_speed : a ≡ 0 → b ≡ 0 → s ≡ u
      same_speed z w =
          by-ltb s u
          (λ _ h. absurd (not_below a b s u o q x y z w h))
          (λ _ h. by-ltb u s (λ _ k. absurd (not_below b a u s q o y x w z k)) (λ _ k. omega arith))

      same_number : (a ≡ 0 → ⊥) → (b ≡ 0 → ⊥) → a ≡ b
      same_number n m =
          by_eqb a 7
          (λ _ z. ⊎_elim (λ w. absurd (m w)) (λ w. z ∙ sym w) (y.either (x.accepted (inr z))))
          (λ _ k. by_eqb b 7
          (λ _ w. ⊎_elim (λ z. absurd (n z)) (λ z. absurd (k z)) (x.either (y.accepted (inr w))))
          (λ _ l. x.own n k ∙ sym (y.own m l)))

-- the same for a sheet, whose table gives the range: two answers that meet the conclusion are the same in every part
pub read_once : (sheet : List ℕ) (index : ℕ) (from up_to : List ℕ → ℕ) (c d a b s u : ℕ) (v w o q : List ℕ)
    → LeastRead sheet c v index (from v) (up_to v) a s o
    → LeastRead sheet d w index (from w) (up_to w) b u q
    → (c ≡ d) × (v ≡ w) × (a ≡ b) × (s ≡ u) × (o ≡ q)
read_once sheet index from up_to c d a b s u v w o q x y =
    let e : c ≡ d = x.reads.0 ∙ sym y.reads.0 in
    let f : v ≡ w = x.reads.1 ∙ sym y.reads.1 in
    by_eqb c 0
    (λ _ z.
    let m = met_once w index (from w) (up_to w) a b s u o q
    (subst (λ (l : List ℕ). LeastFound l index (from l) (up_to l) a s o) f (x.taken z)) (y.taken (sym e ∙ z)) in
    (e, f, m.0, m.1, m.2))
    (λ _ n.
    let m = x.refused n in
    let k = y.refused (λ z. n (e ∙ z)) in
    (e, f, m.0 ∙ e ∙ sym k.0, m.1 ∙ sym k.1, m.2 ∙ sym k.2))

-- ---- what the conclusion gives at every speed of the range

-- some order serves at a speed of the range exactly if the speed is not below the one found, and then the order found does
pub found_parts : (table : List ℕ) (index from up_to number speed : ℕ) (order : List ℕ) → LeastFound table index from up_to number speed order → number ≡ 0
    → (s : ℕ) → from ≤ s → s ≤ up_to → ((o : List ℕ) × (is_order (speed_at table index s) o ≡ true) × Serves (speed_at table index s) o) ↔ (speed ≤ s)
found_parts table index from up_to number speed order m z s a b = (
  λ h. by-ltb s speed (λ _ q. absurd (m.smaller z s a q h.0 h.1 h.2)) (λ _ q. q),
  λ q. let w = m.serves z s q b in (order, w.0, w.1),
)
