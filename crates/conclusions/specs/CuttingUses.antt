-- What the author's conclusion about rows left is good for, clause by clause and from the record alone: so that none of them can say less unseen. (What settles the
-- rows is `cutting-once`; the other clauses follow from the rows, and no answer is left open by them.)
use Rattle.std.specs.Prelude.{ℕ, ◌≤◌, Bool, true, false, List, [], ◌∷◌, map, ◌⊎◌, ◌↔◌, ◌≡◌, pos, length}
use Rattle.std.proofs.Common.{true≢false, inl, inr, sym, ap, ◌∙◌, arith}
use Rattle.std.proofs.lemmas.List.{length-map}
use Rattle.std.specs.Int.Signed.{lt_z}
use Rattle.rules.specs.declared.Table.{Table}
use Rattle.rules.specs.Choice.{unfollowed}
use Rattle.rules.specs.Rows.{at, rows_of}
use Rattle.rules.specs.Tables.{Accepted}
use Rattle.theory.specs.Counts.{In}
use Rattle.choices.specs.Choices.{rows_in}
use Rattle.stuck.specs.Stuck.{is_stuck, is_way, leaves, cut, remaining, slack_in, Held}
use Rattle.conclusions.specs.Conclusions.{answer_for, left_for, Cutting}

module _ (t : Table) (number left : ℕ) (p : Cutting t number left) where
  -- the planner's rows are left by some way, and by every other
  pub ways_agree : (v w : List ℕ) → is_way t (rows_of t) v ≡ true → is_way t (rows_of t) w ≡ true → leaves (rows_of t) v ≡ leaves (rows_of t) w
  ways_agree v w a b = p.ways v a ∙ sym (p.ways w b)

  pub some_way : leaves (rows_of t) p.way ≡ rows_in t left
  some_way = p.ways p.way p.is_way_lem

  -- not answered 0 exactly if not every stuck set is empty
  pub some_stuck : (number ≡ 0 → ⊥) ↔ (((w : ℕ) → is_stuck t (rows_in t w) ≡ true → rows_in t w ≡ []) → ⊥)
  some_stuck = (λ n h. n (p.exactly.1 h), λ n z. n (p.exactly.0 z))

  -- two cuts, one after the other, after which a row remains
  module _ (j k : ℕ) (some : 1 ≤ length (remaining t (j ∷ k ∷ []))) where
    abbrev hand : Table
    hand = cut t (j ∷ k ∷ [])

    abbrev stay : List ℕ
    stay = remaining t (j ∷ k ∷ [])

    -- if the table in hand is not answered 0, a row left remains
    pub one_remains : (answer_for hand ≡ 0 → ⊥) → Accepted hand × (((i : ℕ) → In i (rows_in t left) → In i stay → ⊥) → ⊥)
    one_remains n = ((p.cuts j (k ∷ []) some).accepted, λ h. n ((p.cuts j (k ∷ []) some).gone h))

    -- a row that was not left is not left then
    pub not_left_then : (i : ℕ) → (In i (rows_in t left) → ⊥) → In i (map (at stay) (left_for hand)) → ⊥
    not_left_then i n x = n ((p.cuts j (k ∷ []) some).fewer i x)

    -- if all rows left remain, it is not answered 0 if the first table was not, and as many are left
    pub still_left : ((i : ℕ) → In i (rows_in t left) → In i stay) → (number ≡ 0 → ⊥) → (answer_for hand ≡ 0 → ⊥) × (length (left_for hand) ≡ length (rows_in t left))
    still_left h n =
        let e = (p.cuts j (k ∷ []) some).same h in
        (λ z. n (sym e.1 ∙ z), sym (length-map (left_for hand) (at stay)) ∙ ap length e.0)

  -- cuts that differ only in rows that were not left
  pub alike_left : (j k : ℕ) → 1 ≤ length (remaining t (j ∷ [])) → 1 ≤ length (remaining t (k ∷ []))
      → ((i : ℕ) → In i (rows_in t left) → In i (remaining t (j ∷ [])) ↔ In i (remaining t (k ∷ []))) → length (left_for (cut t (j ∷ []))) ≡ length (left_for (cut t (k ∷ [])))
  alike_left j k a b h =
      sym (length-map (left_for (cut t (j ∷ []))) (at (remaining t (j ∷ []))))
      ∙ ap length (p.alike j k [] [] a b h)
      ∙ length-map (left_for (cut t (k ∷ []))) (at (remaining t (k ∷ [])))

  -- a table that is answered 0 does not hold the rows left
  pub not_held : (other : Table) → Accepted other → (φ : ℕ → ℕ) → (number ≡ 0 → ⊥) → answer_for other ≡ 0 → Held t (rows_in t left) other φ → ⊥
  not_held other taken φ n z h = omega (arith, z, p.changed n other taken φ h)

  -- a row left that none of them follows is short of slots
  pub short_of_slots : (i : ℕ) → In i (rows_in t left) → unfollowed t (rows_in t left) i ≡ true → lt_z (slack_in t (rows_in t left) i) (pos 0) ≡ true
  short_of_slots i j u = still (unfollowed t (rows_in t left) i) (lt_z (slack_in t (rows_in t left) i) (pos 0)) u (p.short i j)
    where
      still : (a b : Bool) → a ≡ true → (a ≡ false) ⊎ (b ≡ true) → b ≡ true
      still a b u (inl q) = absurd (true≢false (sym u ∙ q))
      still a b u (inr q) = q
