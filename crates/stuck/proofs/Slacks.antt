-- Results on slacks in a set (rule 26.9), to be cited by name: how many slots each row of a stuck set is short.
use Rattle.std.specs.Prelude.{ℕ, ◌≤◌, true, false, ◌&&◌, ◌⊎◌, ◌≡◌, refl, pos, length}
use Rattle.std.proofs.Math.Bool.{not}
use Rattle.std.proofs.Common.{true≢false, inl, inr, ap₂, ◌∙◌, arith}
use mathlib.Core.List.{List, [], ◌∷◌, ◌++◌, map}
use Rattle.std.proofs.Math.Path.{sym, ap}
use Rattle.std.specs.Int.Signed.{lt_z}
use Rattle.rules.specs.declared.Table.{Table}
use Rattle.rules.specs.Choice.{unfollowed, passes}
use Rattle.rules.specs.Lists.{count, erase}
use Rattle.rules.specs.Rows.{at, rows_of}
use Rattle.rules.specs.Tables.{Accepted}
use Rattle.rules.specs.Worst.{slack, meets}
use Rattle.theory.specs.Counts.{In, Same, erase_last, in_some}
use Rattle.theory.specs.Facts.{TableFacts, facts, rows_in_lem}
use Rattle.theory.specs.Tests.{by_bool}
use Rattle.theory.proofs.Waiting.{unbound_table}
use Rattle.theory.specs.Waiting.{unbound}
use Rattle.theory.specs.Waits.{rows_closed}
use Rattle.theory.proofs.Results.{trial_free}
use Rattle.choices.specs.Choices.{renumbered, alone}
use Rattle.lowest.proofs.Accepting.{alone_accepted}
use Rattle.lowest.proofs.Alone.{renumbered_row, new_number, unfollowed_alone, alone_table, single, numbers, image, every_row}
use Rattle.lowest.specs.Alone.{Chosen}
use Rattle.lowest.proofs.Counted.{lowest_slack}
use Rattle.lowest.specs.Images.{erase_map, slack_image}
use Rattle.lowest.specs.Standing.{may_stand}
use Rattle.lowest.proofs.Standing.{free_stand}
use Rattle.stuck.specs.Stuck.{may_be_lowest, is_stuck, slack_in}
use Rattle.stuck.proofs.Ways.{may_lowest, stuck_may}

module _ (t : Table) (accepted : Accepted t) (set : List ℕ) (c : Chosen t set) (i : ℕ) (j : In i set) where
  f : TableFacts t
  f = facts t accepted

  some : 1 ≤ length set
  some = in_some i set j

  abbrev u : Table
  u = alone t set

  g : TableFacts u
  g = alone_table t f set c some

  -- its number in the table of the set alone
  abbrev k : ℕ
  k = renumbered set i

  own : In k (rows_of u)
  own = new_number t f set c some i j

  others : map (at set) (erase k (rows_of u)) ≡ erase i set
  others =
      sym (erase_map (at set) k (rows_of u)
      (λ x y p q. let a = numbers t f set c (rows_of u) (λ z. omega arith) x p in let b = numbers t f set c (rows_of u) (λ z. omega arith) y q in
      single t f set c x y a.0 a.1 b.0 b.1) own)
      ∙ ap₂ erase (renumbered_row set i j).2 (every_row t f set c some)

  -- IN THE WHOLE TABLE. The slack of a row in a set is that of the row in the whole table, if no row waited, under an order that has the other rows of the set above
  -- it, in any sequence; whatever stands below it does not matter.
  pub slack_whole : (above below : List ℕ) → Same above (erase i set) → slack_in t set i ≡ slack (unbound t) (above ++ (i ∷ below)) i
  unfolding slack_in
  slack_whole above below same =
      slack_image (unbound u) (unbound t) (at set) (image t f set c) (unbound_table u g) (unbound_table t f) (free_stand u) (free_stand t)
      (erase k (rows_of u)) [] above below k (λ x. omega (arith, erase_last k (rows_of u) own x)) (λ x. same x ∙ ap (count x) (sym others))
      ∙ ap (λ (x : ℕ). slack (unbound t) (above ++ (x ∷ below)) x) (renumbered_row set i j).2

  -- So every order that has just the other rows of the set above the row gives it one slack, if no row waited.
  pub slack_any : (a b c d : List ℕ) → Same a (erase i set) → Same c (erase i set) → slack (unbound t) (a ++ (i ∷ b)) i ≡ slack (unbound t) (c ++ (i ∷ d)) i
  slack_any a b c d p q = sym (slack_whole a b p) ∙ slack_whole c d q

  -- WITH WAITS. If no row of the set follows the row, that is its slack in the table of the set alone with rows waiting there as they do, in whatever sequence the
  -- others stand above it.
  pub slack_waiting : unfollowed t set i ≡ true → (above : List ℕ) → Same (erase (renumbered set i) (rows_of (alone t set))) above
      → slack_in t set i ≡ slack (alone t set) (above ++ (renumbered set i ∷ [])) (renumbered set i)
  unfolding slack_in
  slack_waiting e above same =
      let taken = alone_accepted t accepted set c some in
      let free = unfollowed_alone t f set c some i j ∙ e in
      sym (trial_free u taken (rows_of u) (λ x. omega arith) (rows_closed u g (rows_of u) (λ x. refl)) k own free)
      ∙ lowest_slack u taken k (rows_in_lem u k own) free above same

  -- MAY STAND LOWEST. A row of a set may exactly if no row of the set follows it and its slack in the set is not below zero.
  pub may_slack : may_be_lowest (alone t set) (renumbered set i) ≡ unfollowed t set i && not (lt_z (slack_in t set i) (pos 0))
  unfolding may_stand passes meets
  may_slack =
      may_lowest t f set c i j
      ∙ ap (λ z. unfollowed t set i && not (lt_z z (pos 0))) (sym (slack_whole (erase i set) [] (λ x. refl)))

  -- SHORT OR FOLLOWED. Each row of a stuck set is followed by a row of it, or has a slack below zero in it.
  pub short_or_followed : is_stuck t set ≡ true → (unfollowed t set i ≡ false) ⊎ (lt_z (slack_in t set i) (pos 0) ≡ true)
  short_or_followed e =
      let n : unfollowed t set i && not (lt_z (slack_in t set i) (pos 0)) ≡ false = sym may_slack ∙ may_lowest t f set c i j ∙ stuck_may t f set c e i j in
      by_bool (unfollowed t set i)
      (λ p. by_bool (lt_z (slack_in t set i) (pos 0)) (λ q. inr q) (λ q. absurd (true≢false (sym (rw (p, q)) ∙ n))))
      (λ p. inl p)
