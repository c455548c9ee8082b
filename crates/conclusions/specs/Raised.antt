-- Raised speeds, over the words that C lends (rules 18.8, 18.9, 20.5): an order that serves goes on serving when N, G or both are raised within their
-- limits, and whatever the order no row's slack falls.
use Rattle.std.specs.Prelude.{ℕ, ◌≤◌, true, false, ◌≡◌, List, length, get_or, set}
use Rattle.std.proofs.Common.{sym, ap, ◌∙◌, length-set}
use Rattle.std.proofs.Math.Path.{subst}
use Rattle.std.specs.Int.Signed.{lt_z}
use Rattle.rules.specs.declared.Table.{Table}
use Rattle.rules.specs.declared.Sought.TheVariants.{Degraded, Normal}
use Rattle.rules.proofs.Meaning.{correct_serves, serves_correct}
use Rattle.rules.specs.Meaning.{Serves}
use Rattle.rules.specs.Orders.{is_order}
use Rattle.rules.specs.Tables.{Accepted}
use Rattle.rules.specs.Worst.{slack}
use Rattle.searches.specs.Speeds.{with_speeds, at_speed}
use Rattle.theory.specs.Facts.{is_row_lem}
use Rattle.theory.proofs.Results.{larger_speeds, slack_larger}
use Rattle.words.specs.Words.{table_in}
use Rattle.conclusions.specs.Cooled.{at_word}

module _ (table : List ℕ) (long : length table ≡ 388) (accepted : Accepted (table_in table)) (o : List ℕ) (e : is_order (table_in table) o ≡ true)
    (n g : ℕ) (normal : get_or table 1 0 ≤ n) (most : n ≤ 1000) (degraded : get_or table 2 0 ≤ g) (slower : g ≤ n) where
  abbrev raised : Table
  raised = table_in (set (set table 1 n) 2 g)

  raised_is : raised ≡ with_speeds (table_in table) n g
  raised_is =
      at_word Degraded (set table 1 n) g (length-set table 1 n ∙ long)
      ∙ ap (λ (u : Table). at_speed Degraded u g) (at_word Normal table n long)

  pub raised_serves : Serves (table_in table) o → Serves raised o
  unfolding table_in
  raised_serves w =
      subst (λ (u : Table). Serves u o) (sym raised_is)
      (correct_serves (with_speeds (table_in table) n g) o
      (larger_speeds (table_in table) accepted o e (serves_correct (table_in table) o w) n g normal most degraded slower))

  pub raised_slack : (i : ℕ) → 1 ≤ i → i ≤ get_or table 0 0 → lt_z (slack raised o i) (slack (table_in table) o i) ≡ false
  unfolding table_in
  raised_slack i from up_to =
      subst (λ (u : Table). lt_z (slack u o i) (slack (table_in table) o i) ≡ false) (sym raised_is)
      (slack_larger (table_in table) accepted o e i (is_row_lem (table_in table) i (record { from = from; up_to = up_to })) n g normal most degraded slower)
