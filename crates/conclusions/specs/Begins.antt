-- The conclusion for a fresh record, from its definition.
use Rattle.std.specs.Prelude.{ℕ, true, List, ◌≡◌, refl, length, Ok, Err}
use Rattle.std.proofs.Common.{sym, ◌∙◌, arith}
use Rattle.std.proofs.Math.Path.{ap}
use Rattle.rules.specs.declared.Refusal.{Refusal}
use Rattle.rules.specs.Checks.{Check, Passed, Refused}
use Rattle.rules.specs.Numbers.{check_number}
use Rattle.rules.specs.Orders.{is_order, check_both}
use Rattle.rules.specs.Slots.{fresh}
use Rattle.rules.specs.Tables.{Accepted}
use Rattle.theory.specs.Facts.{both_pass}
use Rattle.judge.specs.Checked.{checked}
use Rattle.planner.specs.Promise.{refusal_number_lem}
use Rattle.record.specs.declared.FreshRun.{FreshRun}
use Rattle.record.specs.Records.{fresh_of}
use Rattle.words.specs.Words.{table_in, words_of, state_words}
use Rattle.words.specs.Inverse.{words_of_table_in}
use Rattle.conclusions.specs.declared.Begun.{Begun}
use Rattle.conclusions.specs.Conclusions.{FreshRecord}
use Rattle.conclusions.specs.Ordered.{order_words, words_order, six_words, words_six}

-- the answer over the words
abbrev said_of : FreshRun → Begun
said_of f = record { number = check_number f.check; table = words_of f.run.table; order = f.run.order; state = state_words f.run }

module _ (table order : List ℕ) (tables : length table ≡ 388) where
  abbrev Begins : Type 0
  Begins = FreshRecord table order (said_of (fresh_of (table_in table) order))

  begun_passed : check_both (table_in table) order ≡ Passed → Begins
  unfolding fresh_of check_number state_words fresh
  begun_passed e =
      let c = checked (table_in table) order e in
      rw e
      (record {
        passed = λ _. (c.accepted, c.order);
        passes = λ _ _. refl;
        order_plain = λ _. order_words table order c.accepted c.order;
        plain_order = λ _ _. refl;
        six = λ z. absurd (omega arith);
        no_order = λ _ n. absurd (n (order_words table order c.accepted c.order));
        held = λ _. (words_of_table_in table tables, refl);
        refused = λ n. absurd (n refl);
        zeros = refl;
      })

  not_refused : (r : Refusal) → check_both (table_in table) order ≡ Refused r → Accepted (table_in table) → is_order (table_in table) order ≡ true → ⊥
  not_refused r e a k =
      let p : check_both (table_in table) order ≡ Passed = both_pass (table_in table) order a k in
      let z : ◌≡◌ {A = ℕ} 0 1 = cc in omega arith

  begun_refused : (r : Refusal) → check_both (table_in table) order ≡ Refused r → Begins
  unfolding fresh_of check_number state_words words_of fresh
  begun_refused r e =
      let n = (refusal_number_lem r).0 in
      rw e
      (record {
        passed = λ z. absurd (n z);
        passes = λ a k. absurd (not_refused r e a k);
        order_plain = λ z. absurd (n z);
        plain_order = λ a k. absurd (not_refused r e a (words_order table order a k));
        six = λ z. six_words table order (ap check_number e ∙ z);
        no_order = λ a k. ap check_number (sym e) ∙ words_six table order a k;
        held = λ z. absurd (n z);
        refused = λ _. (refl, refl);
        zeros = refl;
      })

  by_check : (c : Check) → check_both (table_in table) order ≡ c → Begins
  by_check (Ok tt) e = begun_passed e
  by_check (Err r) e = begun_refused r e

  pub begun : Begins
  begun = by_check (check_both (table_in table) order) refl
