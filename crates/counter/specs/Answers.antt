-- The answer in each case of the checks (rule 11.13).
use Rattle.std.specs.Prelude.{ℕ, ◌≤◌, ◌<◌, List, ◌≡◌, length}
use borrow.Author.Tests.{le-leb, lt-leb}
use Rattle.rules.specs.declared.Table.{Table}
use Rattle.rules.specs.declared.Refusal.{Refusal}
use Rattle.rules.specs.declared.Refusal.TheVariants.{NoRoom, TooManyRows}
use Rattle.rules.specs.Checks.{Passed, Refused}
use Rattle.rules.specs.Tables.{check_table, Accepted}
use Rattle.choices.specs.Choices.{Counting, count_of, count_checked}
use Rattle.counter.specs.Summing.{refused_count}

-- refused, with the scratch as it was
abbrev pub refused_with : Refusal → List ℕ → Counting
refused_with r scratch = record { said = refused_count r; scratch = scratch }

module _ (t : Table) (scratch : List ℕ) where
  pub refused_table : (r : Refusal) → check_table t ≡ Refused r → count_of t scratch ≡ refused_with r scratch
  unfolding count_of
  refused_table r e = rw e

  pub refused_rows : Accepted t → 12 < t.n → count_of t scratch ≡ refused_with TooManyRows scratch
  unfolding count_of
  refused_rows a h = rw (a, lt-leb t.n 12 h)

  pub refused_room : Accepted t → t.n ≤ 12 → length scratch < 4096 → count_of t scratch ≡ refused_with NoRoom scratch
  unfolding count_of
  refused_room a h l = rw (a, le-leb t.n 12 h, lt-leb 4096 (length scratch) l)

  pub passed_count : Accepted t → t.n ≤ 12 → 4096 ≤ length scratch → count_of t scratch ≡ count_checked Passed t scratch
  unfolding count_of
  passed_count a h l = rw (a, le-leb t.n 12 h, le-leb 4096 (length scratch) l)
