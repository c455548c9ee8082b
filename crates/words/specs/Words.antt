-- Tables (rules 1.7, 1.10 to 1.12, 5.4) and run records (rule 8.1) as the words that a C caller lends.
-- A table is n, N, G (work units per slot), K (slots), then the columns release, work, deadline, level, promised, follows of 64 entries each:
-- 388 words.
-- A run's state is the clock in slots, then the columns got, used, closing of 64 entries each: 193 words (rule 2.13).
use Rattle.std.specs.Prelude.{ℕ, ◌+◌, ◌*◌, List, ◌∷◌, ◌++◌, get_or, take, drop}
use Rattle.rules.specs.declared.Table.{Table}
use Rattle.record.specs.declared.Run.{Run}

-- where the columns of a table's words begin, after n, the two speeds and K (rules 1.1, 1.7, 1.10)
abbrev pub release_from : ℕ
release_from = 4

abbrev pub work_from : ℕ
work_from = 4 + 64

abbrev pub deadline_from : ℕ
deadline_from = 4 + 64 * 2

abbrev pub level_from : ℕ
level_from = 4 + 64 * 3

abbrev pub promised_from : ℕ
promised_from = 4 + 64 * 4

abbrev pub follows_from : ℕ
follows_from = 4 + 64 * 5

-- where the columns of a state's words begin, after the clock (rule 2.13)
abbrev pub got_from : ℕ
got_from = 1

abbrev pub used_from : ℕ
used_from = 1 + 64

abbrev pub closing_from : ℕ
closing_from = 1 + 64 * 2

-- the sixty-four entries from a place on (rules 2.13, 5.4)
abbrev pub column_at : ℕ → List ℕ → List ℕ
column_at from words = take 64 (drop from words)

-- the table that words hold (rules 1.1, 1.7, 1.10 to 1.12, 5.4)
unfoldable pub table_in : List ℕ → Table
table_in words =
    record {
      n = get_or words 0 0;
      normal = get_or words 1 0;
      degraded = get_or words 2 0;
      loading = get_or words 3 0;
      release = column_at release_from words;
      work = column_at work_from words;
      deadline = column_at deadline_from words;
      level = column_at level_from words;
      promised = column_at promised_from words;
      follows = column_at follows_from words;
    }

-- the words of a table (rules 1.1, 1.7, 1.10 to 1.12, 5.4)
unfoldable pub words_of : Table → List ℕ
words_of t = t.n ∷ t.normal ∷ t.degraded ∷ t.loading ∷ (t.release ++ (t.work ++ (t.deadline ++ (t.level ++ (t.promised ++ t.follows)))))

-- the run record that the words of a table, an order and the words of a state hold (rule 8.1)
unfoldable pub run_in : List ℕ → List ℕ → List ℕ → Run
run_in table order state =
    record {
      table = table_in table;
      order = order;
      clock = get_or state 0 0;
      got = column_at got_from state;
      used = column_at used_from state;
      closing = column_at closing_from state;
    }

-- the words of a run record's state (rules 2.13, 8.1)
unfoldable pub state_words : Run → List ℕ
state_words r = r.clock ∷ (r.got ++ (r.used ++ r.closing))
