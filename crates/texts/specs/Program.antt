-- What the planning program writes, in fields like those of a sheet (section 12 of the rules).
use Rattle.std.specs.Prelude.{ℕ, List, [], ◌∷◌, ◌++◌, nat_abs, take, Ok, Err}
use Rattle.std.specs.Int.Count.{ones}
use Rattle.rules.specs.declared.Table.{Table}
use Rattle.rules.specs.Plans.{Planned}
use Rattle.rules.specs.declared.Plan.TheVariants as Plan
use Rattle.rules.specs.Checks.{Check}
use Rattle.rules.specs.Choice.{plan_of}
use Rattle.rules.specs.Lists.{rows_to, joined}
use Rattle.rules.specs.Numbers.{refusal_number}
use Rattle.rules.specs.Rows.{at}
use Rattle.rules.specs.Worst.{slack}
use Rattle.texts.specs.Fields.{line}
use Rattle.texts.specs.Sheets.{read_of}

-- the line of place k: the place, its row, and the row's slack in slots, which after success is not below zero (rule 12.5)
unfoldable pub place_line : Table → List ℕ → ℕ → List ℕ
place_line t o k = line (k ∷ at o k ∷ nat_abs (slack t o (at o k)) ∷ [])

-- first line and places for a planner's answer; a refusal has its number and the count of rows left alone, which is
-- that of the set bits of their word (rules 4.9, 12.4, 12.5)
abbrev pub plan_text : Table → List ℕ → Planned → List ℕ
plan_text t o (Ok Plan.Ordered) = line (0 ∷ t.n ∷ []) ++ joined (place_line t o) (rows_to t.n)
plan_text t o (Ok (Plan.NoOrder left)) = line (7 ∷ ones left ∷ [])
plan_text t o (Err r) = line (refusal_number r ∷ 0 ∷ [])

-- the text for a reader's answer: a refused sheet has no row left (rule 12.4)
abbrev pub read_text : Check → Table → List ℕ
read_text (Ok tt) t = plan_text t (plan_of t).order (plan_of t).answer
read_text (Err r) t = line (refusal_number r ∷ 0 ∷ [])

-- the program from input to output; of its input it looks at 3,170 bytes (rules 12.1, 12.2)
unfoldable pub program_text : List ℕ → List ℕ
program_text input = let r = read_of (take 3170 input) in read_text r.check r.table
