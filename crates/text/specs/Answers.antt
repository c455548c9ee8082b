-- What the program promises of its text, and that every text has at most 1,617 bytes: a first line of 17 and 64 lines of 25.
use Rattle.std.specs.Prelude.{ℕ, ◌≤◌, ◌≡◌, refl, List, [], ◌∷◌, ◌++◌, length, take, drop, Ok, Err}
use Rattle.std.proofs.Common.{sym, ap, ◌∙◌, arith, length-append}
use Rattle.std.specs.Int.Count.{ones}
use Rattle.rules.specs.declared.Table.{Table}
use Rattle.rules.specs.declared.Reading.{Reading}
use Rattle.rules.specs.declared.Planning.{Planning}
use Rattle.rules.specs.Plans.{Planned}
use Rattle.rules.specs.declared.Plan.TheVariants as Plan
use Rattle.rules.specs.Checks.{Check, Passed}
use Rattle.rules.specs.Lists.{rows_to, joined}
use Rattle.rules.specs.Numbers.{refusal_number}
use Rattle.rules.specs.Tables.{Accepted}
use Rattle.rules.specs.Choice.{plan_of}
use Rattle.texts.specs.Fields.{line}
use Rattle.texts.specs.Sheets.{table_in, check_sheet, read_checked, read_of}
use Rattle.texts.specs.Program.{place_line, plan_text, read_text, program_text}
use Rattle.theory.specs.Facts.{clash, facts}
use Rattle.sheet.specs.SheetsDiffer.{accepts}
use Rattle.text.specs.Lines.{pair_long, places_long}
use Rattle.fields.specs.Wrote.{Wrote}

-- the program's text for the input stands at the start of out', r bytes, and the bytes after it are those of out
pub record Answered (input out out' : List ℕ) (r : ℕ) : Type 0 where
  pub size : r ≡ length (program_text input)
  pub most : r ≤ 1617
  pub within : r ≤ length out'
  pub text : out' ≡ program_text input ++ drop (length (program_text input)) out

-- a sheet that passes states an accepted table, and so does what the reader makes of it
read_accepted : (bytes : List ℕ) → (read_of bytes).check ≡ Passed → Accepted (read_of bytes).table
unfolding read_of
read_accepted bytes h = go (check_sheet bytes) refl h
  where
    go : (c : Check) → check_sheet bytes ≡ c → (read_checked c (table_in bytes)).check ≡ Passed → Accepted (read_checked c (table_in bytes)).table
    go (Ok tt) e q = (accepts bytes e).accepted
    go (Err r) e q = clash q

-- a table read from a sheet that passed
pub reading_accepted : (bytes : List ℕ) (r : Reading) → r ≡ read_of bytes → r.check ≡ Passed → Accepted r.table
reading_accepted bytes r e q = rw e (read_accepted bytes (rw e at q))

-- the text of a reading, by its check
pub reading_text : (input : List ℕ) (r : Reading) (c : Check) → r ≡ read_of (take 3170 input) → r.check ≡ c → read_text c r.table ≡ program_text input
unfolding program_text
reading_text input r c e q = ap (λ (d : Check). read_text d r.table) (sym q) ∙ ap (λ (s : Reading). read_text s.check s.table) e

-- the text of a planning, by its answer
pub planning_text : (t : Table) (r : Planning) (a : Planned) → r ≡ plan_of t → r.answer ≡ a
    → plan_text t r.order a ≡ plan_text t (plan_of t).order (plan_of t).answer
planning_text t r a e q = ap (plan_text t r.order) (sym q) ∙ ap (λ (s : Planning). plan_text t s.order s.answer) e

plan_most : (t : Table) (o : List ℕ) (p : Planned) → t.n ≤ 64 → length (plan_text t o p) ≤ 1617
plan_most t o (Ok Plan.Ordered) h =
    omega (arith, length-append (line (0 ∷ t.n ∷ [])) (joined (place_line t o) (rows_to t.n)), pair_long 0 t.n, places_long t o t.n)
plan_most t o (Ok (Plan.NoOrder left)) h = omega (arith, pair_long 7 (ones left))
plan_most t o (Err r) h = omega (arith, pair_long (refusal_number r) 0)

read_most : (c : Check) (t : Table) → (c ≡ Passed → Accepted t) → length (read_text c t) ≤ 1617
read_most (Ok tt) t h = plan_most t (plan_of t).order (plan_of t).answer (facts t (h refl)).few
read_most (Err r) t h = omega (arith, pair_long (refusal_number r) 0)

pub text_most : (input : List ℕ) → length (program_text input) ≤ 1617
unfolding program_text
text_most input = let r = read_of (take 3170 input) in read_most r.check r.table (read_accepted (take 3170 input))

-- the text written from byte 0 on
pub answered : (input out out' : List ℕ) (r : ℕ) → Wrote out 0 out' r (program_text input) → Answered input out out' r
answered input out out' r w =
    let e : r ≡ length (program_text input) = omega (arith, w.after) in
    let f : out' ≡ program_text input ++ drop (length (program_text input)) out = rw (← e) w.text in
    let l = length-append (program_text input) (drop (length (program_text input)) out) in
    record { size = e; most = omega (arith, text_most input); within = rw f (omega (arith, l)); text = f }
