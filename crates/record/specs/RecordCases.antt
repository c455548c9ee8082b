-- Cases on run records, computed from the definitions and checked by one theorem: numbers 8 and 9, the clock's last slots (rules 8.5, 8.12,
-- 8.13, 13.9), sound records that no run reaches (rule 8.7), records that check 9 refuses for one fault each (rules 8.4 to 8.8), and LO rows
-- around their deadlines (rules 8.7, 19.2, 19.3), LO rows that are promised a part of their work (rules 1.9, 5.9, 8.4, 8.7), and rows that follow rows
-- (rules 2.15, 5.10, 5.11, 8.4, 8.7).
use Rattle.std.specs.Prelude.{ℕ, Bool, true, cond, ◌&&◌, List, [], ◌∷◌, T, eqb}
use Rattle.record.specs.declared.Run.{Run}
use Rattle.record.specs.Answers.{slot_said, forward_said}
use Rattle.record.specs.Records.{record_of, row_sound, tail_sound, is_sound, next_run, chosen_row, coming_slot, one_slot, work_on, forward_over, fresh_of}
use Rattle.rules.specs.Calls.{Said}
use Rattle.rules.specs.Cases.{promising, following, job}
use Rattle.rules.specs.Choice.{padded}
use Rattle.rules.specs.Judge.{table_of}
use Rattle.rules.specs.Lists.{same}
use Rattle.rules.specs.Need.{work_slots}
use Rattle.rules.specs.Numbers.{refusal_number, check_number}
use Rattle.rules.specs.Orders.{is_arrangement, is_order, check_order, check_both}
use Rattle.rules.specs.Running.{close_late, run_slot}
use Rattle.rules.specs.Slots.{fresh, is_pending, is_waiting, is_ready, chosen, is_over, brought, serve, slot}
use Rattle.rules.specs.Tables.{row_ok, tail_ok, promise_ok, check_wait, check_table}
use Rattle.rules.specs.declared.Table.{Table}

pub data Case : Type 0 where
  -- one slot on the record with this supply (work units) gives this number and row
  stepped : Run → ℕ → ℕ → ℕ → Case
  -- forward on the record over these supplies (work units) gives this number and slots worked
  forwarded : Run → List ℕ → ℕ → ℕ → Case
  -- after one slot with this supply the record shows this clock, work got, slots used and closing slots
  leaves : Run → ℕ → ℕ → List ℕ → List ℕ → List ℕ → Case
  -- the fresh record of this table and order has this number, and is the record of zeros unless it is 0
  begun : Table → List ℕ → ℕ → Case
  -- the coming slot of the record has this number and row
  coming : Run → ℕ → ℕ → Case

abbrev same_said : Said → ℕ → ℕ → Bool
same_said s number value = eqb s.number number && eqb s.value value

-- the record's clock and columns, zeros after the figures given
abbrev shows : Run → ℕ → List ℕ → List ℕ → List ℕ → Bool
shows r clock got used closing =
    eqb r.clock clock && same r.got (padded got) && same r.used (padded used) && same r.closing (padded closing)

abbrev holds : Case → Bool
holds (stepped r v number row) = same_said (slot_said (one_slot r v).answer) number row
holds (forwarded r vs number slots) = same_said (forward_said (forward_over r vs).answer) number slots
holds (leaves r v clock got used closing) = shows (one_slot r v).run clock got used closing
holds (begun t o number) =
    eqb (check_number (fresh_of t (padded o)).check) number
    && eqb (fresh_of t (padded o)).run.table.n (cond (eqb number 0) t.n 0)
    && eqb (fresh_of t (padded o)).run.table.normal (cond (eqb number 0) t.normal 0)
    && eqb (fresh_of t (padded o)).run.table.loading (cond (eqb number 0) t.loading 0)
    && same (fresh_of t (padded o)).run.table.work (cond (eqb number 0) t.work (padded []))
    && same (fresh_of t (padded o)).run.table.promised (cond (eqb number 0) t.promised (padded []))
    && same (fresh_of t (padded o)).run.table.follows (cond (eqb number 0) t.follows (padded []))
    && same (fresh_of t (padded o)).run.order (cond (eqb number 0) (padded o) (padded []))
    && shows (fresh_of t (padded o)).run 0 [] [] []
holds (coming r number row) = same_said (slot_said (coming_slot r)) number row

-- N 2, G 1 work units per slot; a LO row of 2 work units (allowance 1 slot), due at 20, and a HI row of 4
abbrev two : Table
two = table_of (job 0 2 20 0 ∷ job 0 4 4 1 ∷ []) 2 1 0

-- that table with 3 slots of loading: the LO row's allowance is 4 slots
abbrev loaded : Table
loaded = table_of (job 0 2 20 0 ∷ job 0 4 4 1 ∷ []) 2 1 3

-- a LO row of 6 work units (allowance 3 slots), due at this clock, and a HI row of 8 with deadline 9
abbrev due : ℕ → Table
due d = table_of (job 0 6 d 0 ∷ job 0 8 9 1 ∷ []) 2 1 0

-- N 4, G 1 work units per slot, K slots of loading; a LO row of 8 work units (K + 2 slots at N) that is promised these, and a HI row of 4
-- that is promised those, both due at 20
abbrev promises : ℕ → ℕ → ℕ → Table
promises loading low high = table_of (promising 0 8 20 0 low ∷ promising 0 4 20 1 high ∷ []) 4 1 loading

-- two rows of 4 work units (2 slots at N): a LO row of this release, due at 5, and a row of this level, released at 0 and due at 9, that follows row w
abbrev waits : ℕ → ℕ → ℕ → Table
waits release level w = table_of (job release 4 5 0 ∷ following 0 4 9 level w ∷ []) 2 1 0

-- of these, the one in which LO row 2 follows LO row 1
abbrev pair : Table
pair = waits 0 0 1

-- a record of a table: order, clock, work units got, slots used, closing slots
abbrev of : Table → List ℕ → ℕ → List ℕ → List ℕ → List ℕ → Run
of t o clock got used closing = record_of t (padded o) (record { clock = clock; got = padded got; used = padded used; closing = padded closing })

-- a record of `two`: order, clock, work units got, slots used, closing slots
abbrev at : List ℕ → ℕ → List ℕ → List ℕ → List ℕ → Run
at = of two

abbrev order : List ℕ
order = 1 ∷ 2 ∷ []

-- a record of `two` whose LO row is done since clock 1
abbrev past : ℕ → Run
past clock = at order clock (2 ∷ []) (1 ∷ []) (1 ∷ [])

-- a fresh record of one row, these speeds (work units per slot) and this loading (slots)
abbrev one : ℕ → ℕ → ℕ → ℕ → ℕ → Run
one work deadline normal degraded loading =
    of (table_of (job 0 work deadline 1 ∷ []) normal degraded loading) (1 ∷ []) 0 [] [] []

abbrev cases : List Case
cases =
    stepped (past 1999999) 5 0 2
    ∷ stepped (past 2000000) 5 8 0
    ∷ stepped (past 2000001) 5 9 0
    ∷ forwarded (past 1999998) (1 ∷ 1 ∷ 1 ∷ []) 8 2
    ∷ forwarded (past 2000000) [] 0 0
    ∷ forwarded (past 2000001) [] 9 0
    -- row 1 stands in the order twice (rule 8.4)
    ∷ stepped (at (1 ∷ 1 ∷ []) 0 [] [] []) 5 9 0
    -- sound, and reached by no run: the LO row has used more slots than its allowance, and the HI row used slots and got nothing (rule 8.7)
    ∷ stepped (at order 9 (1 ∷ 0 ∷ []) (5 ∷ 6 ∷ []) (2 ∷ 0 ∷ [])) 5 0 2
    -- row 1 has 3 work units of 2 (rule 8.6)
    ∷ stepped (at order 9 (3 ∷ 0 ∷ []) (1 ∷ 0 ∷ []) (1 ∷ 0 ∷ [])) 5 9 0
    -- row 2 used 10 slots by clock 9 (rule 8.6)
    ∷ stepped (at order 9 (0 ∷ 0 ∷ []) (0 ∷ 10 ∷ []) (0 ∷ 0 ∷ [])) 5 9 0
    -- row 1 closed at 10 by clock 9 (rule 8.6)
    ∷ stepped (at order 9 (2 ∷ 0 ∷ []) (1 ∷ 0 ∷ []) (10 ∷ 0 ∷ [])) 5 9 0
    -- row 2 has all its work, and no closing slot (rule 8.7)
    ∷ stepped (at order 9 (0 ∷ 4 ∷ []) (0 ∷ 2 ∷ []) (0 ∷ 0 ∷ [])) 5 9 0
    -- row 1, LO, has used up its allowance of 1 slot, and has no closing slot (rule 8.7)
    ∷ stepped (at order 9 (0 ∷ 0 ∷ []) (1 ∷ 0 ∷ []) (0 ∷ 0 ∷ [])) 5 9 0
    -- row 2 has a closing slot, and work missing (rule 8.7)
    ∷ stepped (at order 9 (0 ∷ 0 ∷ []) (0 ∷ 0 ∷ []) (0 ∷ 1 ∷ [])) 5 9 0
    -- each column with a figure for row 3 of a table of two rows (rule 8.8)
    ∷ stepped (at order 9 (0 ∷ 0 ∷ 1 ∷ []) [] []) 5 9 0
    ∷ stepped (at order 9 [] (0 ∷ 0 ∷ 1 ∷ []) []) 5 9 0
    ∷ stepped (at order 9 [] [] (0 ∷ 0 ∷ 1 ∷ [])) 5 9 0
    -- each limit of a table (rule 8.4): the row count, N, G, K, a row
    ∷ stepped (one 1 1 2 1 0) 5 0 1
    ∷ stepped (of (table_of [] 2 1 0) [] 0 [] [] []) 5 9 0
    ∷ stepped (one 1 1 1001 1 0) 5 9 0
    ∷ stepped (one 1 1 2 0 0) 5 9 0
    ∷ stepped (one 1 1 2 3 0) 5 9 0
    ∷ stepped (one 1 1 2 1 16) 5 0 1
    ∷ stepped (one 1 1 2 1 17) 5 9 0
    ∷ stepped (one 0 1 2 1 0) 5 9 0
    ∷ stepped (one 1 1000001 2 1 0) 5 9 0
    -- what a slot leaves: the row that runs, an idle slot, a refusal
    ∷ leaves (at order 0 [] [] []) 1 1 (1 ∷ []) (1 ∷ []) (1 ∷ [])
    ∷ leaves (at order 1 (1 ∷ []) (1 ∷ []) (1 ∷ [])) 3 2 (1 ∷ 3 ∷ []) (1 ∷ 1 ∷ []) (1 ∷ [])
    ∷ leaves (at order 9 (2 ∷ 4 ∷ []) (1 ∷ 2 ∷ []) (1 ∷ 3 ∷ [])) 5 10 (2 ∷ 4 ∷ []) (1 ∷ 2 ∷ []) (1 ∷ 3 ∷ [])
    ∷ leaves (past 2000000) 5 2000000 (2 ∷ []) (1 ∷ []) (1 ∷ [])
    ∷ leaves (past 2000001) 5 2000001 (2 ∷ []) (1 ∷ []) (1 ∷ [])
    -- with loading (rules 2.14, 8.7): a loading slot counts as used and brings nothing; the LO row with 3 of its 4 slots used is open, and
    -- closes with the fourth; open with 4 it is refused, closed with 3 too; so is a HI row that is closed with work missing
    ∷ leaves (of loaded order 2 [] (2 ∷ []) []) 9 3 [] (3 ∷ []) []
    ∷ leaves (of loaded order 3 [] (3 ∷ []) []) 1 4 (1 ∷ []) (4 ∷ []) (4 ∷ [])
    ∷ leaves (of loaded order 3 [] (3 ∷ []) []) 9 4 (2 ∷ []) (4 ∷ []) (4 ∷ [])
    ∷ stepped (of loaded order 9 [] (4 ∷ []) []) 5 9 0
    ∷ stepped (of loaded order 9 [] (3 ∷ []) (3 ∷ [])) 5 9 0
    ∷ stepped (of loaded order 9 [] (4 ∷ []) (4 ∷ [])) 5 0 2
    ∷ stepped (of loaded order 9 [] (4 ∷ 9 ∷ []) (4 ∷ 9 ∷ [])) 5 9 0
    -- rows that still load are held to the same: open with all its work (row 2) and closed with neither (row 1) are refused, closed with all
    -- its work and open with some of it are not
    ∷ stepped (of loaded order 9 (0 ∷ 4 ∷ []) (0 ∷ 1 ∷ []) []) 5 9 0
    ∷ stepped (of loaded order 9 [] (1 ∷ []) (1 ∷ [])) 5 9 0
    ∷ stepped (of loaded order 9 (2 ∷ []) (1 ∷ []) (1 ∷ [])) 5 0 2
    ∷ stepped (of loaded order 9 (1 ∷ []) (1 ∷ []) []) 5 0 1
    -- sound, and reached by no run: the HI row has work of a slot in which it still loaded; it goes on loading
    ∷ leaves (of loaded order 9 (2 ∷ 3 ∷ []) (4 ∷ 1 ∷ []) (4 ∷ [])) 5 10 (2 ∷ 3 ∷ []) (4 ∷ 2 ∷ []) (4 ∷ [])
    -- fresh records (rule 8.2)
    ∷ begun two order 0
    ∷ begun two (1 ∷ 1 ∷ []) 6
    ∷ begun (table_of [] 2 1 17) [] 3
    ∷ begun (table_of (job 0 1 1 0 ∷ []) 2 3 17) (1 ∷ []) 4
    ∷ begun (table_of (job 1 1 1 0 ∷ []) 2 1 16) (1 ∷ []) 5
    ∷ begun (table_of (job 1 1 1 0 ∷ []) 2 1 17) (1 ∷ []) 11
    ∷ begun loaded order 0
    ∷ begun (table_of (job 0 1 1 0 ∷ []) 2 1 17) (1 ∷ 1 ∷ []) 11
    -- the coming slot (rule 8.15)
    ∷ coming (at order 0 [] [] []) 0 1
    ∷ coming (at order 9 (2 ∷ 4 ∷ []) (1 ∷ 2 ∷ []) (1 ∷ 3 ∷ [])) 0 0
    ∷ coming (past 2000000) 8 0
    ∷ coming (past 2000001) 9 0
    -- a LO row due at 4 (rule 8.7): open before that clock, refused open at it and after it
    ∷ stepped (of (due 4) (2 ∷ 1 ∷ []) 3 [] [] []) 5 0 2
    ∷ stepped (of (due 4) (2 ∷ 1 ∷ []) 4 [] [] []) 5 9 0
    ∷ stepped (of (due 4) (2 ∷ 1 ∷ []) 5 [] [] []) 5 9 0
    ∷ forwarded (of (due 4) (2 ∷ 1 ∷ []) 4 [] [] []) [] 9 0
    ∷ coming (of (due 4) (2 ∷ 1 ∷ []) 4 [] [] []) 9 0
    -- closed at 4 with work missing and allowance left, by its deadline; closed so before or after it is refused
    ∷ stepped (of (due 4) order 4 (5 ∷ []) (2 ∷ []) (4 ∷ [])) 5 0 2
    ∷ stepped (of (due 4) order 9 [] [] (4 ∷ [])) 5 0 2
    ∷ stepped (of (due 4) order 9 (5 ∷ []) (2 ∷ []) (3 ∷ [])) 5 9 0
    ∷ stepped (of (due 4) order 9 (5 ∷ []) (2 ∷ []) (5 ∷ [])) 5 9 0
    -- closed after its deadline, done or with its allowance used up: sound, and reached by no run
    ∷ stepped (of (due 4) order 9 (6 ∷ []) (2 ∷ []) (5 ∷ [])) 5 0 2
    ∷ stepped (of (due 4) order 9 (5 ∷ []) (3 ∷ []) (5 ∷ [])) 5 0 2
    -- a HI row is not closed by its deadline 9, and is open after it
    ∷ stepped (of (due 4) order 9 [] [] (4 ∷ 9 ∷ [])) 5 9 0
    ∷ stepped (of (due 4) order 12 [] [] (4 ∷ [])) 5 0 2
    -- the slot before the deadline: the waiting row is closed; the running row is done, or short of one work unit and closed, or out of slots
    ∷ leaves (of (due 4) (2 ∷ 1 ∷ []) 3 (2 ∷ []) (1 ∷ []) []) 1 4 (2 ∷ 1 ∷ []) (1 ∷ 1 ∷ []) (4 ∷ [])
    ∷ leaves (of (due 4) order 3 (4 ∷ []) (1 ∷ []) []) 2 4 (6 ∷ []) (2 ∷ []) (4 ∷ [])
    ∷ leaves (of (due 4) order 3 (4 ∷ []) (1 ∷ []) []) 1 4 (5 ∷ []) (2 ∷ []) (4 ∷ [])
    ∷ leaves (of (due 4) order 3 (4 ∷ []) (2 ∷ []) []) 1 4 (5 ∷ []) (3 ∷ []) (4 ∷ [])
    ∷ leaves (of (due 4) order 2 (4 ∷ []) (1 ∷ []) []) 1 3 (5 ∷ []) (2 ∷ []) []
    ∷ leaves (of (due 9) (2 ∷ 1 ∷ []) 8 [] [] []) 0 9 [] (0 ∷ 1 ∷ []) (9 ∷ [])
    -- the latest deadline there is
    ∷ leaves (of (due 1000000) (2 ∷ 1 ∷ []) 999998 [] [] []) 1 999999 (0 ∷ 1 ∷ []) (0 ∷ 1 ∷ []) []
    ∷ leaves (of (due 1000000) (2 ∷ 1 ∷ []) 999999 [] [] []) 1 1000000 (0 ∷ 1 ∷ []) (0 ∷ 1 ∷ []) (1000000 ∷ [])
    ∷ stepped (of (due 1000000) (2 ∷ 1 ∷ []) 1000000 [] [] []) 5 9 0
    -- promised 5 work units, which take 5 slots at G: having used its need of 2 slots at N the LO row is open, and refused closed; with 4 used
    -- too; the fifth slot closes it, and with 5 used it is refused open
    ∷ stepped (of (promises 0 5 0) order 2 (2 ∷ []) (2 ∷ []) []) 1 0 1
    ∷ stepped (of (promises 0 5 0) order 2 (2 ∷ []) (2 ∷ []) (2 ∷ [])) 1 9 0
    ∷ stepped (of (promises 0 5 0) order 4 (4 ∷ []) (4 ∷ []) (4 ∷ [])) 1 9 0
    ∷ stepped (of (promises 0 5 0) order 5 (5 ∷ []) (5 ∷ []) []) 1 9 0
    ∷ stepped (of (promises 0 5 0) order 5 (5 ∷ []) (5 ∷ []) (5 ∷ [])) 1 0 2
    ∷ leaves (of (promises 0 5 0) order 1 (1 ∷ []) (1 ∷ []) []) 1 2 (2 ∷ []) (2 ∷ []) []
    ∷ leaves (of (promises 0 5 0) order 3 (3 ∷ []) (3 ∷ []) []) 1 4 (4 ∷ []) (4 ∷ []) []
    ∷ leaves (of (promises 0 5 0) order 4 (4 ∷ []) (4 ∷ []) []) 1 5 (5 ∷ []) (5 ∷ []) (5 ∷ [])
    -- it is done with all its work, allowance left or not, and not with its promised part; the clock closes it at its deadline
    ∷ leaves (of (promises 0 5 0) order 2 (4 ∷ []) (2 ∷ []) []) 1 3 (5 ∷ []) (3 ∷ []) []
    ∷ leaves (of (promises 0 5 0) order 2 (4 ∷ []) (2 ∷ []) []) 9 3 (8 ∷ []) (3 ∷ []) (3 ∷ [])
    ∷ leaves (of (promises 0 5 0) order 19 (3 ∷ []) (3 ∷ []) []) 1 20 (4 ∷ []) (4 ∷ []) (20 ∷ [])
    -- promised 2 work units or 1, which take no more slots at G than the 2 of its need at N, it is closed by the second slot and not by the first
    ∷ leaves (of (promises 0 2 0) order 1 (1 ∷ []) (1 ∷ []) []) 1 2 (2 ∷ []) (2 ∷ []) (2 ∷ [])
    ∷ leaves (of (promises 0 1 0) order 0 [] [] []) 1 1 (1 ∷ []) (1 ∷ []) []
    ∷ leaves (of (promises 0 1 0) order 1 (1 ∷ []) (1 ∷ []) []) 1 2 (2 ∷ []) (2 ∷ []) (2 ∷ [])
    -- loading counts in each need: 3 + 5 slots, of which the eighth closes it
    ∷ leaves (of (promises 3 5 0) order 6 (3 ∷ []) (6 ∷ []) []) 1 7 (4 ∷ []) (7 ∷ []) []
    ∷ leaves (of (promises 3 5 0) order 7 (4 ∷ []) (7 ∷ []) []) 1 8 (5 ∷ []) (8 ∷ []) (8 ∷ [])
    -- promised all its work it is let through; promised more, or a HI row promised anything, is refused (rules 5.9, 8.4)
    ∷ stepped (of (promises 0 8 0) order 0 [] [] []) 1 0 1
    ∷ stepped (of (promises 0 9 0) order 0 [] [] []) 1 9 0
    ∷ stepped (of (promises 0 0 1) order 0 [] [] []) 1 9 0
    ∷ forwarded (of (promises 0 9 0) order 0 [] [] []) [] 9 0
    ∷ coming (of (promises 0 0 1) order 0 [] [] []) 9 0
    -- and so are their fresh records: 12 comes after 5 and before 6 (rules 8.4, 11.4)
    ∷ begun (promises 0 8 0) order 0
    ∷ begun (promises 0 9 0) order 12
    ∷ begun (promises 0 0 1) (1 ∷ 1 ∷ []) 12
    ∷ begun (table_of (promising 0 1 1 0 2 ∷ job 1 1 1 0 ∷ []) 2 1 0) order 5
    -- row 2 follows row 1: the slot runs row 1 while that is open
    ∷ coming (of pair order 0 [] [] []) 0 1
    ∷ leaves (of pair order 0 [] [] []) 1 1 (1 ∷ []) (1 ∷ []) []
    ∷ stepped (of pair order 1 (1 ∷ []) (1 ∷ []) []) 1 0 1
    -- it runs once row 1 is done, or dropped with its allowance used up, or dropped by the clock at its deadline (rule 2.15)
    ∷ leaves (of pair order 1 (2 ∷ []) (1 ∷ []) []) 2 2 (4 ∷ []) (2 ∷ []) (2 ∷ [])
    ∷ leaves (of pair order 2 (4 ∷ []) (2 ∷ []) (2 ∷ [])) 2 3 (4 ∷ 2 ∷ []) (2 ∷ 1 ∷ []) (2 ∷ [])
    ∷ leaves (of pair order 1 (1 ∷ []) (1 ∷ []) []) 1 2 (2 ∷ []) (2 ∷ []) (2 ∷ [])
    ∷ leaves (of pair order 2 (2 ∷ []) (2 ∷ []) (2 ∷ [])) 2 3 (2 ∷ 2 ∷ []) (2 ∷ 1 ∷ []) (2 ∷ [])
    ∷ leaves (of pair order 4 [] [] []) 1 5 (1 ∷ []) (1 ∷ []) (5 ∷ [])
    ∷ leaves (of pair order 5 (1 ∷ []) (1 ∷ []) (5 ∷ [])) 2 6 (1 ∷ 2 ∷ []) (1 ∷ 1 ∷ []) (5 ∷ [])
    ∷ forwarded (of pair order 0 [] [] []) (1 ∷ 1 ∷ 1 ∷ []) 0 3
    -- sound, and reached by no run: row 2 has used slots, or is done, and row 1 is open; the slot goes to row 1 (rule 8.7)
    ∷ leaves (of pair order 3 (0 ∷ 1 ∷ []) (0 ∷ 1 ∷ []) []) 2 4 (2 ∷ 1 ∷ []) (1 ∷ 1 ∷ []) []
    ∷ stepped (of pair order 3 (0 ∷ 4 ∷ []) (0 ∷ 2 ∷ []) (0 ∷ 2 ∷ [])) 2 0 1
    -- an order with the follower above the row that it follows is refused, and without the wait it is an order (rules 5.11, 8.4)
    ∷ stepped (of pair (2 ∷ 1 ∷ []) 0 [] [] []) 1 9 0
    ∷ forwarded (of pair (2 ∷ 1 ∷ []) 0 [] [] []) [] 9 0
    ∷ coming (of pair (2 ∷ 1 ∷ []) 0 [] [] []) 9 0
    ∷ stepped (of (waits 0 0 0) (2 ∷ 1 ∷ []) 0 [] [] []) 1 0 2
    -- waits that 13, 14 and 15 refuse; without its wait each of these tables is let through (rules 5.10, 8.4)
    ∷ stepped (of (waits 0 0 2) order 0 [] [] []) 1 9 0
    ∷ stepped (of (waits 0 0 65) order 0 [] [] []) 1 9 0
    ∷ stepped (of (waits 1 0 1) order 0 [] [] []) 1 9 0
    ∷ stepped (of (waits 1 0 0) order 0 [] [] []) 1 0 2
    ∷ stepped (of (waits 0 1 1) order 0 [] [] []) 1 9 0
    ∷ stepped (of (waits 0 1 0) order 0 [] [] []) 1 0 1
    ∷ forwarded (of (waits 1 0 1) order 0 [] [] []) [] 9 0
    ∷ coming (of (waits 0 1 1) order 0 [] [] []) 9 0
    -- and so are their fresh records: 13 to 15 come after 12 and before 6 (rules 8.2, 11.4)
    ∷ begun pair order 0
    ∷ begun (waits 0 0 2) (1 ∷ 1 ∷ []) 13
    ∷ begun (waits 1 0 1) (1 ∷ 1 ∷ []) 14
    ∷ begun (waits 0 1 1) (1 ∷ 1 ∷ []) 15
    ∷ begun pair (2 ∷ 1 ∷ []) 6
    ∷ begun (table_of (following 0 1 1 0 1 ∷ promising 0 1 1 0 2 ∷ []) 2 1 0) order 12
    ∷ []

-- every case of a list holds
abbrev all_hold : List Case → Bool
all_hold [] = true
all_hold (c ∷ cs) = holds c && all_hold cs

pub cases_hold : T (all_hold cases)
unfolding slot_said forward_said row_sound tail_sound is_sound next_run chosen_row coming_slot one_slot work_on forward_over fresh_of check_number fresh
    padded table_of work_slots refusal_number is_arrangement is_order check_order check_both is_pending is_waiting is_ready chosen is_over brought serve slot close_late run_slot row_ok
    tail_ok promise_ok check_wait check_table
cases_hold = tt
