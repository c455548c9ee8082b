-- Text written into lent bytes, any number of them: the room that it needs, and what the bytes are afterwards. Sheets (section 15 of the
-- rules), reports (section 16) and sentences (rule 24.9) are written so.
use Rattle.std.specs.Prelude.{ℕ, cond, List, ◌++◌, ltb, length, drop, Ok, Err}
use Rattle.rules.specs.declared.Refusal.TheVariants.{NoRoom}
use Rattle.rules.specs.declared.Writing.{Writing}
use Rattle.rules.specs.Checks.{Check, Passed, Refused}

-- check 10: of a text of this size in bytes, there are as many bytes to write to, or more (rules 10.10, 15.4, 16.7, 24.9)
unfoldable pub check_room : ℕ → ℕ → Check
check_room size room = cond (ltb room size) (Refused NoRoom) Passed

-- what the call says, and all of the lent bytes as it leaves them (rules 15.2, 16.5)
pub record WrittenBack : Type 0 where
  pub said : Writing
  pub bytes : List ℕ

-- where no check refuses the text stands at the start of the lent bytes, and those after it are as they were; on a refusal all of them
-- are, and the length is 0 (rules 15.2, 15.3, 15.5, 16.5, 16.6, 16.8, 24.9)
abbrev pub write_checked : Check → List ℕ → List ℕ → WrittenBack
write_checked (Ok tt) text lent = record { said = record { check = Passed; size = length text }; bytes = text ++ drop (length text) lent }
write_checked (Err r) text lent = record { said = record { check = Refused r; size = 0 }; bytes = lent }
