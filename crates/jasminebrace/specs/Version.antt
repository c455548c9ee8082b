-- The number of the C interface. It is raised whenever a size, a layout or the meaning of a number in c/jasminebrace.h changes, and not for a
-- function that is new, with a number that only it gives; JB_VERSION there is the same number. It is 5 since a row tells which row it
-- follows, in tables, in lent rows and in sheets (rule 1.12).
use Rattle.std.specs.Prelude.{ℕ}

abbrev pub version : ℕ
version = 5
