-- Two tables of twelve rows (rule 13.19), whose 479,001,600 arrangements are too many to be listed: their choices are computed through the lowest rows.
use Rattle.std.specs.Prelude.{map, replicate}
use Rattle.rules.specs.declared.Table.{Table}
use Rattle.rules.specs.Cases.{job}
use Rattle.rules.specs.Judge.{table_of}
use Rattle.rules.specs.Lists.{rows_to}

-- each row has time for all of them
abbrev pub wherever : Table
wherever = table_of (replicate 12 (job 0 1 12 0)) 1 1 0

-- row i has to be done by slot i
abbrev pub rising : Table
rising = table_of (map (λ i. job 0 1 i 0) (rows_to 12)) 1 1 0
