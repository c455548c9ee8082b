-- What the exported function says and leaves is what the reader answers.
use Rattle.conclusions.specs.Author.{authored}
use Rattle.conclusions.proofs.table_author.Goals as goal

pub returns : goal.returns
returns c = let e = c.jb_read.ensures in rw (e.0, e.1) (authored _)
