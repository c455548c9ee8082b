-- Of no entries nothing is put; else the opening, the first, the others and the closing bracket, one after the other.
use Rattle.std.proofs.Common.{ℕ, List, [], ◌∷◌, ◌≡◌, ◌+◌, ◌≤◌, ◌<◌, length, get_or, take, sym, ap, arith, length-append, take_all}
use Rattle.rules.specs.Lists.{joined}
use Rattle.texts.specs.Decimals.{decimal}
use Rattle.texts.specs.Quoted.{bytes, together}
use Rattle.sentences.specs.Sentences.{item, listed}
use Rattle.decimals.specs.Decimal.{entry_more, entries_within}
use Rattle.fields.specs.Texts.{puts_as, puts_then, puts_piece}
use Rattle.phrases.specs.Entries.{later, listed_whole, parts_long}
use Rattle.phrases.proofs.put_listed.Goals as goal

-- the first i of the entries after the first, and entry i, are no longer than all of them
one_within : (xs : List ℕ) (i : ℕ) → i < length xs
    → length (joined item (take i xs)) + (2 + length (decimal (get_or xs i 0))) ≤ length (joined item xs)
one_within xs i h =
    omega (
      arith,
      ap length (entry_more item xs i h),
      length-append (joined item (take i xs)) (item (get_or xs i 0)),
      length-append (bytes ", ") (decimal (get_or xs i 0)),
      entries_within item xs (i + 1),
    )

pub put_bytes-requires-in-loop-entry : goal.put_bytes-requires-in-loop-entry
put_bytes-requires-in-loop-entry c =
    omega (
      arith,
      one_within (later c.args.entries.now) c.loop-entry.entry-index c.loop-entry-test.true,
      parts_long c.args.opening.now c.args.entries.now c.in-len1-up.len_at_least,
    )

pub put_decimal-requires-in-loop-entry : goal.put_decimal-requires-in-loop-entry
put_decimal-requires-in-loop-entry c =
    omega (
      arith,
      one_within (later c.args.entries.now) c.loop-entry.entry-index c.loop-entry-test.true,
      parts_long c.args.opening.now c.args.entries.now c.in-len1-up.len_at_least,
    )

pub loop-entry-preserved : goal.loop-entry-preserved
loop-entry-preserved c =
    puts_piece item (later c.args.entries.now) c.loop-entry.entry-index c.loop-entry-test.true c.loop-entry.invariant
    (puts_then c.put_bytes-in-loop-entry.ensures c.put_decimal-in-loop-entry.ensures)

pub put_byte-requires : goal.put_byte-requires
put_byte-requires c =
    omega (
      arith,
      entries_within item (later c.args.entries.now) c.loop-entry.entry-index,
      parts_long c.args.opening.now c.args.entries.now c.in-len1-up.len_at_least,
    )

pub returns-after-loop-entry : goal.returns-after-loop-entry
returns-after-loop-entry c =
    let xs = c.args.entries.now in
    let e : listed c.args.opening.now xs ≡ together (c.args.opening.now ∷ decimal (get_or xs 0 0) ∷ joined item (later xs) ∷ bytes ")" ∷ []) =
    listed_whole c.args.opening.now xs c.in-len1-up.len_at_least in
    puts_as (sym e)
    (puts_then c.put_bytes.ensures
    (puts_then c.put_decimal.ensures
    (puts_then (puts_as (ap (joined item) (take_all c.loop-entry.entry-index (later xs) c.loop-entry-test.false)) c.loop-entry.invariant) c.put_byte.ensures)))
