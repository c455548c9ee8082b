-- The demand of a row under the rules: what is left of its cap while it is released and open.
use Prim.Native.Nat.{ℕ, ◌-◌}
use Rattle.std.specs.Prelude.{◌&&◌, ltb}
use Rattle.std.proofs.Math.Dec.{eqb}
use Rattle.rules.specs.declared.Table.{Table}
use Rattle.rules.specs.Rows.{release_of}
use Rattle.theory.specs.Tests.{gate}
use Rattle.theory.specs.Backlog.{brings}
use Rattle.theory.specs.Caps.{cap}
use Rattle.theory.specs.Cells.{Cell}

-- in slots, at clock u, of row i with cell x
unfoldable pub left : Table → ℕ → ℕ → ℕ → Cell → ℕ
left t s u i x = gate (ltb (release_of t i) u && eqb x.closing 0) (cap t s i - x.used)

-- the slots that row i brings with slot u
abbrev pub bring : Table → ℕ → ℕ → ℕ → ℕ
bring t s u i = brings (release_of t) (cap t s) u i
