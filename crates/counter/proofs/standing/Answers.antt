use Rattle.std.proofs.Common.{ℕ, ◌≡◌, ◌+◌, ◌-◌, ◌∙◌, ap, arith}
use Rattle.sweep.specs.Masks.{bit}
use Rattle.counter.specs.Lent.{stands_at}
use Rattle.counter.specs.Testing.{standing_clear}
use Rattle.counter.proofs.standing.Goals as goal

pub with-rows-requires : goal.with-rows-requires
with-rows-requires c =
    let l = c.loop-k in
    let z : l.k + 1 - 1 ≡ l.k = omega arith in (
      omega arith,
      omega (arith, c.requires.0.0.few, c.loop-k-test.true),
      ap (bit l.rows) z ∙ ap (λ (m : ℕ). bit m l.k) l.invariant ∙ standing_clear (stands_at c.args.parts.now c.args.left c.args.word) l.k,
    )
