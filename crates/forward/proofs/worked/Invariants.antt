use Rattle.std.proofs.Common.{◌+◌, ◌≤◌, ◌≡◌, true, drop}
use Rattle.record.specs.Records.{is_sound, due_of, work_on}
use Rattle.record.specs.Kept.{Sized}
use Rattle.forward.proofs.worked.Given as goal

abbrev pub invariant-loop-supply : goal.invariant-loop-supply
invariant-loop-supply l = (l.slots ≡ l.supply-index)
    × (l.initial.run.clock + l.supply-index ≡ l.run.clock)
    × Sized l.run
    × (is_sound l.run ≡ true)
    × (work_on l.supply-index (drop l.supply-index l.supplies) l.run ≡ work_on 0 l.supplies l.initial.run)
    × (l.due ≤ due_of l.run)
