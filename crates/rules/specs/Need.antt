-- Need: how many slots a job takes at a speed, those that load it first and a slot begun counting as a whole one (rules 1.8, 1.10).
use Rattle.std.specs.Prelude.{ℕ, ◌+◌, ◌-◌, ◌/◌}

-- the slots that c work units take at s work units per slot: their quotient, rounded up; 0 at speed 0 (rule 1.8)
unfoldable pub work_slots : ℕ → ℕ → ℕ
work_slots c s = (c + (s - 1)) / s

-- the slots that a job of c work units takes at s work units per slot: the k slots that load it, and those of its work (rules 1.8, 1.10)
abbrev pub need : ℕ → ℕ → ℕ → ℕ
need k c s = k + work_slots c s
