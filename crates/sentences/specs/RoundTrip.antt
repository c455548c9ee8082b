-- There and back: reading the sentence of an answer gives that answer and whose it is; and back and there: what the reader takes is the sentence of what
-- it read. So no two answers have one sentence (rules 24.12 to 24.14).
use Rattle.std.specs.Prelude.{ℕ, ◌^◌, ◌≤◌, ◌<◌, Bool, true, not, List, ◌≡◌, eqb, leb, ℤ, pos, negsuc, length}
use Rattle.rules.specs.Lists.{all, count}
use Rattle.sentences.specs.declared.PlanAnswer.{PlanAnswer}
use Rattle.sentences.specs.declared.JudgeAnswer.{JudgeAnswer}

-- ---- what fits the fields of an answer (rule 24.1)
pub record PlanFits (a : PlanAnswer) : Type 0 where
  pub number : a.number ≤ 4294967295
  pub left : a.left < 2 ^ 64
  pub long : length a.order ≡ 64
  pub small : all (λ x. leb x 255) a.order ≡ true
  pub trials : a.trials ≤ 4294967295

-- a slack from -2,147,483,648 to 2,147,483,647
abbrev pub SlackFits : ℤ → Type 0
SlackFits (pos v) = v ≤ 2147483647
SlackFits (negsuc m) = m ≤ 2147483647

pub record JudgeFits (a : JudgeAnswer) : Type 0 where
  pub number : a.number ≤ 4294967295
  pub yes : a.yes ≤ 4294967295
  pub row : a.row ≤ 4294967295
  pub slack : SlackFits a.slack

-- what byte 15 says
abbrev pub has_minus : List ℕ → Bool
has_minus bytes = not (eqb (count 45 bytes) 0)
