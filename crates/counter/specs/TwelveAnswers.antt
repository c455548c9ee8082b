-- What counting answers for the two tables of twelve rows with just 4,096 numbers lent (rule 13.19): number 0, the count, and the count again in the last entry.
use Rattle.std.specs.Prelude.{ℕ, ◌-◌, ◌^◌, ◌≤◌, List, ◌≡◌, refl, length, get_or, replicate}
use Rattle.std.proofs.Common.{sym, ap, ◌∙◌, arith}
use Rattle.std.proofs.lemmas.List.{length-replicate}
use Rattle.rules.specs.declared.Table.{Table}
use Rattle.rules.specs.Judge.{table_of}
use Rattle.rules.specs.Numbers.{check_number}
use Rattle.rules.specs.Tables.{Accepted}
use Rattle.theory.specs.Facts.{facts}
use Rattle.choices.specs.Choices.{Counting, choices, choices_of, count_of}
use Rattle.lowest.proofs.Counted.{choices_all}
use Rattle.lowest.proofs.TwelveCases.{wherever_accepted, twelve_every, rising_accepted, twelve_one}
use Rattle.lowest.specs.TwelveCases.{wherever, rising}
use Rattle.counter.specs.Answers.{passed_count}
use Rattle.counter.specs.Words.{filled_entry}

abbrev sevens : List ℕ
sevens = replicate 4096 7

pub record Answered (t : Table) (count : ℕ) : Type 0 where
  pub number : check_number (count_of t sevens).said.check ≡ 0
  pub counts : (count_of t sevens).said.count ≡ count
  pub last : get_or (count_of t sevens).scratch 4095 0 ≡ count

answered : (t : Table) → Accepted t → t.n ≡ 12 → (count : ℕ) → choices t ≡ count → Answered t count
unfolding check_number
answered t a twelve count e =
    let room : 4096 ≤ length sevens = omega (arith, length-replicate {A = ℕ} 4096 7) in
    let z = passed_count t sevens a (omega arith) room in
    record {
      number = ap (λ (r : Counting). check_number r.said.check) z;
      counts = ap (λ (r : Counting). r.said.count) z ∙ e;
      last = ap (λ (r : Counting). get_or r.scratch 4095 0) z ∙ filled_entry t (facts t a) sevens (2 ^ t.n) 4095 (omega (arith, ap (λ (n : ℕ). 2 ^ n) twelve))
          ∙ ap (λ (n : ℕ). choices_of t (2 ^ n - 1)) (sym twelve) ∙ sym (choices_all t (facts t a)) ∙ e;
    }

pub twelve_answered : Answered wherever 479001600 × Answered rising 1
unfolding table_of
twelve_answered = (answered wherever wherever_accepted refl 479001600 twelve_every, answered rising rising_accepted refl 1 twelve_one)
