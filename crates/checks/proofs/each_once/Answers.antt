use Rattle.std.proofs.Common.{◌≡◌, ℕ, ◌+◌, ◌≤◌, Bool, List, eqb, get_or, refl, sym, ap, ◌∙◌, arith, rules, eq-eqb, ne_eqb}
use Rattle.rules.specs.Lists.{all, count, rows_to}
use Rattle.checks.specs.RowLists.{all_rows_more, all_rows_fail, all_rows_same}
use Rattle.checks.proofs.each_once.Goals as goal

-- row i is tallied once; row i stands in the order once
abbrev one : List ℕ → ℕ → Bool
one times i = eqb (get_or times i 0) 1

abbrev once : List ℕ → ℕ → Bool
once order i = eqb (count i order) 1

agree : (times order : List ℕ) (n : ℕ) → ((i : ℕ) → i ≤ 64 → get_or times i 0 ≡ count i order) → n ≤ 64
    → all (one times) (rows_to n) ≡ all (once order) (rows_to n)
agree times order n tallied h =
    all_rows_same (one times) (once order) n (λ i b. ap (λ (x : ℕ). eqb x 1) (tallied i (omega arith)))

pub loop-k-init : goal.loop-k-init
loop-k-init c = (search rules, search rules, refl)

pub returns-then-times-k-ne1 : goal.returns-then-times-k-ne1
returns-then-times-k-ne1 c =
    let times = c.tally-times.result in
    let l = c.loop-k in
    let other = ne_eqb (get_or times (l.k + 1) 0) 1 (λ e. omega arith) in
    sym (all_rows_fail (one times) l.k c.args.n (omega arith) other) ∙ agree times c.args.order c.args.n c.tally-times.ensures (omega arith)

pub loop-k-preserved : goal.loop-k-preserved
loop-k-preserved c =
    let times = c.tally-times.result in
    let l = c.loop-k in
    let same = eq-eqb (get_or times (l.k + 1) 0) 1 (omega arith) in
    (omega arith, omega arith, all_rows_more (one times) l.k ∙ rw l.invariant.2 same)

pub returns : goal.returns
returns c =
    let l = c.loop-k in
    let e : l.k ≡ c.args.n = omega arith in
    sym (rw e at l.invariant.2) ∙ agree c.tally-times.result c.args.order c.args.n c.tally-times.ensures (omega arith)
