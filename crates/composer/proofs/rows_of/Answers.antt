use Rattle.std.proofs.Common.{ℕ, suc, ◌+◌, ◌-◌, ◌<◌, ◌≡◌, List, [], ◌∷◌, ◌++◌, length, take, set, sym, ap, ◌∙◌, add-one, arith, length-set, length-append, take-suc-set}
use Rattle.sweep.specs.Masks.{is_left}
use Rattle.composer.specs.Lists.{among, among_all, among_few, row_there, row_absent}
use Rattle.composer.proofs.rows_of.Goals as goal
use Rattle.composer.proofs.rows_of.Goals.{then-has, else-has}

pub bounds-rows-many : goal.bounds-rows-many
bounds-rows-many c = omega (arith, among_few c.args.word (c.loop-row.row - 1))

pub overflow_add-many : goal.overflow_add-many
overflow_add-many c = omega (arith, among_few c.args.word (c.loop-row.row - 1))

pub loop-row-preserved : goal.loop-row-preserved
loop-row-preserved c =
    let l = c.loop-row in
    let word = c.args.word in
    let k = l.row - 1 in
    let next : l.row + 1 - 1 ≡ suc k = omega arith in
    let now : l.row ≡ suc k = omega arith in
    let few : l.many < length l.rows = omega (arith, among_few word k) in
    elim c.if-has.branch [
      | then-has w ↦
          let more : among word (suc k) ≡ among word k ++ (suc k ∷ []) = row_there word k (ap (is_left word) (sym now) ∙ sym c.has.ensures ∙ w.if-has.true) in (
            rw (w.rows-is, length-set) l.invariant.0,
            rw (w.many-is, next) (omega (arith, ap length more, length-append (among word k) (suc k ∷ []), l.invariant.1)),
            rw (w.rows-is, w.many-is, next, more)
                (ap (λ (n : ℕ). take n (set l.rows l.many l.row)) (add-one l.many)
                ∙ take-suc-set l.rows l.many l.row few
                ∙ ap (λ (r : List ℕ). r ++ (l.row ∷ [])) l.invariant.2
                ∙ ap (λ (x : ℕ). among word k ++ (x ∷ [])) now),
          )
      | else-has w ↦
          let none : among word (suc k) ≡ among word k = row_absent word k (ap (is_left word) (sym now) ∙ sym c.has.ensures ∙ w.if-has.false) in (
            rw w.rows-is l.invariant.0,
            rw (w.many-is, next, none) l.invariant.1,
            rw (w.rows-is, w.many-is, next, none) l.invariant.2,
          )
    ]

pub returns : goal.returns
returns c =
    let l = c.loop-row in
    let e : l.row - 1 ≡ 64 = omega arith in
    record {
      within = omega (arith, among_few c.args.word (l.row - 1), l.invariant.1);
      these = l.invariant.2 ∙ ap (among c.args.word) e ∙ among_all c.args.word;
    }
