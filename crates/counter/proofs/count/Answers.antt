-- A refused table answers for itself; an accepted one is refused for its rows or its scratch, or counted.
use mathlib.Core.Path.{sym, ap, ◌∙◌}
use native.Mathlib.Omega.{arith}
use Rattle.choices.specs.Choices.{Counting}
use Rattle.counter.specs.Answers.{refused_table, refused_rows, refused_room, passed_count}
use Rattle.counter.proofs.count.Goals as goal

pub returns-in-Err : goal.returns-in-Err
returns-in-Err c =
    let a = c.args in
    let e = refused_table a.t a.scratch.now _ (sym c.in-Err.ensures) in
    (c.refused.ensures ∙ sym (ap (λ (x : Counting). x.said) e), sym (ap (λ (x : Counting). x.scratch) e))

pub returns-then-t-gt12 : goal.returns-then-t-gt12
returns-then-t-gt12 c =
    let a = c.args in
    let e = refused_rows a.t a.scratch.now (sym c.in-Ok.ensures) c.if-t-gt12.true in
    (c.refused-then-t-gt12.ensures ∙ sym (ap (λ (x : Counting). x.said) e), sym (ap (λ (x : Counting). x.scratch) e))

pub returns-then-scratch-lt4096 : goal.returns-then-scratch-lt4096
returns-then-scratch-lt4096 c =
    let a = c.args in
    let e = refused_room a.t a.scratch.now (sym c.in-Ok.ensures) (omega arith) c.if-scratch-lt4096.true in
    (c.refused-then-scratch-lt4096.ensures ∙ sym (ap (λ (x : Counting). x.said) e), sym (ap (λ (x : Counting). x.scratch) e))

pub returns-else-scratch-lt4096 : goal.returns-else-scratch-lt4096
returns-else-scratch-lt4096 c =
    let a = c.args in
    let e = passed_count a.t a.scratch.now (sym c.in-Ok.ensures) (omega arith) (omega arith) in
    (c.count_words.ensures.0 ∙ sym (ap (λ (x : Counting). x.said) e), c.count_words.ensures.1 ∙ sym (ap (λ (x : Counting). x.scratch) e))
