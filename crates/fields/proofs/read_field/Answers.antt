use Rattle.std.proofs.Common.{ℕ, ◌*◌, ◌≤◌, ◌≡◌, get_or, sym, ◌∙◌, arith, rules}
use Rattle.texts.specs.Fields.{weights, digit_of}
use Rattle.fields.specs.Bytes.{byte_start, byte_go, byte_stop, byte_end, adds_le}
use Rattle.fields.proofs.read_field.Goals as goal

-- what the byte adds
added : (i b d : ℕ) → d ≡ digit_of b → get_or weights i 0 * d ≤ 90000000
added i b d e = rw e (adds_le i b)

pub loop-i-init : goal.loop-i-init
loop-i-init c = (search rules, byte_start c.args.bytes.now c.args.start c.requires)

pub returns-then-not-stands : goal.returns-then-not-stands
returns-then-not-stands c =
    let l = c.loop-i in
    let a = c.args in
    sym (byte_stop a.bytes.now a.start l.i l.value c.requires c.loop-i-test.true (sym c.stands.ensures ∙ c.if-not-stands.true)) ∙ l.invariant.1

pub overflow_mul-value : goal.overflow_mul-value
overflow_mul-value c = omega (arith, added c.loop-i.i _ _ c.digit.ensures.0)

pub overflow_add-value : goal.overflow_add-value
overflow_add-value c = omega (arith, added c.loop-i.i _ _ c.digit.ensures.0)

pub loop-i-preserved : goal.loop-i-preserved
loop-i-preserved c =
    let l = c.loop-i in
    let a = c.args in (
      omega (arith, added l.i _ _ c.digit.ensures.0),
      rw c.digit.ensures.0
          (sym (byte_go a.bytes.now a.start l.i l.value c.requires c.loop-i-test.true (sym c.stands.ensures ∙ c.if-not-stands.false)) ∙ l.invariant.1),
    )

pub returns : goal.returns
returns c =
    let l = c.loop-i in
    sym (byte_end c.args.bytes.now c.args.start l.i l.value (omega arith)) ∙ l.invariant.1
