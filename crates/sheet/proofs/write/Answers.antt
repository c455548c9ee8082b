-- Where the checks pass the sheet has room and is written from byte 0 on; a refusal writes nothing.
use Rattle.std.proofs.Common.{sym, ap, ◌∙◌, arith, rules}
use Rattle.texts.specs.Lent.{WrittenBack}
use Rattle.theory.specs.Facts.{facts}
use Rattle.fields.specs.Wrote.{wrote_size, wrote_all}
use Rattle.sheet.specs.Writer.{fits, sheet_long, back_refused, back_passed}
use Rattle.sheet.proofs.write.Goals as goal

pub put_sheet-requires : goal.put_sheet-requires
put_sheet-requires c =
    let f = fits c.args.t _ (sym c.in-Ok.ensures) in
    ((facts _ f.0).few, omega (arith, f.1))

pub overflow_cast-result : goal.overflow_cast-result
overflow_cast-result c =
    let t = c.args.t in
    let f = fits t _ (sym c.in-Ok.ensures) in
    let w = wrote_size c.put_sheet.ensures.wrote in
    let few = (facts t f.0).few in
    omega (arith, sheet_long t)

pub returns-in-Err : goal.returns-in-Err
returns-in-Err c =
    let e = back_refused c.args.t c.args.out.now _ (sym c.in-Err.ensures) in
    (sym (ap (λ (b : WrittenBack). b.said) e), sym (ap (λ (b : WrittenBack). b.bytes) e))

pub returns-in-Ok : goal.returns-in-Ok
returns-in-Ok c =
    let e = back_passed c.args.t c.args.out.now (sym c.in-Ok.ensures) in
    let w = wrote_all c.put_sheet.ensures.wrote in (
      rw (wrote_size c.put_sheet.ensures.wrote) (sym (ap (λ (b : WrittenBack). b.said) e)),
      search (rules, w) ∙ sym (ap (λ (b : WrittenBack). b.bytes) e),
    )
