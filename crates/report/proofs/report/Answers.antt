-- Where the checks pass the report has room and is written from byte 0 on; a refusal writes nothing.
use Rattle.std.proofs.Common.{sym, ap, ◌∙◌, arith, rules}
use Rattle.texts.specs.Lent.{WrittenBack}
use Rattle.fields.specs.Wrote.{wrote_size, wrote_all}
use Rattle.report.specs.Lines.{fits, report_most, report_refused, report_passed}
use Rattle.report.proofs.report.Goals as goal

pub put_report-requires : goal.put_report-requires
put_report-requires c = let f = fits c.args.t c.args.order _ (sym c.in-Ok.ensures) in (f.0, omega (arith, f.1))

pub overflow_cast-result : goal.overflow_cast-result
overflow_cast-result c =
    let f = fits c.args.t c.args.order _ (sym c.in-Ok.ensures) in
    omega (arith, wrote_size c.put_report.ensures.wrote, report_most c.args.t c.args.order f.0)

pub returns-in-Err : goal.returns-in-Err
returns-in-Err c =
    let e = report_refused c.args.t c.args.order c.args.out.now _ (sym c.in-Err.ensures) in
    (sym (ap (λ (b : WrittenBack). b.said) e), sym (ap (λ (b : WrittenBack). b.bytes) e))

pub returns-in-Ok : goal.returns-in-Ok
returns-in-Ok c =
    let e = report_passed c.args.t c.args.order c.args.out.now (sym c.in-Ok.ensures) in
    let w = wrote_all c.put_report.ensures.wrote in (
      rw (wrote_size c.put_report.ensures.wrote) (sym (ap (λ (b : WrittenBack). b.said) e)),
      search (rules, w) ∙ sym (ap (λ (b : WrittenBack). b.bytes) e),
    )
