-- Where the sentence has room it is written from byte 0 on; a refusal writes nothing.
use Rattle.std.proofs.Common.{ℕ, ◌≡◌, List, length, sym, ap, ◌∙◌, arith, rules}
use Rattle.texts.specs.Lent.{WrittenBack, check_room, write_checked}
use Rattle.theory.specs.Room.{room_passed}
use Rattle.sentences.specs.Sentences.{compose_of}
use Rattle.fields.specs.Wrote.{wrote_size, wrote_all}
use Rattle.composer.proofs.hand_over.Goals as goal
use Rattle.rules.specs.Checks.{Check, Passed, Refused}

-- what the composer makes of the bytes, by the check's answer
composed : (sentence lent : List ℕ) (check : Check) → check_room (length sentence) (length lent) ≡ check → compose_of sentence lent ≡ write_checked check sentence lent
unfolding compose_of
composed sentence lent check e = ap (λ (c : Check). write_checked c sentence lent) e

pub put_bytes-requires : goal.put_bytes-requires
put_bytes-requires c = omega (arith, room_passed (length c.args.sentence.now) (length c.args.out.now) (sym c.in-Ok.ensures))

pub returns-in-Err : goal.returns-in-Err
returns-in-Err c =
    let e = composed c.args.sentence.now c.args.out.now (Refused c.in-Err.why) (sym c.in-Err.ensures) in
    (sym (ap (λ (b : WrittenBack). b.said) e), sym (ap (λ (b : WrittenBack). b.bytes) e))

pub returns-in-Ok : goal.returns-in-Ok
returns-in-Ok c =
    let e = composed c.args.sentence.now c.args.out.now Passed (sym c.in-Ok.ensures) in
    let t = wrote_all c.put_bytes.ensures.wrote in (
      rw (wrote_size c.put_bytes.ensures.wrote) (sym (ap (λ (b : WrittenBack). b.said) e)),
      search (rules, t) ∙ sym (ap (λ (b : WrittenBack). b.bytes) e),
    )
