-- A row's limits over its figures, in plain terms and as checks 5 and 12 test them (rules 5.3, 5.9).
use Rattle.std.specs.Prelude.{ℕ, true, ◌&&◌, ◌||◌, ◌≡◌, ltb, leb, eqb}
use Rattle.std.proofs.Common.{arith, eq-eqb, le-leb, lt-ltb, leb-true, ltb-true, eqb-true}
use Rattle.theory.specs.Tests.{by_bool, by_eqb, and_left, and_right}
use Rattle.checks.specs.Limits.{limits_ok, part_ok}
use Rattle.conclusions.specs.Conclusions.{RowWithin, PartWithin}

pub limits_within : (a c d level : ℕ) → limits_ok a c d level ≡ true → RowWithin a c d level
limits_within a c d level e =
    let some = leb 1 c in
    let most = leb c 1000000 in
    let latest = leb d 1000000 in
    let before = ltb a d in
    let four : some && most && latest && before ≡ true = and_left (some && most && latest && before) (leb level 1) e in
    let three : some && most && latest ≡ true = and_left (some && most && latest) before four in
    let two : some && most ≡ true = and_left (some && most) latest three in
    record {
      some = leb-true 1 c (and_left some most two);
      most = leb-true c 1000000 (and_right some most two);
      latest = leb-true d 1000000 (and_right (some && most) latest three);
      before = ltb-true a d (and_right (some && most && latest) before four);
      low_or_high = leb-true level 1 (and_right (some && most && latest && before) (leb level 1) e);
    }

pub within_limits : (a c d level : ℕ) → RowWithin a c d level → limits_ok a c d level ≡ true
within_limits a c d level w =
    rw (
      le-leb 1 c w.some,
      le-leb c 1000000 w.most,
      le-leb d 1000000 w.latest,
      lt-ltb a d w.before,
      le-leb level 1 w.low_or_high,
    )

pub part_within : (c level r : ℕ) → part_ok c level r ≡ true → PartWithin c level r
part_within c level r e =
    record {
      most = leb-true r c (and_left (leb r c) (eqb level 0 || eqb r 0) e);
      low = λ some. let f : eqb level 0 || eqb r 0 ≡ true = and_right (leb r c) (eqb level 0 || eqb r 0) e in
          by_eqb level 0 (λ _ q. q) (λ n _. absurd (omega (arith, eqb-true r 0 (rw n at f))));
    }

pub within_part : (c level r : ℕ) → PartWithin c level r → part_ok c level r ≡ true
within_part c level r w =
    rw (le-leb r c w.most)
    (by_eqb r 0
    (λ e _. by_bool (eqb level 0) (λ l. rw l) (λ l. rw (l, e)))
    (λ _ n. rw (eq-eqb level 0 (w.low (omega arith)))))
