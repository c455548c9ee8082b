-- What a planner may conclude who pastes an answer into a drawing: through the exported functions it comes back, whatever it holds (rules 24.12, 24.14).
use Rattle.std.specs.Prelude.{ℕ, ◌≤◌, List, ◌≡◌, refl, ℤ, pos, negsuc, length, take}
use Rattle.std.proofs.Common.{inl, inr, ap, ◌∙◌, le-ltb, arith, SFits}
use Rattle.std.specs.Int.{w32}
use Rattle.rules.specs.Numbers.{refusal_number, check_number}
use Rattle.texts.specs.Lent.{check_room}
use Rattle.sentences.specs.declared.PlanAnswer.{PlanAnswer}
use Rattle.sentences.specs.declared.JudgeAnswer.{JudgeAnswer}
use Rattle.sentences.specs.declared.Kind.TheVariants.{Planner, Judge}
use Rattle.sentences.specs.declared.Told.{Told}
use Rattle.sentences.specs.Sentences.{plan_sentence, judge_sentence, compose_of}
use Rattle.sentences.specs.Reading.{read_sentence, kind_number, number_told, no_plan, no_verdict}
use Rattle.sentences.proofs.ReadsBack.{reads}
use Rattle.sentences.specs.ReadsBack.{Reads, planned, judged, neither}
use Rattle.sentences.proofs.RoundTrip.{plan_there_back, judge_there_back}
use Rattle.sentences.specs.RoundTrip.{PlanFits, SlackFits, JudgeFits}
use Rattle.parser.specs.Composed.{made_within, made_front, made_long}
use Rattle.conclusions.specs.declared.Pasted.{Pasted}
use Rattle.conclusions.specs.Conclusions.{LineTold, LineRead, plan_back, verdict_back, PlanPasted, VerdictPasted}
use Rattle.rules.specs.Checks.{Passed}

-- ---- a slack that fits its field is one of 32 bits
pub slack_held : (z : ℤ) → SlackFits z → SFits w32 z
slack_held (pos v) f = record { sfits = omega arith }
slack_held (negsuc m) f = record { sfits = omega arith }

-- ---- a sentence composed into bytes that are enough for it
module _ (sentence lent : List ℕ) (h : length sentence ≤ length lent) where
  pub composed_zero : check_number (compose_of sentence lent).said.check ≡ 0
  unfolding compose_of check_room check_number
  composed_zero = rw (le-ltb (length lent) (length sentence) h)

  module _ (size : ℕ) (line : List ℕ) (e : size ≡ (compose_of sentence lent).said.size) (f : line ≡ (compose_of sentence lent).bytes) where
    pub line_within : size ≤ length line
    line_within = rw e (made_within sentence lent h (compose_of sentence lent).said line refl f)

    pub line_front : take size line ≡ sentence
    line_front = rw e (made_front sentence lent h (compose_of sentence lent).said line refl f)

    pub line_long : size ≡ length (take size line)
    line_long = rw e (made_long sentence lent h (compose_of sentence lent).said line refl f)

-- ---- and read
-- what is read, told in full, is what was pasted
pub plan_pasted : (a : PlanAnswer) (f : PlanFits a) (composed : ℕ) (line : List ℕ) (r : Pasted) → composed ≡ 0 → line ≡ plan_sentence a → LineTold composed line r
    → PlanPasted a.number a.left a.order a.trials r
unfolding check_number
plan_pasted a f composed line r z e l =
    let b = ap read_sentence e ∙ plan_there_back a f in
    record {
      numbers = (l.composed_is ∙ z, l.read_is ∙ ap (λ (t : Told). check_number t.check) b, l.kind_is ∙ ap (λ (t : Told). kind_number t.kind) b);
      answer = (
        l.number_is ∙ ap (λ (t : Told). number_told t.kind t.plan t.verdict) b,
        l.left_is ∙ ap (λ (t : Told). t.plan.left) b,
        l.order_is ∙ ap (λ (t : Told). t.plan.order) b,
        l.trials_is ∙ ap (λ (t : Told). t.plan.trials) b,
      );
      others = (
        l.yes_is ∙ ap (λ (t : Told). t.verdict.yes) b,
        l.row_is ∙ ap (λ (t : Told). t.verdict.row) b,
        l.slack_is ∙ ap (λ (t : Told). t.verdict.slack) b,
      );
    }

pub verdict_pasted : (a : JudgeAnswer) (f : JudgeFits a) (composed : ℕ) (line : List ℕ) (r : Pasted) → composed ≡ 0 → line ≡ judge_sentence a → LineTold composed line r
    → VerdictPasted a.number a.yes a.row a.slack r
unfolding check_number
verdict_pasted a f composed line r z e l =
    let b = ap read_sentence e ∙ judge_there_back a f in
    record {
      numbers = (l.composed_is ∙ z, l.read_is ∙ ap (λ (t : Told). check_number t.check) b, l.kind_is ∙ ap (λ (t : Told). kind_number t.kind) b);
      answer = (
        l.number_is ∙ ap (λ (t : Told). number_told t.kind t.plan t.verdict) b,
        l.yes_is ∙ ap (λ (t : Told). t.verdict.yes) b,
        l.row_is ∙ ap (λ (t : Told). t.verdict.row) b,
        l.slack_is ∙ ap (λ (t : Told). t.verdict.slack) b,
      );
      others = (
        l.left_is ∙ ap (λ (t : Told). t.plan.left) b,
        l.order_is ∙ ap (λ (t : Told). t.plan.order) b,
        l.trials_is ∙ ap (λ (t : Told). t.plan.trials) b,
      );
    }

-- ---- any line
-- the answer read from the fields is the one told
line_plan : (composed : ℕ) (line : List ℕ) (r : Pasted) → LineTold composed line r → (a : PlanAnswer) → read_sentence line ≡ record { check = Passed; kind = Planner; plan = a; verdict = no_verdict } → plan_back r ≡ a
line_plan composed line r l a b =
    let f : plan_back r ≡ record {
      number = number_told (read_sentence line).kind (read_sentence line).plan (read_sentence line).verdict;
      left = (read_sentence line).plan.left;
      order = (read_sentence line).plan.order;
      trials = (read_sentence line).plan.trials;
    } = rw (l.number_is, l.left_is, l.order_is, l.trials_is) in
    f ∙ ap (λ (t : Told). record { number = number_told t.kind t.plan t.verdict; left = t.plan.left; order = t.plan.order; trials = t.plan.trials }) b

line_verdict : (composed : ℕ) (line : List ℕ) (r : Pasted) → LineTold composed line r → (a : JudgeAnswer) → read_sentence line ≡ record { check = Passed; kind = Judge; plan = no_plan; verdict = a } → verdict_back r ≡ a
line_verdict composed line r l a b =
    let f : verdict_back r ≡ record {
      number = number_told (read_sentence line).kind (read_sentence line).plan (read_sentence line).verdict;
      yes = (read_sentence line).verdict.yes;
      row = (read_sentence line).verdict.row;
      slack = (read_sentence line).verdict.slack;
    } = rw (l.number_is, l.yes_is, l.row_is, l.slack_is) in
    f ∙ ap (λ (t : Told). record { number = number_told t.kind t.plan t.verdict; yes = t.verdict.yes; row = t.verdict.row; slack = t.verdict.slack }) b

pub line_read : (composed : ℕ) (line : List ℕ) (r : Pasted) → LineTold composed line r → LineRead composed line r
unfolding check_number refusal_number
line_read composed line r l = go (reads line)
  where
    number_of : (t : Told) → read_sentence line ≡ t → r.read ≡ check_number t.check
    number_of t b = l.read_is ∙ ap (λ (u : Told). check_number u.check) b

    kind_of : (t : Told) → read_sentence line ≡ t → r.kind ≡ kind_number t.kind
    kind_of t b = l.kind_is ∙ ap (λ (u : Told). kind_number u.kind) b

    go : Reads line → LineRead composed line r
    go (planned a f e b) = record { told = l; back = inl (number_of _ b, kind_of _ b, ap plan_sentence (line_plan composed line r l a b) ∙ e) }
    go (judged a f e b) = record { told = l; back = inr (inl (number_of _ b, kind_of _ b, ap judge_sentence (line_verdict composed line r l a b) ∙ e)) }
    go (neither n m b) = record { told = l; back = inr (inr (number_of _ b, kind_of _ b, n, m)) }
