-- What a commit that is answered 0 says of the record and leaves of it (rules 22.4, 22.10), and that a sound record stays sound (rule 8.16).
use Rattle.std.specs.Prelude.{ℕ, ◌≤◌, true, List, ◌≡◌}
use Rattle.std.proofs.Common.{arith}
use Rattle.rules.specs.declared.Table.{Table}
use Rattle.rules.specs.declared.Refusal.TheVariants.{Unsound}
use Rattle.rules.specs.Checks.{Passed}
use Rattle.record.specs.declared.Run.{Run}
use Rattle.rules.specs.Rows.{at, work_of, deadline_of, promised_of}
use Rattle.theory.specs.Facts.{Row, is_row_lem}
use Rattle.theory.proofs.Finishes.{earliest_first}
use Rattle.theory.specs.Tests.{by_bool}
use Rattle.columns.specs.Figures.{sound_facts}
use Rattle.record.specs.Checked.{limits}
use Rattle.record.proofs.FreshRuns.{start_sound}
use Rattle.record.specs.Records.{state_of, is_sound}
use Rattle.record.proofs.Sound.{sound_so, speeds}
use Rattle.proposal.specs.Proposals.{check_proposal}
use Rattle.proposal.specs.Commits.{check_commit, commit_of}
use Rattle.proposal.proofs.Passing.{by_check, refused_not, turned}
use Rattle.proposal.specs.Renewing.{Renewing}

module _ (r : Run) (t : Table) (o : List ℕ) where
  passed_sound : check_commit r t o ≡ Passed → is_sound r ≡ true
  unfolding check_commit
  passed_sound e = by_bool (is_sound r) (λ c. c) (λ c. refused_not Unsound (rw c at e))

  passed_turn : check_commit r t o ≡ Passed → check_proposal r.table (state_of r) t o ≡ Passed
  unfolding check_commit
  passed_turn e = rw (passed_sound e) at e

  pub check_renews : check_commit r t o ≡ Passed → Renewing r t o
  unfolding commit_of
  check_renews e = record { sound = passed_sound e; turn = turned r.table (state_of r) t o (passed_turn e); run = rw e }

  pub renews : (commit_of r t o).check ≡ Passed → Renewing r t o
  unfolding commit_of
  renews e = check_renews (by_check (check_commit r t o) (λ c. c) (λ w c. refused_not w (rw c at e)))

  -- No commit is answered 0 at clock 0, where every row of a sound record is open, nor from clock 1,000,000 slots on, where every release is past (rule 22.10).
  pub commit_clock : (commit_of r t o).check ≡ Passed → (1 ≤ r.clock) × (r.clock ≤ 999999)
  commit_clock e =
      let q = renews e in
      let g = speeds r q.sound in
      let first : Row r.table 1 = record { from = omega arith; up_to = g.some } in
      let c = q.turn.closed 1 (is_row_lem r.table 1 first) in
      let b = (sound_facts (work_of r.table 1) (deadline_of r.table 1) (at r.table.level 1) (promised_of r.table 1) r.table.normal r.table.degraded
      r.table.loading r.clock (at r.got 1) (at r.used 1) (at r.closing 1) ((sound_so r q.sound).rows 1 (omega arith) g.some)).closed_by in
      let f = limits t o q.turn.checked in
      let own : Row t 1 = record { from = omega arith; up_to = f.some } in
      (omega (arith, c, b), omega (arith, q.turn.early, earliest_first t 1 own, (f.row 1 own).before, (f.row 1 own).soon))

  -- What a commit makes of a sound record is sound (rule 8.16).
  pub commit_sound : is_sound r ≡ true → is_sound (commit_of r t o).run ≡ true
  unfolding commit_of
  commit_sound s =
      by_check (check_commit r t o)
      (λ e. let q = check_renews e in rw e (start_sound t o q.turn.checked r.clock q.turn.early))
      (λ w e. rw e s)
