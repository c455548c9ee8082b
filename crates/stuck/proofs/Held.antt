-- The result on changes (rule 26.8), to be cited by name: a table that holds the rows of a stuck set has no correct order, whatever else it holds.
use Rattle.std.specs.Prelude.{ℕ, ◌≤◌, Bool, true, ◌&&◌, List, [], map, ◌≡◌, eqb, length}
use Rattle.std.proofs.Math.Bool.{not}
use Rattle.std.proofs.Common.{sym, subst, ◌∙◌, arith}
use Rattle.std.proofs.Math.Path.{ap, ap₂}
use Rattle.std.proofs.lemmas.List.{length-map}
use borrow.Author.Tests.{eq-eqb, eqb-true}
use Rattle.rules.specs.declared.Table.{Table}
use Rattle.rules.specs.Choice.{word, unfollowed, passes}
use Rattle.rules.specs.Correct.{CorrectOrder}
use Rattle.rules.specs.Lists.{count}
use Rattle.rules.specs.Rows.{at, rows_of, follows_of}
use Rattle.rules.specs.Tables.{Accepted}
use Rattle.theory.specs.Counts.{In, Within, Same, same_size}
use Rattle.theory.specs.Facts.{Row, TableFacts, facts, row_is, in_rows}
use Rattle.theory.proofs.Finishes.{once_of}
use Rattle.theory.specs.Tests.{by-leb, both_ways}
use Rattle.theory.proofs.Waiting.{unbound_table}
use Rattle.theory.specs.Waiting.{unbound}
use Rattle.choices.specs.Choices.{rows_in, renumbered, alone}
use Rattle.lowest.proofs.Alone.{all_map, all_agree, alone_table, renumbered_row, new_number, entry_in, row_in, image, every_row}
use Rattle.lowest.specs.Alone.{Chosen}
use Rattle.lowest.proofs.Counted.{rows_chosen}
use Rattle.lowest.specs.Images.{Image, in_map, once_map, passes_image}
use Rattle.lowest.specs.Standing.{may_stand}
use Rattle.lowest.proofs.Standing.{may_same, free_stand}
use Rattle.stuck.specs.Stuck.{is_stuck, Held}
use Rattle.stuck.specs.Sets.{map_map, word_rows}
use Rattle.stuck.proofs.Ways.{stuck_may, none_stuck}
use Rattle.stuck.proofs.Trouble.{order_exactly}

module _ (t : Table) (accepted : Accepted t) (other : Table) (taken : Accepted other) (set : List ℕ) (c : Chosen t set) (some : 1 ≤ length set) (φ : ℕ → ℕ)
    (h : Held t set other φ) where
  f : TableFacts t
  f = facts t accepted

  fo : TableFacts other
  fo = facts other taken

  abbrev u : Table
  u = alone t set

  g : TableFacts u
  g = alone_table t f set c some

  -- the number in the other table of a row of the table of the set alone
  abbrev ψ : ℕ → ℕ
  ψ k = φ (at set k)

  held_image : Image (unbound u) (unbound other) ψ
  held_image =
      record {
        normal = same.normal ∙ sym h.normal;
        degraded = same.degraded ∙ sym h.degraded;
        loading = same.loading ∙ sym h.loading;
        row = λ k r. let q = row_is other (ψ k) (h.row (at set k) (inside k r)) in record { from = q.from; up_to = q.up_to };
        single = λ j k a b e. same.single j k a b (h.single (at set j) (at set k) (inside j a) (inside k b) e);
        release = λ k r. same.release k r ∙ sym (h.release (at set k) (inside k r));
        work = λ k r. same.work k r ∙ sym (h.work (at set k) (inside k r));
        deadline = λ k r. same.deadline k r ∙ sym (h.deadline (at set k) (inside k r));
        level = λ k r. same.level k r ∙ sym (h.level (at set k) (inside k r));
        promised = λ k r. same.promised k r ∙ sym (h.promised (at set k) (inside k r));
      }
    where
      same : Image (unbound u) (unbound t) (at set)
      same = image t f set c

      inside : (k : ℕ) → Row (unbound u) k → In (at set k) set
      inside k r = let q = row_in t f set c k (record { from = r.from; up_to = r.up_to }) in entry_in set k q.0 q.1

  -- a row passes lowest of these rows in both tables or in none, if no row waits
  passes_held : (i : ℕ) → In i set → passes (unbound other) (map φ set) (φ i) ≡ passes (unbound t) set i
  passes_held i j =
      let k = renumbered set i in
      let own = new_number t f set c some i j in
      let free = unbound_table u g in
      let e : map ψ (rows_of u) ≡ map φ set = sym (map_map φ (at set) (rows_of u)) ∙ ap (map φ) (every_row t f set c some) in
      ap₂ (passes (unbound other)) (sym e) (ap φ (sym (renumbered_row set i j).2))
      ∙ sym (passes_image (unbound u) (unbound other) ψ held_image free (unbound_table other fo) (free_stand u) (free_stand other) (rows_of u) k (λ x. omega arith) own)
      ∙ passes_image (unbound u) (unbound t) (at set) (image t f set c) free (unbound_table t f) (free_stand u) (free_stand t) (rows_of u) k (λ x. omega arith) own
      ∙ ap₂ (passes (unbound t)) (every_row t f set c some) (renumbered_row set i j).2

  may_held : (i : ℕ) → In i set → may_stand other (map φ set) (φ i) ≡ may_stand t set i
  unfolding may_stand unfollowed
  may_held i j =
      ap₂ (λ (a b : Bool). a && b)
      (all_map φ (λ y. not (eqb (follows_of other y) (φ i))) set
      ∙ all_agree (λ x. not (eqb (follows_of other (φ x)) (φ i))) (λ x. not (eqb (follows_of t x) i)) set
      (λ x k. ap not (both_ways (eqb (follows_of other (φ x)) (φ i)) (eqb (follows_of t x) i)
      (λ e. eq-eqb (follows_of t x) i ((h.follows x i k j).0 (eqb-true (follows_of other (φ x)) (φ i) e)))
      (λ e. eq-eqb (follows_of other (φ x)) (φ i) ((h.follows x i k j).1 (eqb-true (follows_of t x) i e))))))
      (passes_held i j)

  -- the rows in the other table, as a set
  there_within : Within (map φ set) (rows_of other)
  there_within y =
      by-leb 1 (count y (map φ set))
      (λ _ k. let p = in_map φ set y k in
      omega (
        arith,
        once_map φ set h.single (once_of t set c.within) y,
        in_rows other y (subst (Row other) p.is (row_is other (φ p.row) (h.row p.row p.inside))),
      ))
      (λ _ k. omega arith)

  there_same : Same (rows_in other (word (map φ set))) (map φ set)
  there_same = word_rows other fo (map φ set) there_within

  -- CHANGES ELSEWHERE NEVER HELP. A table that holds the rows of a stuck set, and not of an empty one, has no correct order (rule 26.8).
  pub held_none : is_stuck t set ≡ true → CorrectOrder other → ⊥
  held_none e o =
      let set' = rows_in other (word (map φ set)) in
      let d = rows_chosen other fo (word (map φ set)) in
      let z : set' ≡ [] = (order_exactly other taken).0 o set' d
      (none_stuck other fo set' d (λ y j. let p = in_map φ set y (omega (arith, j, there_same y)) in
      may_same other fo (map φ set) set' y there_within there_same (omega (arith, j, there_same y))
      ∙ ap (may_stand other (map φ set)) (sym p.is) ∙ may_held p.row p.inside ∙ stuck_may t f set c e p.row p.inside)) in
      omega (arith, some, length-map set φ, same_size set' (map φ set) there_same, ap length z)
