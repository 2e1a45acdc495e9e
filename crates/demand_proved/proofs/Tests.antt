-- From the statement's supposition, which goes by tests over lists, to its clauses one by one (Stronger): what `suited` says of each row, and `supposed` of
-- all samples. So the third demand follows from the stronger one. Assumes nothing.
use Rattle.std.specs.Prelude.{ℕ, zero, suc, ◌+◌, ◌-◌, ◌*◌, ◌/◌, ◌%◌, ◌≤◌, ◌<◌, ◌≡◌, refl, Bool, true, ◌&&◌, List, [], ◌∷◌, T, leb, ltb, eqb, length}
use Rattle.std.proofs.Common.{add-zero, arith, sym, ap, ◌∙◌, subst}
use Rattle.std.proofs.Math.Decide.{ℕ_discrete}
use Rattle.std.proofs.lemmas.Bool.{false≢true}
use Rattle.std.specs.Float.Ieee.Bits.{is_true}
use Rattle.model.specs.declared.Row.{Row}
use Rattle.model.specs.Image.{row_count, row_at, rows_from, rows, row_slots, every, create_check}
use Rattle.demand.specs.Demand.{ratio_ok, averaging, last_interval, spanning, suited, Sample, events, first_of, ascending, all, is_offset, gapless, ticks, scheduled, supposed, used, Situation, finest, coarsest, after_run, history, samples}
use Rattle.laws.specs.Tests.{split3, le_is, eq_is}
use Rattle.image_theory.specs.Rows.{every-at}
use Rattle.sample_theory.specs.Lists.{all_three}
use Rattle.demand_proved.specs.Stronger.{Planned, Supposition}

-- ---- the plan, row by row

-- the tier q behind p
record Rung (p q : Row) : Type 0 where
  whole : q.interval % p.interval ≡ 0
  most : q.interval / p.interval ≤ 4096
  average : q.function ≡ 1

rung_of : (p q : Row) (b : Bool) → ratio_ok p.interval q.interval && eqb q.function 1 && b ≡ true → Rung p q × (b ≡ true)
unfolding ratio_ok
rung_of p q b h =
    let x = eqb (q.interval % p.interval) 0 in
    let y = leb 2 (q.interval / p.interval) in
    let z = leb (q.interval / p.interval) 4096 in
    let u = split3 (x && y && z) (eqb q.function 1) b h in
    let v = split3 x y z u.0 in (
      record {
        whole = eq_is (q.interval % p.interval) 0 v.0;
        most = le_is (q.interval / p.interval) 4096 v.2;
        average = eq_is q.function 1 u.1;
      },
      u.2,
    )

averaging-at : (s : List ℕ) (i k : ℕ) → averaging (row_at s i) (rows_from s (suc i) k) ≡ true → (j : ℕ) → i ≤ j → j < i + k → Rung (row_at s j) (row_at s (suc j))
unfolding averaging rows_from
averaging-at s i zero h j p l = absurd (omega arith)
averaging-at s i (suc k) h j p l =
    let r = rung_of (row_at s i) (row_at s (suc i)) (averaging (row_at s (suc i)) (rows_from s (suc (suc i)) k)) h in
    go (ℕ_discrete i j) r.0 (averaging-at s (suc i) k r.1 j)
  where
    go : Dec (i ≡ j) → Rung (row_at s i) (row_at s (suc i)) → (suc i ≤ j → j < suc i + k → Rung (row_at s j) (row_at s (suc j))) → Rung (row_at s j) (row_at s (suc j))
    go (yes e) here later = subst (λ (j : ℕ). Rung (row_at s j) (row_at s (suc j))) e here
    go (no e) here later = later (omega arith) (omega arith)

spanning-every : (D : ℕ) (rs : List Row) → spanning D rs ≡ every (λ r. leb (2 * D) (row_slots r * r.interval)) rs
unfolding spanning every
spanning-every D [] = refl
spanning-every D (r ∷ rs) = rw (spanning-every D rs)

last-is : (s : List ℕ) (i k : ℕ) → last_interval (row_at s i) (rows_from s (suc i) k) ≡ (row_at s (i + k)).interval
unfolding last_interval rows_from
last-is s i zero = rw (add-zero i)
last-is s i (suc k) = let e : i + suc k ≡ suc i + k = omega arith in rw e (last-is s (suc i) k)

suited-from : (s : List ℕ) (n : ℕ) → suited (rows_from s 0 n) ≡ true
    → ((i : ℕ) → suc i < n → Rung (row_at s i) (row_at s (suc i))) × ((i : ℕ) → i < n → 2 * (row_at s (n - 1)).interval ≤ row_slots (row_at s i) * (row_at s i).interval)
unfolding suited rows_from
suited-from s zero h = absurd (false≢true h)
suited-from s (suc k) h =
    let rs = rows_from s 1 k in
    let D = last_interval (row_at s 0) rs in
    let few = leb 1 (length rs) && leb (length rs) 3 in
    let u = split3 few (averaging (row_at s 0) rs) (spanning D (row_at s 0 ∷ rs)) h in
    let far = sym (spanning-every D (row_at s 0 ∷ rs)) ∙ u.2 in
    let e : 0 + k ≡ suc k - 1 = omega arith in
    let d : D ≡ (row_at s (suc k - 1)).interval = last-is s 0 k ∙ ap (λ (x : ℕ). (row_at s x).interval) e in (
      λ i p. averaging-at s 0 k u.1 i (omega arith) (omega arith),
      λ i p. rw d at (le_is (2 * D) (row_slots (row_at s i) * (row_at s i).interval) (every-at (λ r. leb (2 * D) (row_slots r * r.interval)) s 0 (suc k) far i (omega arith) (omega arith))),
    )

planned : (p buf : List ℕ) → create_check p buf ≡ 0 → suited (rows p) ≡ true → Planned p buf
unfolding rows
planned p buf accepted h =
    let x = suited-from p (row_count p) h in
    record {
      accepted = accepted;
      whole = λ k l. (x.0 k l).whole;
      most = λ k l. (x.0 k l).most;
      average = λ k l. (x.0 k l).average;
      spans = λ k l. x.1 k (omega arith);
    }

-- ---- the samples

-- the statement's supposition is more than enough
pub clauses : (s : Situation) → create_check s.plan s.buf ≡ 0 → T (suited (rows s.plan))
    → T (supposed (finest s) (coarsest s) (history s)) → events (after_run s) s.between ≡ [] → T (used s.column (samples s)) → s.tier < row_count s.plan
    → Supposition s
unfolding supposed samples
clauses s accepted plan h quiet column tier =
    let es = history s in
    let xs = samples s in
    let d = finest s in
    let f : Sample → Bool = λ x. is_offset x.value in
    let g : Sample → Bool = λ x. eqb (x.stamp % d) 0 in
    let e : Sample → Bool = λ x. gapless x.column d (first_of xs) (ticks d xs) xs in
    let first = eqb (first_of xs % coarsest s) 0 in
    let u = split3 (ltb 0 (first_of xs) && first && ascending 0 xs) (all (λ x. f x && g x && e x) xs) (scheduled (coarsest s) 0 0 es) (is_true (supposed d (coarsest s) es) h) in
    let v = split3 (ltb 0 (first_of xs)) first (ascending 0 xs) u.0 in
    let w = split3 (all f xs) (all g xs) (all e xs) (sym (all_three f g e xs) ∙ u.1) in
    record {
      plan-is = planned s.plan s.buf accepted (is_true (suited (rows s.plan)) plan);
      first-whole = eq_is (first_of xs % coarsest s) 0 v.1;
      ordered = v.2;
      offsets = w.0;
      on-ticks = w.1;
      no_gap = w.2;
      on_schedule = u.2;
      quiet = quiet;
      column_used = is_true (used s.column xs) column;
      tier_in_lem = tier;
    }
