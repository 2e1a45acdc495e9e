-- Samples of one stamp, written to the finest ring as a record or a batch does: they lead from a store between two calls to the next. Each sample is its
-- column's next tick; the ring is at that tick already, or it is the next. Assumes nothing.
use Prim.Native.Nat.{ℕ, suc, ◌+◌, ◌-◌, ◌*◌, ◌%◌, ◌^◌, ◌≤◌, ◌<◌}
use Rattle.std.proofs.Math.Nat.{eq_of_mul-eq-mul_right}
use Rattle.std.proofs.Common.{arith, sym, ◌∙◌, inl, inr}
use Rattle.std.proofs.Math.Decide.{ℕ_discrete}
use Rattle.std.specs.Prelude.{◌≡◌, refl, ◌⊎◌, ltb}
use Rattle.std.proofs.Math.Path.{ap, subst}
use Rattle.std.proofs.Math.Bool.{true}
use mathlib.Core.List.{List, [], ◌∷◌, ◌++◌, append_assoc, append-nil, map}
use Rattle.std.specs.Float.{binary64}
use Rattle.std.specs.Float.Ieee.{of_bits}
use Rattle.model.specs.Ring.{Ring, ColumnValue, cell, write}
use Rattle.model.specs.Lent.{Lent, ring, with_ring}
use Rattle.demand.specs.Demand.{Sample, Event, took, last_of, count, is_offset, whole_within, scheduled}
use Rattle.laws.specs.Tests.{no_eq, lt-is, and_left}
use Rattle.ring_theory.specs.Write.{Fit, Wrote, set_cell, set_cells}
use Rattle.ring_theory.proofs.Write.{set_other}
use Rattle.ring_theory.specs.Sound.{some_slots}
use Rattle.ring_theory.specs.Column.{Col, col_same}
use Rattle.ring_theory.proofs.Column.{col_next}
use Rattle.ring_theory.specs.Hold.{State}
use Rattle.ring_theory.proofs.Step.{at-number, step-at}
use Rattle.sample_theory.specs.Lists.{of_column, count-append, at_yes, last-append, value_here}
use Rattle.sample_theory.specs.Ticks.{Steady, Regular, next_tick, count-own, count_else, regular_next}
use Rattle.sample_theory.specs.Batch.{AllAt, Ticked, ticked}
use Rattle.sample_theory.specs.Schedule.{touched, last_stamp, may_take, sched_first, stay}
use Rattle.run_theory.specs.Setup.{Setup, tier_count, interval_of, slots_of, first_no, Holds, Put, put-ring}
use Rattle.run_theory.specs.Between.{Fits, Taken, Between, Next}

abbrev pub value_of : Sample → ColumnValue
value_of x = record { column = x.column; value = x.value }

-- all are of the store's columns
abbrev pub AllIn : ℕ → List Sample → Type 0
AllIn m [] = Unit {0}
AllIn m (x ∷ xs) = (x.column < m) × AllIn m xs

small : (v : ℕ) → is_offset v ≡ true → v < 2 ^ 64
unfolding is_offset
small v h = lt-is v (2 ^ 64) (and_left (ltb v (2 ^ 64)) (whole_within (2 ^ 30) (of_bits binary64 v)) h)

fit_all : (m : ℕ) (ts zs : List Sample) → AllIn m ts
    → ((x : Sample) (us bs : List Sample) → ts ++ zs ≡ us ++ x ∷ bs → is_offset x.value ≡ true) → Fit m (map value_of ts)
fit_all m [] zs i h = tt
fit_all m (x ∷ ts) zs i h =
    (i.0, small x.value (h x [] (ts ++ zs) refl), fit_all m ts zs i.1 (λ y us bs e. h y (x ∷ us) bs (ap (λ (l : List Sample). x ∷ l) e)))

none_high : (m c : ℕ) (ts : List Sample) → AllIn m ts → m ≤ c → count (of_column c) ts ≡ 0
unfolding count
none_high m c [] i h = refl
none_high m c (x ∷ ts) i h = rw (no_eq x.column c (omega (arith, i.0)), none_high m c ts i.1 h)

last-all : (t : ℕ) (y : Sample) (ts : List Sample) → AllAt t (y ∷ ts) → last_of (y ∷ ts) ≡ t
unfolding last_of
last-all t y [] at = at.0
last-all t y (z ∷ ts) at = last-all t z ts at.1

-- the cells, sample by sample: each is its column's next
module _ {S : Setup} (zs : List Sample) (t q : ℕ) (tq : t ≡ q * interval_of S 0) (some : 0 < slots_of S 0) where
  cells_after : (ts ys : List Sample) (C : ℕ → ℕ → ℕ) → Fits S (ys ++ (ts ++ zs)) → AllAt t ts → ((c : ℕ) → Regular (interval_of S 0) (first_no S 0) ys c)
      → Taken S C ys → Taken S (set_cells C (q % slots_of S 0) (map value_of ts)) (ys ++ ts)
  unfolding set_cells
  cells_after [] ys C f at reg h = rw (append-nil ys) h
  cells_after (y ∷ ts) ys C f at reg h =
      rw (← append_assoc ys (y ∷ []) ts)
      (cells_after ts (ys ++ y ∷ []) (set_cell C (q % slots_of S 0) y.column y.value) (rw (append_assoc ys (y ∷ []) (ts ++ zs)) f) at.1
      (regular_next d a n ys y (ts ++ zs) st reg) (λ x hx. one x hx (ℕ_discrete x y.column)))
    where
      d : ℕ
      d = interval_of S 0

      a : ℕ
      a = first_no S 0

      n : ℕ
      n = S.most

      k : ℕ
      k = count (of_column y.column) ys

      st : Steady (interval_of S 0) (first_no S 0) S.most (ys ++ y ∷ (ts ++ zs))
      st = f.steady

      tick : y.stamp ≡ (a + k) * d
      tick = next_tick d a n ys y (ts ++ zs) st reg

      num : a + k ≡ q
      num = eq_of_mul-eq-mul_right d st.long (a + k) q (sym tick ∙ at.0 ∙ tq)

      value : S.tick y.column (a + k) ≡ y.value
      value =
          f.value_is y.column (a + k)
          ∙ value_here y.column ((a + k) * d) ys y (ts ++ zs) ((reg y.column).never (a + k) (omega arith)) (at_yes y y.column ((a + k) * d) refl tick)

      one : (x : ℕ) → x < S.columns → Dec (x ≡ y.column)
          → Col (set_cell C (q % slots_of S 0) y.column y.value x) (slots_of S 0) a (count (of_column x) (ys ++ y ∷ [])) (S.tick x)
      one x hx (yes e) =
          subst (λ (x : ℕ). Col (set_cell C (q % slots_of S 0) y.column y.value x) (slots_of S 0) a (count (of_column x) (ys ++ y ∷ [])) (S.tick x)) (sym e)
          (rw (count-own d a n ys y (ts ++ zs) st reg, ← num)
          (col_next C (slots_of S 0) y.column y.value a k (S.tick y.column) some value (h y.column (subst (λ (i : ℕ). i < S.columns) e hx))))
      one x hx (no ne) =
          rw (count_else d a n ys y (ts ++ zs) st reg x (λ e. ne (sym e)))
          (col_same (C x) (set_cell C (q % slots_of S 0) y.column y.value x) (slots_of S 0) a (count (of_column x) ys) (S.tick x) some
          (λ i hi. set_other C (q % slots_of S 0) y.column y.value x ne i) (h x hx))

-- written to the finest ring
module _ {S : Setup} {l : Lent} {ys : List Sample} {e g : ℕ} (lv : Between S l ys e g) (y : Sample) (ts zs : List Sample) (f : Fits S (ys ++ (y ∷ ts ++ zs)))
    (t : ℕ) (at : AllAt t (y ∷ ts)) (low : t < 2 ^ 63) (inside : AllIn S.columns (y ∷ ts)) where
  tk : Ticked (interval_of S 0) (first_no S 0) S.most t zs ys (y ∷ ts) e
  tk = ticked (interval_of S 0) (first_no S 0) S.most t zs y ts ys e f.steady at lv.regular lv.reached

  -- the tick's number is first_no + k
  k : ℕ
  k = tk.reach - 1

  reach-is : tk.reach ≡ suc k
  unfolding k
  reach-is = omega (arith, tk.pos)

  t_is : t ≡ (first_no S 0 + k) * interval_of S 0
  t_is = omega (arith, tk.top ∙ ap (λ (i : ℕ). (first_no S 0 + i) * interval_of S 0) reach-is)

  from : k ≤ e
  from = go tk.either
    where
      go : (tk.reach ≡ e) ⊎ (tk.reach ≡ suc e) → k ≤ e
      go (inl p) = omega (arith, reach-is)
      go (inr p) = omega (arith, reach-is)

  to : e ≤ suc k
  to = go tk.either
    where
      go : (tk.reach ≡ e) ⊎ (tk.reach ≡ suc e) → e ≤ suc k
      go (inl p) = omega (arith, reach-is)
      go (inr p) = omega (arith, reach-is)

  low_tick : (first_no S 0 + k) * interval_of S 0 < 2 ^ 63
  low_tick = omega (arith, t_is)

  first_in : 0 < tier_count S
  first_in = S.some

  fit : Fit S.columns (map value_of (y ∷ ts))
  fit =
      fit_all S.columns (y ∷ ts) zs inside
      (λ x us bs p. (f.steady.ends x (ys ++ us) bs (ap (λ (w : List Sample). ys ++ w) p ∙ sym (append_assoc ys us (x ∷ bs)))).2)

  new : Ring
  new = write (ring l 0) (map value_of (y ∷ ts)) t

  state_new : State new (slots_of S 0) S.columns (interval_of S 0) (first_no S 0) (suc k)
  unfolding new
  state_new =
      subst (λ (v : ℕ). State (write (ring l 0) (map value_of (y ∷ ts)) v) (slots_of S 0) S.columns (interval_of S 0) (first_no S 0) (suc k)) (sym t_is)
      (step-at (map value_of (y ∷ ts)) fit k from to lv.state low_tick)

  wrote : Wrote (ring l 0).slab ((first_no S 0 + k) % slots_of S 0) t (map value_of (y ∷ ts)) new.slab
  unfolding new
  wrote =
      subst (λ (v : ℕ). Wrote (ring l 0).slab ((first_no S 0 + k) % slots_of S 0) v (map value_of (y ∷ ts)) (write (ring l 0) (map value_of (y ∷ ts)) v).slab) (sym t_is)
      (at-number (ring l 0) (map value_of (y ∷ ts)) (first_no S 0 + k) lv.state.slab-is fit low_tick)

  cols_new : Taken S (cell new.slab) (ys ++ y ∷ ts)
  cols_new x hx =
      let z = some_slots lv.state.slab-is.sound in
      col_same (set_cells (cell (ring l 0).slab) ((first_no S 0 + k) % slots_of S 0) (map value_of (y ∷ ts)) x) (cell new.slab x)
      (slots_of S 0) (first_no S 0) (count (of_column x) (ys ++ y ∷ ts)) (S.tick x)
      z (λ i hi. wrote.cells x i (rw lv.state.slab-is.sound.slots-is hi))
      (cells_after zs t (first_no S 0 + k) t_is z (y ∷ ts) ys (cell (ring l 0).slab) f at lv.regular lv.cols x hx)

  put_new : Put S l 0 new (with_ring l 0 new)
  put_new = put-ring lv.base 0 first_in new state_new.slab-is.sound wrote.rest.header

  pub written : (rest : List Event) → scheduled S.coarsest (last_of ys) (last_stamp (interval_of S 0) (first_no S 0) g) (map took (y ∷ ts) ++ rest) ≡ true
      → Next S (with_ring l 0 (write (ring l 0) (map value_of (y ∷ ts)) t)) (ys ++ y ∷ ts) rest
  unfolding new
  written rest sch =
      let s = sched_first S.coarsest t (last_of ys) (last_stamp (interval_of S 0) (first_no S 0) g) y ts rest at sch in
      record {
        e = suc k;
        f = g;
        store = record {
          base = put_new.base;
          state = rw put_new.there state_new;
          cols = rw put_new.there cols_new;
          tiers = λ j hj hk. subst (λ (r : Ring). Holds S r j g) (sym (put_new.elsewhere j hk (omega arith))) (lv.tiers j hj hk);
          marks = λ j hj. put_new.marks j (omega arith) ∙ lv.marks j hj;
          regular = tk.regular;
          reached = rw reach-is at tk.reached;
          low = omega (arith, to, lv.low);
          high = higher s.0 tk.either;
          known = λ c hc. omega (arith, count-append (of_column c) ys (y ∷ ts), lv.known c hc, none_high S.columns c (y ∷ ts) inside hc);
        };
        on_schedule = rw (last-append ys y ts, last-all t y ts at) s.1;
      }
    where
      higher : may_take S.coarsest (last_of ys) (last_stamp (interval_of S 0) (first_no S 0) g) t ≡ true → (tk.reach ≡ e) ⊎ (tk.reach ≡ suc e)
          → suc k ≤ suc (touched (S.per 0) g) * S.per 0
      higher s (inl p) = omega (arith, reach-is, lv.high)
      higher s (inr p) =
          let h = stay (interval_of S 0) S.coarsest (S.per 0) S.first e g (last_of ys) t
          (S.coarsest-is 0 first_in) f.steady.long (S.some_per 0 first_in) S.later
          lv.high lv.reached.last-is (tk.top ∙ ap (λ (i : ℕ). (first_no S 0 + i) * interval_of S 0) p) s in
          omega (arith, reach-is)
