-- A pair's writes, window by window and column by column. Assumes nothing.
use Prim.Native.Nat.{ℕ, zero, suc, ◌+◌, ◌*◌, ◌%◌, ◌^◌, ◌≤◌, ◌<◌}
use Rattle.std.proofs.Common.{add-zero, zero-add, zero-mul, sym, ◌∙◌}
use native.Mathlib.Omega.{arith}
use Rattle.std.proofs.Math.Decide.{ℕ_discrete}
use Rattle.std.specs.Prelude.{◌≡◌, ◌≢◌, Bool, cond, List, [], ◌∷◌}
use Rattle.std.proofs.Math.Path.{refl, ap, subst}
use Rattle.std.proofs.Math.Bool.{true, false}
use Rattle.model.specs.declared.WindowAnswer.TheVariants.{Empty}
use Rattle.model.specs.Bytes.{get}
use Rattle.model.specs.Image.{first, unless}
use Rattle.model.specs.Record.{stamp_ok}
use Rattle.model.specs.Ring.{Ring, ColumnValue, cell, write}
use Rattle.model.specs.Window.{Job, window_answer}
use Rattle.model.specs.Consolidate.{Filled, write_check, write_unless, write_on, write_bits, write_answer, unless_refused, fill_window, fill}
use Rattle.laws.specs.Tests.{yes_lt}
use Rattle.ring_theory.specs.Write.{Wrote, set_cell, set_cells}
use Rattle.ring_theory.proofs.Write.{set_other}
use Rattle.ring_theory.specs.Sound.{some_slots}
use Rattle.ring_theory.specs.Column.{Col, keeps_agree, col_same}
use Rattle.ring_theory.proofs.Column.{col_put}
use Rattle.ring_theory.specs.Hold.{State}
use Rattle.ring_theory.proofs.Step.{at-number, step-at, taken_at}
use Rattle.pair_theory.specs.Windows.{wins}
use Rattle.pair_theory.specs.Fill.{used_below, Full, Given, FilledBy}

-- ---- one window: number a + k of the destination, the next (e is k) or the newest again (e is k + 1)

module _ (u : ℕ → Bool) (Y Y' : ℕ → ℕ → ℕ) (B : Ring) (n m d a e k w : ℕ) where
  -- the columns below c are done; w is the count of writes before this window
  record Filling (c : ℕ) (f : Filled) : Type 0 where
    fine : f.refusal ≡ 0
    now : ℕ
    now_from : k ≤ now
    now_to : now ≤ suc k
    state : State f.ring n m d a now
    advanced : 0 < used_below u c → now ≡ suc k
    done : (x : ℕ) → x < m → x < c → Col (cell f.ring.slab x) n a (cond (u x) (suc k) 0) (Y' x)
    left : (x : ℕ) → x < m → c ≤ x → Col (cell f.ring.slab x) n a (cond (u x) e 0) (Y x)
    counted : f.writes ≡ w + used_below u c
    header : (l p : ℕ) → p + l ≤ 32 → get l f.ring.slab p ≡ get l B.slab p

  module _ (from : k ≤ e) (to : e ≤ suc k) (below : (x q : ℕ) → x < m → u x ≡ true → a ≤ q → q < a + k → Y' x q ≡ Y x q) (top : (a + k) * d < 2 ^ 63) where
    -- one column written
    wrote_one : (c : ℕ) (f : Filled) (v : ℕ) → c < m → u c ≡ true → v ≡ Y' c (a + k) → v < 2 ^ 64 → Filling c f
        → Filling (suc c) (record { ring = write f.ring (record { column = c; value = v } ∷ []) ((a + k) * d); writes = suc f.writes; refusal = 0 })
    unfolding used_below
    wrote_one c f v hc hu hv sm t = record {
      fine = refl;
      now = suc k;
      now_from = omega arith;
      now_to = omega arith;
      state = step-at es (hc, sm, tt) k t.now_from t.now_to t.state top;
      advanced = λ z. refl;
      done = λ x hx l. col x hx l (ℕ_discrete x c);
      left = λ x hx l. other x (λ z. omega arith) (t.left x hx (omega arith));
      counted = rw (hu, t.counted) (omega arith);
      header = λ l p h. wr.rest.header l p h ∙ t.header l p h;
    }
      where
        r : Ring
        r = f.ring

        es : List ColumnValue
        es = record { column = c; value = v } ∷ []

        after : List ℕ
        after = (write r es ((a + k) * d)).slab

        wr : Wrote r.slab ((a + k) % n) ((a + k) * d) es after
        wr = at-number r es (a + k) t.state.slab-is (hc, sm, tt) top

        zn : 0 < n
        zn = some_slots t.state.slab-is.sound

        cells : (x i : ℕ) → i < n → cell after x i ≡ set_cell (cell r.slab) ((a + k) % n) c v x i
        cells x i hi = wr.cells x i (rw t.state.slab-is.sound.slots-is hi) ∙ unfold set_cells in refl

        other : (x : ℕ) {j : ℕ} {Z : ℕ → ℕ} → x ≢ c → Col (cell r.slab x) n a j Z → Col (cell after x) n a j Z
        other x {j} {Z} ne h = col_same (cell r.slab x) (cell after x) n a j Z zn (λ i hi. cells x i hi ∙ set_other (cell r.slab) ((a + k) % n) c v x ne i) h

        own : Col (cell after c) n a (suc k) (Y' c)
        own = col_same (set_cell (cell r.slab) ((a + k) % n) c v c) (cell after c) n a (suc k) (Y' c) zn (cells c)
            (col_put (cell r.slab) n c v a e k (Y c) (Y' c) zn from to (sym hv) (λ q y z. below c q hc hu y z) (rw hu at (t.left c hc (omega arith))))

        col : (x : ℕ) → x < m → x < suc c → Dec (x ≡ c) → Col (cell after x) n a (cond (u x) (suc k) 0) (Y' x)
        col x hx l (yes p) = rw (p, hu) own
        col x hx l (no p) = other x p (t.done x hx (omega arith))

    -- a column without a value passed over
    passed : (c : ℕ) (f : Filled) → c < m → u c ≡ false → Filling c f → Filling (suc c) f
    unfolding used_below
    passed c f hc hu t = record {
      fine = t.fine;
      now = t.now;
      now_from = t.now_from;
      now_to = t.now_to;
      state = t.state;
      advanced = λ z. t.advanced (omega (arith, rw hu at z));
      done = λ x hx l. col x hx l (ℕ_discrete x c);
      left = λ x hx l. t.left x hx (omega arith);
      counted = rw hu (omega (arith, t.counted));
      header = t.header;
    }
      where
        col : (x : ℕ) → x < m → x < suc c → Dec (x ≡ c) → Col (cell f.ring.slab x) n a (cond (u x) (suc k) 0) (Y' x)
        col x hx l (yes p) = rw (p, hu) (keeps_agree (Y' c) (λ q y z. absurd (omega arith)) (rw hu at (t.left c hc (omega arith))))
        col x hx l (no p) = t.done x hx (omega arith)

    module _ (q : Job) (pos : 0 < (a + k) * d)
        (given : (x : ℕ) → x < m → u x ≡ true → Given (window_answer q ((a + k) * d) x) (Y' x (a + k)))
        (empty : (x : ℕ) → x < m → u x ≡ false → window_answer q ((a + k) * d) x ≡ Empty) where
      one_column : (c : ℕ) (f : Filled) → c < m → Filling c f
          → Filling (suc c) (unless_refused f.refusal f (write_answer (window_answer q ((a + k) * d) c) f ((a + k) * d) c))
      unfolding unless_refused write_answer write_bits write_on write_unless write_check stamp_ok first unless
      one_column c f hc t =
          subst (λ (z : ℕ). Filling (suc c) (unless_refused z f (write_answer (window_answer q ((a + k) * d) c) f ((a + k) * d) c))) (sym t.fine) (go (u c) refl)
        where
          go : (b : Bool) → u c ≡ b → Filling (suc c) (write_answer (window_answer q ((a + k) * d) c) f ((a + k) * d) c)
          go true h =
              let g = given c hc h in
              subst (Filling (suc c)) (sym (g.written f ((a + k) * d) c))
              (rw (g.finite, yes_lt 0 ((a + k) * d) pos, yes_lt ((a + k) * d) (2 ^ 63) top, taken_at k t.now_from t.now_to t.state) (wrote_one c f (Y' c (a + k)) hc h refl g.small t))
          go false h = rw (empty c hc h) (passed c f hc h t)

      one_window : (c j : ℕ) (f : Filled) → c + j ≡ m → Filling c f → Filling m (fill_window q f ((a + k) * d) c j)
      unfolding fill_window
      one_window c zero f h t = let p : c ≡ m = omega arith in subst (λ (z : ℕ). Filling z f) p t
      one_window c (suc j) f h t =
          one_window (suc c) j (unless_refused f.refusal f (write_answer (window_answer q ((a + k) * d) c) f ((a + k) * d) c)) (omega arith) (one_column c f (omega arith) t)

-- ---- all windows

module _ (u : ℕ → Bool) (Y' : ℕ → ℕ → ℕ) (n m d a : ℕ) (some : 0 < used_below u m) (q : Job) where
  -- j windows from number a + k on, over a ring that took e numbers with the values Y: below the first window those are the same
  pub fill-windows : (j k e : ℕ) (Y : ℕ → ℕ → ℕ) (f : Filled) → k ≤ e → e ≤ suc k → e ≤ k + j
      → ((x p : ℕ) → x < m → u x ≡ true → a ≤ p → p < a + k → Y' x p ≡ Y x p)
      → ((i : ℕ) → k ≤ i → i < k + j → (0 < (a + i) * d) × ((a + i) * d < 2 ^ 63))
      → ((i : ℕ) → k ≤ i → i < k + j → (x : ℕ) → x < m → u x ≡ true → Given (window_answer q ((a + i) * d) x) (Y' x (a + i)))
      → ((i : ℕ) → k ≤ i → i < k + j → (x : ℕ) → x < m → u x ≡ false → window_answer q ((a + i) * d) x ≡ Empty)
      → f.refusal ≡ 0 → Full f.ring u Y n m d a e → FilledBy f u Y' n m d a (k + j) j (fill q f (wins d (a + k) j) m)
  unfolding fill wins
  fill-windows zero k e Y f from to last below stamps given empty fine full =
      let p : e ≡ k = omega arith in
      rw (add-zero k) (record {
        fine = fine;
        full = record { state = rw p at full.state; cols = λ x hx. same x hx p (u x) refl (full.cols x hx) };
        counted = rw (zero-mul (used_below u m)) (sym (add-zero f.writes));
        header = λ l o h. refl;
      })
    where
      same : (x : ℕ) → x < m → e ≡ k → (b : Bool) → u x ≡ b → Col (cell f.ring.slab x) n a (cond (u x) e 0) (Y x) → Col (cell f.ring.slab x) n a (cond (u x) k 0) (Y' x)
      same x hx p true h c = rw h (keeps_agree (Y' x) (λ i y z. below x i hx h y z) (rw (h, p) at c))
      same x hx p false h c = rw h (keeps_agree (Y' x) (λ i y z. absurd (omega arith)) (rw h at c))
  fill-windows (suc j) k e Y f from to last below stamps given empty fine full =
      let s : suc (a + k) ≡ a + suc k = omega arith in
      let p : k + suc j ≡ suc k + j = omega arith in
      let rest = fill-windows j (suc k) (suc k) Y' g (omega arith) (omega arith) (omega arith) (λ x i hx hu y z. refl) (λ i y z. stamps i (omega arith) (omega arith))
      (λ i y z. given i (omega arith) (omega arith)) (λ i y z. empty i (omega arith) (omega arith)) w.fine after in
      rw (p, s) (record {
        fine = rest.fine;
        full = rest.full;
        counted = rest.counted ∙ ap (λ (x : ℕ). x + j * used_below u m) w.counted ∙ omega arith;
        header = λ l o h. rest.header l o h ∙ w.header l o h;
      })
    where
      g : Filled
      g = fill_window q f ((a + k) * d) 0 m

      start : Filling u Y Y' f.ring n m d a e k f.writes 0 f
      start = record {
        fine = fine;
        now = e;
        now_from = from;
        now_to = to;
        state = full.state;
        advanced = λ z. absurd (unfold used_below in (omega arith));
        done = λ x hx l. absurd (omega arith);
        left = λ x hx l. full.cols x hx;
        counted = unfold used_below in (sym (add-zero f.writes));
        header = λ l o h. refl;
      }

      w : Filling u Y Y' f.ring n m d a e k f.writes m g
      w =
          let t = stamps k (omega arith) (omega arith) in
          one_window u Y Y' f.ring n m d a e k f.writes from to below t.1 q t.0 (given k (omega arith) (omega arith)) (empty k (omega arith) (omega arith)) 0 m f (zero-add m) start

      after : Full g.ring u Y' n m d a (suc k)
      after = record { state = rw (w.advanced some) at w.state; cols = λ x hx. w.done x hx hx }
