-- The writes of a pair to a destination whose stamps are at most the window of its mark: none is passed over, so they are the writes of the rules before. After
-- them its stamps are at most the newest stamp's window, and as they were where nothing was written. Assumes nothing.
use Prim.Native.Nat.{ℕ, zero, suc, ◌^◌, ◌≤◌, ◌<◌}
use Rattle.std.proofs.Common.{arith, ◌∙◌}
use Rattle.std.proofs.Math.Path.{◌≡◌, refl, sym, ap}
use Rattle.std.specs.Prelude.{Bool}
use Rattle.std.proofs.Math.Bool.{true, false}
use Rattle.std.proofs.lemmas.Bool.{false≢true}
use mathlib.Core.List.{List, [], ◌∷◌}
use Rattle.std.specs.Float.Ieee.{binary64, to_bits}
use Rattle.model.specs.declared.WindowAnswer.{WindowAnswer}
use Rattle.model.specs.declared.WindowAnswer.TheVariants.{Empty, Number, NothingFinite}
use Rattle.model.specs.Layout.{fresh_value}
use Rattle.model.specs.Ring.{ColumnValue, is_old, write}
use Rattle.model.specs.Window.{Job, window_answer}
use Rattle.model.specs.Consolidate.{Filled, write_check, write_unless, write_on, write_bits, write_answer, unless_refused, fill_window, fill}
use Rattle.as_before.specs.Before as Before
use Rattle.as_before.specs.AsBefore.{passed_if, passed_answer, passed_unless, passed_window, passed_fill}
use Rattle.laws.specs.Checks.{each_zero, unless_zero}
use Rattle.ring_theory.specs.Sound.{Sound, sound-write}
use Rattle.image_theory.specs.Recorded.{stamp-low}
use Rattle.as_before_proved.specs.Upto.{Upto, upto_more, not_old, upto-write}
use Rattle.as_before_proved.specs.Within.{Within}
use Rattle.as_before_proved.specs.Fill.{bound}

-- a window's write that is accepted has a stamp below 2^63
write_low : (v w : ℕ) → write_check v w ≡ 0 → w < 2 ^ 63
unfolding write_check
write_low v w h = stamp-low w (unless_zero _ (each_zero _ h 1))

module _ (n m d b top : ℕ) where
  -- the destination so far, its stamps at most x
  pub record Filling (x : ℕ) (f : Filled) : Type 0 where
    pub sound-is : Sound f.ring.slab n m d
    pub upto : Upto n x f.ring.slab
    pub held : Upto n (bound b top f.writes) f.ring.slab

  -- the same as by the rules before, p writes passed over being none
  pub record Same (x : ℕ) (f g : Filled) (p : ℕ) : Type 0 where
    pub as_before : f ≡ g
    pub none : p ≡ 0
    pub filling : Filling x f

  filling_more : {x : ℕ} (y : ℕ) {f : Filled} → x ≤ y → Filling x f → Filling y f
  filling_more {x} y {f} l h = record { sound-is = h.sound-is; upto = upto_more n x y f.ring.slab l h.upto; held = h.held }

  -- ---- one write, at w

  module _ (w : ℕ) (under : w ≤ top) where
    stored : (o : Bool) (f : Filled) (c v x : ℕ) → is_old f.ring.slab w ≡ o → w < 2 ^ 63 → x ≤ w → Filling x f
        → Same w (write_unless o f w c v) (Before.write_on 0 f w c v) (passed_if 0 o)
    unfolding write_unless Before.write_on passed_if
    stored true f c v x e low l h = let z : ◌≡◌ {A = Bool} true false = sym e ∙ not_old f.ring.slab x w h.sound-is h.upto l in absurd (false≢true (sym z))
    stored false f c v x e low l h =
        let es : List ColumnValue = record { column = c; value = v } ∷ [] in
        let u = upto-write f.ring es w w h.sound-is low (omega arith) (upto_more n x w f.ring.slab l h.upto) in
        record {
          as_before = refl;
          none = refl;
          filling = record { sound-is = sound-write f.ring es w n m d h.sound-is; upto = u; held = upto_more n w top (write f.ring es w).slab under u };
        }

    on_check : (k : ℕ) (f : Filled) (c v x : ℕ) → write_check v w ≡ k → x ≤ w → Filling x f
        → Same w (write_on k f w c v) (Before.write_on k f w c v) (passed_if k (is_old f.ring.slab w))
    unfolding write_on
    on_check zero f c v x e l h = stored (is_old f.ring.slab w) f c v x refl (write_low v w e) l h
    on_check (suc k) f c v x e l h = unfold Before.write_on passed_if in (record { as_before = refl; none = refl; filling = refused })
      where
        refused : Filling w (record { ring = f.ring; writes = f.writes; refusal = suc k })
        refused = record { sound-is = h.sound-is; upto = upto_more n x w f.ring.slab l h.upto; held = h.held }

    on_answer : (a : WindowAnswer) (f : Filled) (c x : ℕ) → x ≤ w → Filling x f → Same w (write_answer a f w c) (Before.write_answer a f w c) (passed_answer a f w)
    unfolding write_answer write_bits Before.write_answer Before.write_bits passed_answer
    on_answer Empty f c x l h = record { as_before = refl; none = refl; filling = filling_more w l h }
    on_answer (Number y) f c x l h = on_check (write_check (to_bits binary64 y) w) f c (to_bits binary64 y) x refl l h
    on_answer NothingFinite f c x l h = on_check (write_check fresh_value w) f c fresh_value x refl l h

    unless_ended : (k : ℕ) (f g g' : Filled) (x p : ℕ) → x ≤ w → Filling x f → Same w g g' p → Same w (unless_refused k f g) (unless_refused k f g') (passed_unless k p)
    unfolding unless_refused passed_unless
    unless_ended zero f g g' x p l h s = s
    unless_ended (suc k) f g g' x p l h s = record { as_before = refl; none = refl; filling = filling_more w l h }

    -- ---- a window's columns

    on_window : (q : Job) (j c : ℕ) (f : Filled) (x : ℕ) → x ≤ w → Filling x f → Same w (fill_window q f w c j) (Before.fill_window q f w c j) (passed_window q f w c j)
    unfolding fill_window Before.fill_window passed_window
    on_window q zero c f x l h = record { as_before = refl; none = refl; filling = filling_more w l h }
    on_window q (suc j) c f x l h =
        let a = window_answer q w c in
        let s = unless_ended f.refusal f (write_answer a f w c) (Before.write_answer a f w c) x (passed_answer a f w) l h (on_answer a f c x l h) in
        let t = on_window q j (suc c) (unless_refused f.refusal f (write_answer a f w c)) w (omega arith) s.filling in
        record {
          as_before = t.as_before ∙ ap (λ (g : Filled). Before.fill_window q g w (suc c) j) s.as_before;
          none = omega (arith, s.none, t.none);
          filling = t.filling;
        }

  -- ---- all windows

  pub record AllSame (f g : Filled) (p : ℕ) : Type 0 where
    pub as_before : f ≡ g
    pub none : p ≡ 0
    pub held : Upto n (bound b top f.writes) f.ring.slab

  pub on-fill : (q : Job) (k : ℕ) (ws : List ℕ) (f : Filled) (x : ℕ) → Within x top ws → Filling x f → AllSame (fill q f ws k) (Before.fill q f ws k) (passed_fill q f ws k)
  unfolding fill Before.fill passed_fill
  on-fill q k [] f x i h = record { as_before = refl; none = refl; held = h.held }
  on-fill q k (w ∷ ws) f x i h =
      let s = on_window w i.1 q k 0 f x i.0 h in
      let t = on-fill q k ws (fill_window q f w 0 k) (suc w) i.2 (filling_more (suc w) (omega arith) s.filling) in
      record {
        as_before = t.as_before ∙ ap (λ (g : Filled). Before.fill q g ws k) s.as_before;
        none = omega (arith, s.none, t.none);
        held = t.held;
      }
