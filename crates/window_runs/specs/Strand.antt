-- A strand: a part of the range whose windows never fall in reading order. It is found against the reading order: a slot whose window is above the least of
-- those behind it ends the part before its window; one that is not is its first slot so far. Assumes nothing.
use Rattle.std.specs.Prelude.{ℕ, suc, ◌+◌, ◌≤◌, ◌<◌, ◌≡◌, ◌⊎◌, Bool, List, [], ◌∷◌, ◌++◌, length}
use Rattle.std.proofs.Common.{arith, ap, ◌∙◌}
use Rattle.std.proofs.Math.Decide.{dec_lt}
use Rattle.std.proofs.Math.Path.{refl, sym, subst}
use Rattle.std.proofs.Math.Logic.{inl, inr}
use Rattle.std.proofs.Math.Bool.{true, false}
use Rattle.std.proofs.lemmas.Bool.{false≢true}
use Rattle.model.specs.declared.Place.{Place}
use Rattle.model.specs.Ring.{stamp, walk}
use Rattle.model.specs.Window.{Job, window_of}
use Rattle.laws.specs.Tests.{yes_le}
use Rattle.ring_theory.specs.Numbers.{length-walk}
use Rattle.laws.specs.Windows.{window_le, window_mono, window_again, window_low, window_next, window_span}
use Rattle.window_theory.specs.Cut.{upto}
use Rattle.strand_theory.specs.Cuts.{In, Before, Cut}
use Rattle.window_runs.specs.declared.Strand.{Strand}
use Rattle.window_runs.specs.Parts.{in_range, is_from, from, rising, NoneIn}
use Rattle.window_runs.specs.Rest.{inside_is, inside_yes, rising_in, rising_out, rise_in, rise_out, rising_less, from_stop, from-pass}

-- the window `low` is that of one of these slots, in the range
pub record Least (q : Job) (is : List ℕ) (low : ℕ) : Type 0 where
  pub slot : ℕ
  pub among : In slot is
  pub begun : q.start ≤ stamp q.source.slab slot
  pub low-is : window_of q.long (stamp q.source.slab slot) ≡ low

-- the first of these slots has a stamp below x
abbrev Below : Job → ℕ → List ℕ → Type 0
Below q x [] = Unit {0}
Below q x (i ∷ is) = stamp q.source.slab i < x

-- what was met, of these slots: the part up to `end` has windows that never fall, none below `low`, and its first slot is at the place p; the end is the
-- range's, or a window from which the windows fall
pub record Edged (q : Job) (n : ℕ) (is : List ℕ) (end low : ℕ) (p : Place) : Type 0 where
  pub slot_in : p.slot < n
  pub few : p.left ≤ length is
  pub here : walk n p.slot p.left ≡ from (upto q end) 0 is
  pub up : rising (upto q end) low is ≡ true
  pub head : Below q (low + q.long) (from (upto q end) 0 is)
  pub low-is : Least q is low ⊎ (end ≤ low)
  pub end_is : (end ≡ q.end) ⊎ Cut q is q.start end

-- one stamp more, by cases
pub record Meets (start long end low : ℕ) (p : Place) (t : ℕ) (here : Place) (end' low' : ℕ) (p' : Place) : Type 0 where
  pub outside : in_range start end t ≡ false → (end' ≡ end) × (low' ≡ low) × (p' ≡ p)
  pub lower : in_range start end t ≡ true → t < low → (end' ≡ end) × (low' ≡ window_of long t) × (p' ≡ here)
  pub same : in_range start end t ≡ true → low ≤ t → t < low + long → (end' ≡ end) × (low' ≡ low) × (p' ≡ here)
  pub above : in_range start end t ≡ true → low + long ≤ t → (end' ≡ window_of long t) × (low' ≡ low) × (p' ≡ p)

-- the place r is the place p without some last slots that are not in the range
pub record Trimmed (q : Job) (n : ℕ) (p r : Place) : Type 0 where
  pub slot_in : r.slot < n
  pub fewer : r.left ≤ p.left
  pub gap : List ℕ
  pub none_in : NoneIn q gap
  pub split : walk n p.slot p.left ≡ walk n r.slot r.left ++ gap

-- the part up to r's end: its slots are those from r's place on, and some that are not in it
pub record Stranded (q : Job) (n : ℕ) (p : Place) (r : Strand) : Type 0 where
  pub slot_in : r.place.slot < n
  pub fewer : r.place.left ≤ p.left
  pub tail : List ℕ
  pub none_in : NoneIn (upto q r.end) tail
  pub rest-is : from (upto q r.end) 0 (walk n p.slot p.left) ≡ walk n r.place.slot r.place.left ++ tail
  pub up : rising (upto q r.end) 0 (walk n p.slot p.left) ≡ true
  pub end_is : (r.end ≡ q.end) ⊎ Cut q (walk n p.slot p.left) q.start r.end

module _ (q : Job) (z : 0 < q.long) where
  abbrev stamp_of : ℕ → ℕ
  stamp_of i = stamp q.source.slab i

  abbrev win : ℕ → ℕ
  win t = window_of q.long t

  -- ---- the edges of a part

  -- where a reading is cut a window starts, behind the range's start and not behind its end
  pub cut_edge : {is : List ℕ} {e : ℕ} → Cut q is q.start e → (win e ≡ e) × (q.start < e) × (e ≤ q.end)
  cut_edge {is} {e} c = (
    starts,
    go (dec_lt (stamp_of c.low) e),
    omega (arith, c.high_is, c.high_below, window_le q.long (stamp_of c.high)),
  )
    where
      starts : win e ≡ e
      starts = subst (λ (x : ℕ). win x ≡ x) c.high_is (window_again q.long z (stamp_of c.high))

      go : Dec (stamp_of c.low < e) → q.start < e
      go (yes h) = omega (arith, c.low-from)
      go (no h) = absurd (omega (arith, starts, c.low-under, window_mono q.long {t = e} {u = stamp_of c.low} (omega arith)))

  short : {is : List ℕ} {e : ℕ} → (e ≡ q.end) ⊎ Cut q is q.start e → e ≤ q.end
  short (inl x) = omega arith
  short (inr x) = (cut_edge x).2

  -- one slot more, before these
  more_least : {is : List ℕ} {low e : ℕ} (i : ℕ) → Least q is low ⊎ (e ≤ low) → Least q (i ∷ is) low ⊎ (e ≤ low)
  more_least i (inl l) = inl (record { slot = l.slot; among = inr l.among; begun = l.begun; low-is = l.low-is })
  more_least i (inr h) = inr h

  more_cut : {is : List ℕ} {e : ℕ} (i : ℕ) → (e ≡ q.end) ⊎ Cut q is q.start e → (e ≡ q.end) ⊎ Cut q (i ∷ is) q.start e
  more_cut i (inl h) = inl h
  more_cut i (inr c) = inr (record {
    high = c.high;
    low = c.low;
    before = inr c.before;
    high_is = c.high_is;
    high_below = c.high_below;
    low-from = c.low-from;
    low-under = c.low-under;
  })

  from_zero_lem : (e t : ℕ) (x : Bool) → in_range q.start e t ≡ x → is_from q.start e 0 t ≡ x
  unfolding is_from
  from_zero_lem e t true f = rw f (yes_le 0 t (omega arith))
  from_zero_lem e t false f = rw f

  -- ---- a shorter range

  module _ (a b : ℕ) (le : b ≤ a) where
    shorter : (t : ℕ) → in_range q.start a t ≡ false → in_range q.start b t ≡ false
    shorter t e = go (in_range q.start b t) refl
      where
        go : (x : Bool) → in_range q.start b t ≡ x → in_range q.start b t ≡ false
        go false f = f
        go true f = let k = inside_is (upto q b) f in absurd (false≢true (sym e ∙ inside_yes (upto q a) k.0 (omega (arith, k.1))))

    from_shorter : (is : List ℕ) → Below q b (from (upto q a) 0 is) → from (upto q b) 0 is ≡ from (upto q a) 0 is
    from_shorter [] h = unfold from in refl
    from_shorter (i ∷ is) h = go (in_range q.start a (stamp_of i)) refl (from_shorter is)
      where
        go : (x : Bool) → in_range q.start a (stamp_of i) ≡ x → (Below q b (from (upto q a) 0 is) → from (upto q b) 0 is ≡ from (upto q a) 0 is)
            → from (upto q b) 0 (i ∷ is) ≡ from (upto q a) 0 (i ∷ is)
        go false e ih =
            let u = from-pass (upto q a) 0 i is (from_zero_lem a (stamp_of i) false e) in
            from-pass (upto q b) 0 i is (from_zero_lem b (stamp_of i) false (shorter (stamp_of i) e)) ∙ ih (subst (Below q b) u h) ∙ sym u
        go true e ih =
            let u = from_stop (upto q a) 0 i is (from_zero_lem a (stamp_of i) true e) in
            let l : stamp_of i < b = subst (Below q b) u h in
            from_stop (upto q b) 0 i is (from_zero_lem b (stamp_of i) true (inside_yes (upto q b) (inside_is (upto q a) e).0 l)) ∙ sym u

    rising_shorter : (is : List ℕ) (low : ℕ) → rising (upto q a) low is ≡ true → rising (upto q b) low is ≡ true
    rising_shorter [] low r = unfold rising in refl
    rising_shorter (i ∷ is) low r = go (in_range q.start a (stamp_of i)) refl (in_range q.start b (stamp_of i)) refl (rising_shorter is)
      where
        go : (x : Bool) → in_range q.start a (stamp_of i) ≡ x → (y : Bool) → in_range q.start b (stamp_of i) ≡ y
            → ((l : ℕ) → rising (upto q a) l is ≡ true → rising (upto q b) l is ≡ true) → rising (upto q b) low (i ∷ is) ≡ true
        go x e false f ih = rise_out (upto q b) low i is f (ih low (less x e))
          where
            less : (x : Bool) → in_range q.start a (stamp_of i) ≡ x → rising (upto q a) low is ≡ true
            less false e = rising_out (upto q a) low i is e r
            less true e = let k = rising_in (upto q a) low i is e r in rising_less (upto q a) is low (win (stamp_of i)) k.0 k.1
        go false e true f ih = absurd (false≢true (sym (shorter (stamp_of i) e) ∙ f))
        go true e true f ih = let k = rising_in (upto q a) low i is e r in rise_in (upto q b) low i is f k.0 (ih (win (stamp_of i)) k.1)

  -- ---- one slot more, before those that were met

  not-before : (e t : ℕ) → e ≤ t → in_range q.start e t ≡ false
  not-before e t h = go (in_range q.start e t) refl
    where
      go : (x : Bool) → in_range q.start e t ≡ x → in_range q.start e t ≡ false
      go false f = f
      go true f = absurd (omega (arith, (inside_is (upto q e) f).1))

  -- a stamp from the least window on is in it, or in a later one
  same_window : {is : List ℕ} {low t : ℕ} → Least q is low → low ≤ t → t < low + q.long → win t ≡ low
  same_window {is} {low} {t} c h k =
      let u = stamp_of c.slot in
      let b : t < win u + q.long = omega (arith, c.low-is) in
      omega (arith, c.low-is, window_again q.long z u, window_mono q.long {t = win u} {u = t} (omega (arith, c.low-is)), window_low q.long z u t b)

  later_window : {is : List ℕ} {low t : ℕ} → Least q is low → low + q.long ≤ t → low + q.long ≤ win t
  later_window {is} {low} {t} c h =
      let u = stamp_of c.slot in
      let b : win u + q.long ≤ t = omega (arith, c.low-is) in
      omega (arith, c.low-is, window_next q.long z u t b)

  below_more : (x y : ℕ) → x ≤ y → (is : List ℕ) → Below q x is → Below q y is
  below_more x y h [] b = tt
  below_more x y h (i ∷ is) b = omega (arith, b)

  pub turn : {n i : ℕ} {is : List ℕ} {end low end' low' : ℕ} {p p' here : Place} → Edged q n is end low p
      → Meets q.start q.long end low p (stamp_of i) here end' low' p' → here.slot < n → here.left ≤ suc (length is)
      → walk n here.slot here.left ≡ i ∷ is → Edged q n (i ∷ is) end' low' p'
  turn {n} {i} {is} {end} {low} {end'} {low'} {p} {p'} {here} g m hs hl hw =
      go (in_range q.start end (stamp_of i)) refl (dec_lt (stamp_of i) low) (dec_lt (stamp_of i) (low + q.long)) g.low-is
    where
      go : (x : Bool) → in_range q.start end (stamp_of i) ≡ x → Dec (stamp_of i < low) → Dec (stamp_of i < low + q.long) → Least q is low ⊎ (end ≤ low)
          → Edged q n (i ∷ is) end' low' p'
      go false e a b c =
          let k = m.outside e in
          let u = from-pass (upto q end) 0 i is (from_zero_lem end (stamp_of i) false e) in
          rw (k.0, k.1, k.2) (record {
            slot_in = g.slot_in;
            few = omega (arith, g.few);
            here = g.here ∙ sym u;
            up = rise_out (upto q end) low i is e g.up;
            head = subst (Below q (low + q.long)) (sym u) g.head;
            low-is = more_least i g.low-is;
            end_is = more_cut i g.end_is;
          })
      go true e (yes a) b c =
          let k = m.lower e a in
          let w = win (stamp_of i) in
          let u = from_stop (upto q end) 0 i is (from_zero_lem end (stamp_of i) true e) in
          rw (k.0, k.1, k.2) (record {
            slot_in = hs;
            few = hl;
            here = hw ∙ sym u;
            up = rise_in (upto q end) w i is e (omega arith) (rising_less (upto q end) is w low (omega (arith, window_le q.long (stamp_of i))) g.up);
            head = subst (Below q (w + q.long)) (sym u) (window_span q.long z (stamp_of i));
            low-is = inl (record { slot = i; among = inl refl; begun = (inside_is (upto q end) e).0; low-is = refl });
            end_is = more_cut i g.end_is;
          })
      go true e (no a) b (inr c) = absurd (omega (arith, (inside_is (upto q end) e).1))
      go true e (no a) (yes b) (inl c) =
          let k = m.same e (omega arith) b in
          let u = from_stop (upto q end) 0 i is (from_zero_lem end (stamp_of i) true e) in
          let v : win (stamp_of i) ≡ low = same_window c (omega arith) b in
          rw (k.0, k.1, k.2) (record {
            slot_in = hs;
            few = hl;
            here = hw ∙ sym u;
            up = rise_in (upto q end) low i is e (omega (arith, v)) (subst (λ (x : ℕ). rising (upto q end) x is ≡ true) (sym v) g.up);
            head = subst (Below q (low + q.long)) (sym u) b;
            low-is = more_least i (inl c);
            end_is = more_cut i g.end_is;
          })
      go true e (no a) (no b) (inl c) =
          let k = m.above e (omega arith) in
          let w = win (stamp_of i) in
          let j = inside_is (upto q end) e in
          let far : low + q.long ≤ w = later_window c (omega arith) in
          let le : w ≤ end = omega (arith, j.1, window_le q.long (stamp_of i)) in
          let off = not-before w (stamp_of i) (window_le q.long (stamp_of i)) in
          let u : from (upto q w) 0 (i ∷ is) ≡ from (upto q end) 0 is =
          from-pass (upto q w) 0 i is (from_zero_lem w (stamp_of i) false off)
          ∙ from_shorter end w le is (below_more (low + q.long) w far (from (upto q end) 0 is) g.head) in
          rw (k.0, k.1, k.2) (record {
            slot_in = g.slot_in;
            few = omega (arith, g.few);
            here = g.here ∙ sym u;
            up = rise_out (upto q w) low i is off (rising_shorter end w le is low g.up);
            head = subst (Below q (low + q.long)) (sym u) g.head;
            low-is = more_least i (inl c);
            end_is = inr (record {
              high = i;
              low = c.slot;
              before = inl (refl, c.among);
              high_is = refl;
              high_below = omega (arith, j.1, short g.end_is);
              low-from = c.begun;
              low-under = omega (arith, c.low-is, far, z);
            });
          })

-- nothing was met
pub none_met : (q : Job) (n : ℕ) (p : Place) → p.slot < n → p.left ≡ 0 → Edged q n [] q.end q.end p
none_met q n p h e = record {
  slot_in = h;
  few = omega arith;
  here = unfold walk from in rw e;
  up = unfold rising in refl;
  head = unfold from in tt;
  low-is = inr (omega arith);
  end_is = inl refl;
}

-- ---- slots behind that are not in the range

module _ (q : Job) (z : 0 < q.long) where
  record Tail (is gap : List ℕ) : Type 0 where
    tail : List ℕ
    none_in : NoneIn q tail
    from_is : from q 0 (is ++ gap) ≡ from q 0 is ++ tail

  from_none : (gap : List ℕ) → NoneIn q gap → from q 0 gap ≡ []
  from_none [] o = unfold from in refl
  from_none (i ∷ is) o = from-pass q 0 i is (from_zero_lem q z q.end (stamp q.source.slab i) false o.0) ∙ from_none is o.1

  from-behind : (is gap : List ℕ) → NoneIn q gap → Tail is gap
  from-behind [] gap o = record { tail = []; none_in = tt; from_is = unfold from in from_none gap o }
  from-behind (i ∷ is) gap o = go (is_from q.start q.end 0 (stamp q.source.slab i)) refl (from-behind is gap o)
    where
      go : (x : Bool) → is_from q.start q.end 0 (stamp q.source.slab i) ≡ x → Tail is gap → Tail (i ∷ is) gap
      go true e t = record { tail = gap; none_in = o; from_is = rw (from_stop q 0 i (is ++ gap) e, from_stop q 0 i is e) }
      go false e t = record { tail = t.tail; none_in = t.none_in; from_is = rw (from-pass q 0 i (is ++ gap) e, from-pass q 0 i is e) t.from_is }

  rising_none : (gap : List ℕ) (low : ℕ) → NoneIn q gap → rising q low gap ≡ true
  rising_none [] low o = unfold rising in refl
  rising_none (i ∷ is) low o = rise_out q low i is o.0 (rising_none is low o.1)

  rising-behind : (is gap : List ℕ) (low : ℕ) → NoneIn q gap → rising q low is ≡ true → rising q low (is ++ gap) ≡ true
  rising-behind [] gap low o r = rising_none gap low o
  rising-behind (i ∷ is) gap low o r = go (in_range q.start q.end (stamp q.source.slab i)) refl (λ l. rising-behind is gap l o)
    where
      go : (x : Bool) → in_range q.start q.end (stamp q.source.slab i) ≡ x → ((l : ℕ) → rising q l is ≡ true → rising q l (is ++ gap) ≡ true)
          → rising q low (i ∷ is ++ gap) ≡ true
      go false e ih = rise_out q low i (is ++ gap) e (ih low (rising_out q low i is e r))
      go true e ih = let k = rising_in q low i is e r in rise_in q low i (is ++ gap) e k.0 (ih (window_of q.long (stamp q.source.slab i)) k.1)

in_behind : (x : ℕ) (is gap : List ℕ) → In x is → In x (is ++ gap)
in_behind x [] gap a = absurd a
in_behind x (i ∷ is) gap (inl e) = inl e
in_behind x (i ∷ is) gap (inr a) = inr (in_behind x is gap a)

before-behind : (x y : ℕ) (is gap : List ℕ) → Before x y is → Before x y (is ++ gap)
before-behind x y [] gap a = absurd a
before-behind x y (i ∷ is) gap (inl e) = inl (e.0, in_behind y is gap e.1)
before-behind x y (i ∷ is) gap (inr a) = inr (before-behind x y is gap a)

cut_behind : (q : Job) {e : ℕ} (is gap : List ℕ) → (e ≡ q.end) ⊎ Cut q is q.start e → (e ≡ q.end) ⊎ Cut q (is ++ gap) q.start e
cut_behind q is gap (inl h) = inl h
cut_behind q is gap (inr c) = inr (record {
  high = c.high;
  low = c.low;
  before = before-behind c.high c.low is gap c.before;
  high_is = c.high_is;
  high_below = c.high_below;
  low-from = c.low-from;
  low-under = c.low-under;
})

none_shorter : (q : Job) → 0 < q.long → (b : ℕ) → b ≤ q.end → (gap : List ℕ) → NoneIn q gap → NoneIn (upto q b) gap
none_shorter q z b h [] o = tt
none_shorter q z b h (i ∷ is) o = (shorter q z q.end b h (stamp q.source.slab i) o.0, none_shorter q z b h is o.1)

-- all was met
pub all_met : (q : Job) → 0 < q.long → (n : ℕ) (p : Place) {part : Place} {low : ℕ} {r : Strand} → Trimmed q n p part
    → Edged q n (walk n part.slot part.left) r.end low r.place → Stranded q n p r
all_met q z n p {part} {low} {r} t g = record {
  slot_in = g.slot_in;
  fewer = omega (arith, g.few, length-walk n part.slot part.left, t.fewer);
  tail = behind.tail;
  none_in = behind.none_in;
  rest-is = ap (from u 0) t.split ∙ behind.from_is ∙ ap (λ (is : List ℕ). is ++ behind.tail) (sym g.here);
  up = subst (λ (is : List ℕ). rising u 0 is ≡ true) (sym t.split) (rising-behind u z met t.gap 0 outside (rising_less u met 0 low (omega arith) g.up));
  end_is = subst (λ (is : List ℕ). (r.end ≡ q.end) ⊎ Cut q is q.start r.end) (sym t.split) (cut_behind q met t.gap g.end_is);
}
  where
    u : Job
    u = upto q r.end

    met : List ℕ
    met = walk n part.slot part.left

    outside : NoneIn u t.gap
    outside = none_shorter q z r.end (short q z g.end_is) t.gap t.none_in

    behind : Tail u z met t.gap
    behind = from-behind u z met t.gap outside
