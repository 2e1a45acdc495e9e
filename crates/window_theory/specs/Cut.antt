-- A range cut in two at the start of a window: the windows of the whole are those of the first part, then those of the second; and each window's answer is that
-- of its part. So a pair may be filled part by part. Assumes nothing.
use Prim.Native.Nat.{ℕ, zero, suc, ◌≤◌, ◌<◌}
use native.Mathlib.Omega.{arith}
use Rattle.std.proofs.Math.Decide.{dec_lt}
use Rattle.std.specs.Prelude.{◌≡◌, Bool, length, leb, ltb, Option, Some, None}
use Rattle.std.proofs.Math.Path.{refl, sym, ap, subst}
use Rattle.std.proofs.Common.{◌∙◌}
use Rattle.std.proofs.Math.Bool.{true, false, cond, and-false}
use mathlib.Core.List.{List, [], ◌∷◌, ◌++◌}
use Rattle.model.specs.Ring.{stamp, cell, slots, order}
use Rattle.model.specs.Window.{Job, window_of, held, held_in, window_answer}
use Rattle.model.specs.Consolidate.{Filled, lower, lower_if, is_next, least_from, next_window, windows_from, windows, write_answer, unless_refused, fill_window, fill}
use Rattle.laws.specs.Tests.{yes_le, yes_lt, no_le, no_lt}
use Rattle.laws.specs.Windows.{window_le, window_mono, before_start, past_end, other_window}
use Rattle.window_theory.specs.Found.{found}
use Rattle.window_theory.specs.Every.{one, many, many-length, next_no_lem, fewer}

-- ---- turns that are never used

none_found : (q : Job) (k : ℕ) → windows_from q k None ≡ []
unfolding windows_from
none_found q zero = refl
none_found q (suc k) = refl

one_found : (q : Job) (k w : ℕ) → windows_from q (suc k) (Some w) ≡ w ∷ windows_from q k (next_window q (suc w))
unfolding windows_from
one_found q k w = refl

one-filled : (q : Job) (m w : ℕ) (ws : List ℕ) (f : Filled) → fill q f (w ∷ ws) m ≡ fill q (fill_window q f w 0 m) ws m
unfolding fill
one-filled q m w ws f = refl

module _ (q : Job) (z : 0 < q.long) where
  abbrev is : List ℕ
  is = order q.source

  spare : (k a : ℕ) → many q a is ≤ k → windows_from q (suc k) (next_window q a) ≡ windows_from q k (next_window q a)
  spare zero a l = go (next_window q a) refl
    where
      go : (e : Option ℕ) → next_window q a ≡ e → windows_from q 1 e ≡ windows_from q 0 e
      go None f = none_found q 1 ∙ sym (none_found q 0)
      go (Some w) f = absurd (omega (arith, fewer q z a w f))
  spare (suc k) a l = go (next_window q a) refl (spare k)
    where
      go : (e : Option ℕ) → next_window q a ≡ e → ((c : ℕ) → many q c is ≤ k → windows_from q (suc k) (next_window q c) ≡ windows_from q k (next_window q c))
          → windows_from q (suc (suc k)) e ≡ windows_from q (suc k) e
      go None f ih = none_found q (suc (suc k)) ∙ sym (none_found q (suc k))
      go (Some w) f ih = unfold windows_from in ap (λ (ws : List ℕ). w ∷ ws) (ih (suc w) (omega (arith, fewer q z a w f)))

-- ---- the cut

-- the job, its range cut short, or begun later
abbrev pub upto : Job → ℕ → Job
upto q b = record { source = q.source; function = q.function; long = q.long; start = q.start; end = b }

abbrev pub onward : Job → ℕ → Job
onward q b = record { source = q.source; function = q.function; long = q.long; start = b; end = q.end }

module _ (q : Job) (z : 0 < q.long) (b : ℕ) (edge : window_of q.long b ≡ b) (lo : q.start ≤ b) (hi : b ≤ q.end) where
  abbrev early : Job
  early = upto q b

  abbrev late : Job
  late = onward q b

  abbrev stamp_of : ℕ → ℕ
  stamp_of i = stamp q.source.slab i

  abbrev win : ℕ → ℕ
  win t = window_of q.long t

  win-low : (t : ℕ) → t < b → win t < b
  win-low t h = omega (arith, window_le q.long t)

  win_high : (t : ℕ) → b ≤ t → b ≤ win t
  win_high t h = subst (λ (x : ℕ). x ≤ win t) edge (window_mono q.long h)

  -- a stamp is met by one part alone
  first_part : (a t : ℕ) → t < b → (is_next q a t ≡ is_next early a t) × (is_next late a t ≡ false)
  unfolding is_next
  first_part a t h = (rw (yes_lt t q.end (omega arith), yes_lt t b h), rw (no_le b t h))

  second-part : (a t : ℕ) → b ≤ t → (is_next q a t ≡ is_next late a t) × (is_next early a t ≡ false)
  unfolding is_next
  second-part a t h = (rw (yes_le q.start t (omega arith), yes_le b t h), rw (no_lt t b h, and-false (leb q.start t)))

  abbrev Low : Option ℕ → Type 0
  Low None = Unit {0}
  Low (Some w) = w < b

  abbrev High : Option ℕ → Type 0
  High None = Unit {0}
  High (Some w) = b ≤ w

  or_else : Option ℕ → Option ℕ → Option ℕ
  or_else None d = d
  or_else (Some w) d = Some w

  lower-low : (e : Option ℕ) (w : ℕ) → Low e → w < b → Low (lower e w)
  unfolding lower
  lower-low None w l h = h
  lower-low (Some v) w l h = go (ltb w v)
    where
      go : (x : Bool) → cond x w v < b
      go true = h
      go false = l

  lower_high : (d : Option ℕ) (w : ℕ) → High d → b ≤ w → High (lower d w)
  unfolding lower
  lower_high None w l h = h
  lower_high (Some v) w l h = go (ltb w v)
    where
      go : (x : Bool) → b ≤ cond x w v
      go true = h
      go false = l

  lower-first : (e d : Option ℕ) (w : ℕ) → High d → w < b → lower (or_else e d) w ≡ or_else (lower e w) d
  unfolding lower or_else
  lower-first (Some v) d w l h = refl
  lower-first None None w l h = refl
  lower-first None (Some v) w l h = rw (yes_lt w v (omega arith))

  lower-second : (e d : Option ℕ) (w : ℕ) → Low e → b ≤ w → lower (or_else e d) w ≡ or_else e (lower d w)
  unfolding lower or_else
  lower-second None d w l h = refl
  lower-second (Some v) d w l h = rw (no_lt w v (omega arith))

  -- the least of the whole is the first part's, or else the second's
  record Two (a : ℕ) (js : List ℕ) (e d : Option ℕ) : Type 0 where
    low : Low (least_from early a e js)
    high : High (least_from late a d js)
    both : least_from q a (or_else e d) js ≡ or_else (least_from early a e js) (least_from late a d js)

  two : (a : ℕ) (js : List ℕ) (e d : Option ℕ) → Low e → High d → Two a js e d
  two a [] e d l h = record { low = unfold least_from in l; high = unfold least_from in h; both = unfold least_from in refl }
  two a (i ∷ js) e d l h = go (two a js) (dec_lt (stamp_of i) b)
    where
      go : ((e d : Option ℕ) → Low e → High d → Two a js e d) → Dec (stamp_of i < b) → Two a (i ∷ js) e d
      go ih (yes k) = by (is_next early a (stamp_of i)) refl
        where
          p : (is_next q a (stamp_of i) ≡ is_next early a (stamp_of i)) × (is_next late a (stamp_of i) ≡ false)
          p = first_part a (stamp_of i) k

          by : (x : Bool) → is_next early a (stamp_of i) ≡ x → Two a (i ∷ js) e d
          by false f =
              let t = ih e d l h in
              record {
                low = unfold least_from lower_if in rw f t.low;
                high = unfold least_from lower_if in rw p.1 t.high;
                both = unfold least_from lower_if in rw (p.0, p.1, f) t.both;
              }
          by true f =
              let v = win-low (stamp_of i) k in
              let t = ih (lower e (win (stamp_of i))) d (lower-low e (win (stamp_of i)) l v) h in
              record {
                low = unfold least_from lower_if in rw f t.low;
                high = unfold least_from lower_if in rw p.1 t.high;
                both = unfold least_from lower_if in rw (p.0, p.1, f, lower-first e d (win (stamp_of i)) h v) t.both;
              }
      go ih (no k) = by (is_next late a (stamp_of i)) refl
        where
          p : (is_next q a (stamp_of i) ≡ is_next late a (stamp_of i)) × (is_next early a (stamp_of i) ≡ false)
          p = second-part a (stamp_of i) (omega arith)

          by : (x : Bool) → is_next late a (stamp_of i) ≡ x → Two a (i ∷ js) e d
          by false f =
              let t = ih e d l h in
              record {
                low = unfold least_from lower_if in rw p.1 t.low;
                high = unfold least_from lower_if in rw f t.high;
                both = unfold least_from lower_if in rw (p.0, p.1, f) t.both;
              }
          by true f =
              let v = win_high (stamp_of i) (omega arith) in
              let t = ih e (lower d (win (stamp_of i))) l (lower_high d (win (stamp_of i)) h v) in
              record {
                low = unfold least_from lower_if in rw p.1 t.low;
                high = unfold least_from lower_if in rw f t.high;
                both = unfold least_from lower_if in rw (p.0, p.1, f, lower-second e d (win (stamp_of i)) l v) t.both;
              }

  -- ---- the windows

  abbrev is_all : List ℕ
  is_all = order q.source

  at_first : (a : ℕ) → Two a is_all None None
  at_first a = two a is_all None None tt tt

  next_both : (a : ℕ) → next_window q a ≡ or_else (next_window early a) (next_window late a)
  unfolding next_window or_else
  next_both a = (at_first a).both

  -- bounds up to b are one to the second part, and those from b on leave the first nothing
  free : (a c : ℕ) → a ≤ b → c ≤ b → (js : List ℕ) (d : Option ℕ) → least_from late a d js ≡ least_from late c d js
  unfolding least_from
  free a c h k [] d = refl
  free a c h k (i ∷ js) d = ap (λ (x : Bool). least_from late a (lower_if x d (win (stamp_of i))) js) (same (dec_lt (stamp_of i) b)) ∙ free a c h k js (lower_if (is_next late c (stamp_of i)) d (win (stamp_of i)))
    where
      same : Dec (stamp_of i < b) → is_next late a (stamp_of i) ≡ is_next late c (stamp_of i)
      same (yes l) = (first_part a (stamp_of i) l).1 ∙ sym (first_part c (stamp_of i) l).1
      same (no l) =
          let v = win_high (stamp_of i) (omega arith) in
          unfold is_next in rw (yes_le a (win (stamp_of i)) (omega (arith, v)), yes_le c (win (stamp_of i)) (omega (arith, v)))

  none_low : (a : ℕ) → b ≤ a → (js : List ℕ) (e : Option ℕ) → least_from early a e js ≡ e
  unfolding least_from lower_if
  none_low a h [] e = refl
  none_low a h (i ∷ js) e = rw (out (dec_lt (stamp_of i) b)) (none_low a h js e)
    where
      out : Dec (stamp_of i < b) → is_next early a (stamp_of i) ≡ false
      out (yes l) = next_no_lem early a (stamp_of i) (omega (arith, win-low (stamp_of i) l))
      out (no l) = (second-part a (stamp_of i) (omega arith)).1

  -- the second part has no more slots from a bound on than the whole
  many-late : (a : ℕ) (js : List ℕ) → many late a js ≤ many q a js
  many-late a [] = unfold many in omega arith
  many-late a (i ∷ js) = go (many-late a js) (dec_lt (stamp_of i) b)
    where
      go : many late a js ≤ many q a js → Dec (stamp_of i < b) → many late a (i ∷ js) ≤ many q a (i ∷ js)
      go ih (yes l) = unfold many one in rw (first_part a (stamp_of i) l).1 (omega (arith, ih))
      go ih (no l) = unfold many one in rw (second-part a (stamp_of i) (omega arith)).0 (omega (arith, ih))

  next_free : (a c : ℕ) → a ≤ b → c ≤ b → next_window late a ≡ next_window late c
  unfolding next_window
  next_free a c h k = free a c h k is_all None

  next_none : (a : ℕ) → b ≤ a → next_window early a ≡ None
  unfolding next_window
  next_none a h = none_low a h is_all None

  next_low : (a w : ℕ) → next_window early a ≡ Some w → w < b
  unfolding next_window
  next_low a w e = subst Low e (at_first a).low

  next_high : (a w : ℕ) → next_window late a ≡ Some w → b ≤ w
  unfolding next_window
  next_high a w e = subst High e (at_first a).high

  from_first : (a w : ℕ) → next_window early a ≡ Some w → next_window q a ≡ Some w
  unfolding or_else
  from_first a w f = next_both a ∙ ap (λ (x : Option ℕ). or_else x (next_window late a)) f

  from_second : (a : ℕ) → next_window early a ≡ None → next_window q a ≡ next_window late a
  unfolding or_else
  from_second a f = next_both a ∙ ap (λ (x : Option ℕ). or_else x (next_window late a)) f

  parts : (k a : ℕ) → many q a is_all ≤ k
      → windows_from q k (next_window q a) ≡ windows_from early k (next_window early a) ++ windows_from late k (next_window late a)
  parts zero a l = unfold windows_from in refl
  parts (suc k) a l = go (next_window early a) refl (next_window late a) refl (λ w f. parts k (suc w) (omega (arith, fewer q z a w f)))
    where
      go : (e : Option ℕ) → next_window early a ≡ e → (d : Option ℕ) → next_window late a ≡ d
          → ((w : ℕ) → next_window q a ≡ Some w → windows_from q k (next_window q (suc w)) ≡ windows_from early k (next_window early (suc w)) ++ windows_from late k (next_window late (suc w)))
          → windows_from q (suc k) (next_window q a) ≡ windows_from early (suc k) e ++ windows_from late (suc k) d
      go None f None g ih =
          rw (from_second a f ∙ g, none_found q (suc k), none_found early (suc k), none_found late (suc k))
      go None f (Some w) g ih =
          let n : next_window q a ≡ Some w = from_second a f ∙ g in
          let m : next_window early (suc w) ≡ None = next_none (suc w) (omega (arith, next_high a w g)) in
          let u : windows_from early k (next_window early (suc w)) ≡ [] = ap (windows_from early k) m ∙ none_found early k in
          rw (n, one_found q k w, none_found early (suc k), one_found late k w)
          (ap (λ (ws : List ℕ). w ∷ ws) (ih w n ∙ ap (λ (ws : List ℕ). ws ++ windows_from late k (next_window late (suc w))) u))
      go (Some w) f d g ih =
          let n : next_window q a ≡ Some w = from_first a w f in
          let h : w < b = next_low a w f in
          let l1 : suc w ≤ b = omega (arith, h) in
          let l2 : a ≤ b = omega (arith, h, (found early z a f).0) in
          let e : next_window late (suc w) ≡ d = next_free (suc w) a l1 l2 ∙ g in
          let u : windows_from late k (next_window late (suc w)) ≡ windows_from late (suc k) d =
          sym (spare late z k (suc w) (omega (arith, many-late (suc w) is_all, fewer q z a w n))) ∙ ap (windows_from late (suc k)) e in
          rw (n, one_found q k w, one_found early k w) (ap (λ (ws : List ℕ). w ∷ ws) (ih w n ∙ ap (λ (ws : List ℕ). windows_from early k (next_window early (suc w)) ++ ws) u))

  pub cut_windows : length is_all ≤ slots q.source.slab → windows q ≡ windows early ++ windows late
  unfolding windows
  cut_windows l = parts (slots q.source.slab) 0 (omega (arith, many-length q 0 is_all))

  -- ---- the answers

  held_first : (w t v : ℕ) → w < b → held q w t v ≡ held early w t v
  held_first w t v h = go (dec_lt t q.start) (dec_lt t b) (dec_lt t q.end)
    where
      go : Dec (t < q.start) → Dec (t < b) → Dec (t < q.end) → held q w t v ≡ held early w t v
      go (yes k) l m = sym (before_start q w t v k) ∙ before_start early w t v k
      go (no k) (yes l) m = unfold held in rw (yes_lt t q.end (omega arith), yes_lt t b l)
      go (no k) (no l) (yes m) = sym (other_window q w t v (omega arith) m (λ e. omega (arith, e, win_high t (omega arith)))) ∙ past_end early w t v (omega arith) (omega arith)
      go (no k) (no l) (no m) = sym (past_end q w t v (omega arith) (omega arith)) ∙ past_end early w t v (omega arith) (omega arith)

  held-second : (w t v : ℕ) → b ≤ w → held q w t v ≡ held late w t v
  held-second w t v h = go (dec_lt t q.start) (dec_lt t b)
    where
      go : Dec (t < q.start) → Dec (t < b) → held q w t v ≡ held late w t v
      go (yes k) l = sym (before_start q w t v k) ∙ before_start late w t v (omega arith)
      go (no k) (yes l) = sym (other_window q w t v (omega arith) (omega arith) (λ e. omega (arith, e, win-low t l))) ∙ before_start late w t v l
      go (no k) (no l) = unfold held in rw (yes_le q.start t (omega arith), yes_le b t (omega arith))

  in_first : (w c : ℕ) → w < b → (js : List ℕ) → held_in q w c js ≡ held_in early w c js
  unfolding held_in
  in_first w c h [] = refl
  in_first w c h (i ∷ js) = rw (held_first w (stamp_of i) (cell q.source.slab c i) h, in_first w c h js)

  in_second : (w c : ℕ) → b ≤ w → (js : List ℕ) → held_in q w c js ≡ held_in late w c js
  unfolding held_in
  in_second w c h [] = refl
  in_second w c h (i ∷ js) = rw (held-second w (stamp_of i) (cell q.source.slab c i) h, in_second w c h js)

  answer_first : (w c : ℕ) → w < b → window_answer q w c ≡ window_answer early w c
  unfolding window_answer
  answer_first w c h = rw (in_first w c h is_all)

  answer_second : (w c : ℕ) → b ≤ w → window_answer q w c ≡ window_answer late w c
  unfolding window_answer
  answer_second w c h = rw (in_second w c h is_all)

  -- ---- the writes

  window_same : (p : Job) (w : ℕ) → ((c : ℕ) → window_answer q w c ≡ window_answer p w c) → (j c : ℕ) (f : Filled) → fill_window q f w c j ≡ fill_window p f w c j
  unfolding fill_window
  window_same p w e zero c f = refl
  window_same p w e (suc j) c f = rw (e c) (window_same p w e j (suc c) (unless_refused f.refusal f (write_answer (window_answer p w c) f w c)))

  first_writes : (m k a : ℕ) (f : Filled) → fill q f (windows_from early k (next_window early a)) m ≡ fill early f (windows_from early k (next_window early a)) m
  first_writes m zero a f = unfold windows_from fill in refl
  first_writes m (suc k) a f = go (next_window early a) refl (λ w. first_writes m k (suc w))
    where
      go : (e : Option ℕ) → next_window early a ≡ e → ((w : ℕ) (f : Filled) → fill q f (windows_from early k (next_window early (suc w))) m ≡ fill early f (windows_from early k (next_window early (suc w))) m)
          → fill q f (windows_from early (suc k) e) m ≡ fill early f (windows_from early (suc k) e) m
      go None g ih = unfold windows_from fill in refl
      go (Some w) g ih =
          let h : w < b = next_low a w g in
          rw (one_found early k w)
          (one-filled q m w (windows_from early k (next_window early (suc w))) f
          ∙ ap (λ (g : Filled). fill q g (windows_from early k (next_window early (suc w))) m) (window_same early w (λ c. answer_first w c h) m 0 f)
          ∙ ih w (fill_window early f w 0 m)
          ∙ sym (one-filled early m w (windows_from early k (next_window early (suc w))) f))

  second_writes : (m k a : ℕ) (f : Filled) → fill q f (windows_from late k (next_window late a)) m ≡ fill late f (windows_from late k (next_window late a)) m
  second_writes m zero a f = unfold windows_from fill in refl
  second_writes m (suc k) a f = go (next_window late a) refl (λ w. second_writes m k (suc w))
    where
      go : (e : Option ℕ) → next_window late a ≡ e → ((w : ℕ) (f : Filled) → fill q f (windows_from late k (next_window late (suc w))) m ≡ fill late f (windows_from late k (next_window late (suc w))) m)
          → fill q f (windows_from late (suc k) e) m ≡ fill late f (windows_from late (suc k) e) m
      go None g ih = unfold windows_from fill in refl
      go (Some w) g ih =
          let h : b ≤ w = next_high a w g in
          rw (one_found late k w)
          (one-filled q m w (windows_from late k (next_window late (suc w))) f
          ∙ ap (λ (g : Filled). fill q g (windows_from late k (next_window late (suc w))) m) (window_same late w (λ c. answer_second w c h) m 0 f)
          ∙ ih w (fill_window late f w 0 m)
          ∙ sym (one-filled late m w (windows_from late k (next_window late (suc w))) f))

  fill_on : (m : ℕ) (ws vs : List ℕ) (f : Filled) → fill q f (ws ++ vs) m ≡ fill q (fill q f ws m) vs m
  unfolding fill
  fill_on m [] vs f = refl
  fill_on m (w ∷ ws) vs f = fill_on m ws vs (fill_window q f w 0 m)

  -- a pair filled part by part
  pub cut_fill : length is_all ≤ slots q.source.slab → (m : ℕ) (f : Filled) → fill q f (windows q) m ≡ fill late (fill early f (windows early) m) (windows late) m
  cut_fill l m f =
      ap (λ (ws : List ℕ). fill q f ws m) (cut_windows l)
      ∙ fill_on m (windows early) (windows late) f
      ∙ ap (λ (g : Filled). fill q g (windows late) m) first
      ∙ second (fill early f (windows early) m)
    where
      first : fill q f (windows early) m ≡ fill early f (windows early) m
      first = unfold windows in first_writes m (slots q.source.slab) 0 f

      second : (g : Filled) → fill q g (windows late) m ≡ fill late g (windows late) m
      second g = unfold windows in second_writes m (slots q.source.slab) 0 g
