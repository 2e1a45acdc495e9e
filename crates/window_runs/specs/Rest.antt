-- A source read in order. Where the windows of its stamps in the range never fall in reading order, the windows that the search finds are those of the runs, in their order:
-- the window of the first slot that is left is the next one found, the slots up to the first of a later window have all that it has, and as many turns as
-- there are slots are enough. Assumes nothing.
use Prim.Native.Nat.{ℕ, zero, suc, ◌+◌, ◌-◌, ◌≤◌, ◌<◌}
use Rattle.std.proofs.Math.Nat.{zero-add}
use native.Mathlib.Omega.{arith}
use Rattle.std.proofs.Math.Decide.{dec_lt}
use Rattle.std.specs.Prelude.{◌≡◌, ◌≢◌, Bool, ◌&&◌, Option, Some, None}
use Rattle.std.proofs.Math.Path.{refl, ap}
use Rattle.std.proofs.Common.{sym, ◌∙◌, subst, length-append}
use Rattle.std.proofs.Math.Bool.{true, false}
use Rattle.std.proofs.lemmas.Bool.{false≢true}
use mathlib.Core.List.{List, [], ◌∷◌, ◌++◌, append-nil}
use Rattle.std.proofs.Math.ListN.{length}
use Rattle.std.proofs.Math.Dec.{leb, ltb}
use Rattle.model.specs.declared.Held.{Held}
use Rattle.model.specs.declared.Held.TheVariants.{Outside}
use Rattle.model.specs.Ring.{stamp, cell, slots, order}
use Rattle.model.specs.Window.{Job, window_of, held, held_in, seen_one, seen, keep_finite, finites, window_answer}
use Rattle.model.specs.Consolidate.{Filled, lower, lower_if, is_next, least_from, next_window, windows_from, windows, fill_window, fill}
use Rattle.laws.specs.Tests.{yes_le, yes_lt, no_le, no_lt, le_is, lt-is, and_left, and_right}
use Rattle.window.specs.Parts.{along}
use Rattle.laws.specs.Windows.{window_low, window_next, before_start, past_end, other_window}
use Rattle.window_runs.specs.Parts.{in_range, is_from, from, rising, NoneIn}

module _ (q : Job) where
  abbrev stamp_of : ℕ → ℕ
  stamp_of i = stamp q.source.slab i

  abbrev inside : ℕ → Bool
  inside t = in_range q.start q.end t

  pub inside_is : {t : ℕ} → inside t ≡ true → (q.start ≤ t) × (t < q.end)
  unfolding in_range
  inside_is {t} h = (le_is q.start t (and_left (leb q.start t) (ltb t q.end) h), lt-is t q.end (and_right (leb q.start t) (ltb t q.end) h))

  pub inside_yes : {t : ℕ} → q.start ≤ t → t < q.end → inside t ≡ true
  unfolding in_range
  inside_yes {t} h k = rw (yes_le q.start t h, yes_lt t q.end k)

  -- a slot whose stamp is outside the range, or of another window, has nothing for window w
  out : (w t v : ℕ) → (inside t ≡ true → window_of q.long t ≢ w) → held q w t v ≡ Outside
  out w t v f = go (dec_lt t q.start) (dec_lt t q.end)
    where
      go : Dec (t < q.start) → Dec (t < q.end) → held q w t v ≡ Outside
      go (yes h) k = sym (before_start q w t v h)
      go (no h) (no k) = sym (past_end q w t v (omega arith) (omega arith))
      go (no h) (yes k) = sym (other_window q w t v (omega arith) k (f (inside_yes (omega arith) k)))

  -- nor is it found from the bound on
  not-next : (b t : ℕ) → (inside t ≡ true → window_of q.long t < b) → is_next q b t ≡ false
  unfolding is_next in_range
  not-next b t f = go (leb q.start t && ltb t q.end) refl
    where
      go : (a : Bool) → leb q.start t && ltb t q.end ≡ a → (a && leb b (window_of q.long t)) ≡ false
      go false e = refl
      go true e = no_le b (window_of q.long t) (f e)

  least_first : (b i : ℕ) (is : List ℕ) (e : Option ℕ) → (inside (stamp_of i) ≡ true → window_of q.long (stamp_of i) < b) → least_from q b e (i ∷ is) ≡ least_from q b e is
  unfolding least_from lower_if
  least_first b i is e f = rw (not-next b (stamp_of i) f)

  -- an empty range has no window
  none_inside : (b : ℕ) → q.end ≤ q.start → (is : List ℕ) (e : Option ℕ) → least_from q b e is ≡ e
  none_inside b h [] e = unfold least_from in refl
  none_inside b h (i ∷ is) e = least_first b i is e (λ g. absurd (let k = inside_is g in omega (arith, k.0, k.1))) ∙ none_inside b h is e

  pub empty_range : (m : ℕ) (f : Filled) → q.end ≤ q.start → f ≡ fill q f (windows q) m
  unfolding windows
  empty_range m f h =
      let e : next_window q 0 ≡ None = unfold next_window in none_inside 0 h (order q.source) None in
      rw e (go (slots q.source.slab))
    where
      go : (k : ℕ) → f ≡ fill q f (windows_from q k None) m
      go zero = unfold windows_from fill in refl
      go (suc k) = unfold windows_from fill in refl

  -- ---- two lists of what slots hold that give one answer

  record Same (hs ks : List Held) : Type 0 where
    seen-is : seen hs ≡ seen ks
    finite-is : finites hs ≡ finites ks

  same-along : (w c : ℕ) (is js : List ℕ) → Same (held_in q w c is) (held_in q w c js) → along q w c is ≡ along q w c js
  unfolding along
  same-along w c is js s = rw (s.seen-is, s.finite-is)

  -- a first slot that has nothing for the window
  along-first : (w c i : ℕ) (is : List ℕ) → (inside (stamp_of i) ≡ true → window_of q.long (stamp_of i) ≢ w) → along q w c (i ∷ is) ≡ along q w c is
  along-first w c i is f = same-along w c (i ∷ is) is (record {
    seen-is = unfold held_in seen in rw (out w (stamp_of i) (cell q.source.slab c i) f) (unfold seen_one in zero-add (seen (held_in q w c is)));
    finite-is = unfold held_in finites in rw (out w (stamp_of i) (cell q.source.slab c i) f) (unfold keep_finite in refl);
  })

  -- last slots that have nothing for the window
  abbrev Out : ℕ → List ℕ → Type 0
  Out w [] = Unit {0}
  Out w (i ∷ is) = (inside (stamp_of i) ≡ true → window_of q.long (stamp_of i) ≢ w) × Out w is

  all_out : (w c : ℕ) (js : List ℕ) → Out w js → (seen (held_in q w c js) ≡ 0) × (finites (held_in q w c js) ≡ [])
  unfolding held_in seen finites seen_one keep_finite
  all_out w c [] o = (refl, refl)
  all_out w c (i ∷ is) o =
      let e = out w (stamp_of i) (cell q.source.slab c i) o.0 in
      let k = all_out w c is o.1 in
      rw e (omega (arith, k.0), k.1)

  -- slots that are not in the range, before such slots
  out_none : (w : ℕ) (gap : List ℕ) → NoneIn q gap → (js : List ℕ) → Out w js → Out w (gap ++ js)
  out_none w [] o js k = k
  out_none w (i ∷ is) o js k = ((λ e. absurd (false≢true (sym o.0 ∙ e))), out_none w is o.1 js k)

  least_none : (b : ℕ) (tail : List ℕ) → NoneIn q tail → (is : List ℕ) (e : Option ℕ) → least_from q b e (is ++ tail) ≡ least_from q b e is
  unfolding least_from
  least_none b tail o (i ∷ is) e = least_none b tail o is (lower_if (is_next q b (stamp_of i)) e (window_of q.long (stamp_of i)))
  least_none b tail o [] e = none tail o
    where
      none : (js : List ℕ) → NoneIn q js → least_from q b e js ≡ e
      none [] o = refl
      none (j ∷ js) o = least_first b j js e (λ f. absurd (false≢true (sym o.0 ∙ f))) ∙ none js o.1

  last_out : (w c : ℕ) (is js : List ℕ) → Out w js → Same (held_in q w c (is ++ js)) (held_in q w c is)
  unfolding held_in seen finites
  last_out w c [] js o = record { seen-is = (all_out w c js o).0; finite-is = (all_out w c js o).1 }
  last_out w c (i ∷ is) js o =
      let k = last_out w c is js o in
      let h = held q w (stamp_of i) (cell q.source.slab c i) in
      record { seen-is = ap (λ (x : ℕ). seen_one h + x) k.seen-is; finite-is = ap (keep_finite h) k.finite-is }

  -- ---- windows that never fall

  abbrev Above : ℕ → List ℕ → Type 0
  Above low [] = Unit {0}
  Above low (i ∷ is) = (inside (stamp_of i) ≡ true → low ≤ window_of q.long (stamp_of i)) × Above low is

  above_less : (low high : ℕ) → low ≤ high → (is : List ℕ) → Above high is → Above low is
  above_less low high h [] a = tt
  above_less low high h (i ∷ is) a = (λ e. omega (arith, a.0 e), above_less low high h is a.1)

  pub rising_in : (low i : ℕ) (is : List ℕ) → inside (stamp_of i) ≡ true → rising q low (i ∷ is) ≡ true
      → (low ≤ window_of q.long (stamp_of i)) × (rising q (window_of q.long (stamp_of i)) is ≡ true)
  unfolding rising
  rising_in low i is e r =
      let w = window_of q.long (stamp_of i) in
      let k : (leb low w && rising q w is) ≡ true = rw e at r in
      (le_is low w (and_left (leb low w) (rising q w is) k), and_right (leb low w) (rising q w is) k)

  pub rising_out : (low i : ℕ) (is : List ℕ) → inside (stamp_of i) ≡ false → rising q low (i ∷ is) ≡ true → rising q low is ≡ true
  unfolding rising
  rising_out low i is e r = rw e at r

  pub rise_out : (low i : ℕ) (is : List ℕ) → inside (stamp_of i) ≡ false → rising q low is ≡ true → rising q low (i ∷ is) ≡ true
  unfolding rising
  rise_out low i is e r = rw e r

  pub rise_in : (low i : ℕ) (is : List ℕ) → inside (stamp_of i) ≡ true → low ≤ window_of q.long (stamp_of i) → rising q (window_of q.long (stamp_of i)) is ≡ true
      → rising q low (i ∷ is) ≡ true
  unfolding rising
  rise_in low i is e h r = rw (e, yes_le low (window_of q.long (stamp_of i)) h) r

  rising_above : (is : List ℕ) (low : ℕ) → rising q low is ≡ true → Above low is
  rising_above [] low r = tt
  rising_above (i ∷ is) low r = go (inside (stamp_of i)) refl (rising_above is)
    where
      go : (a : Bool) → inside (stamp_of i) ≡ a → ((l : ℕ) → rising q l is ≡ true → Above l is) → Above low (i ∷ is)
      go false e ih = ((λ f. absurd (false≢true (sym e ∙ f))), ih low (rising_out low i is e r))
      go true e ih = let k = rising_in low i is e r in ((λ f. k.0), above_less low (window_of q.long (stamp_of i)) k.0 is (ih (window_of q.long (stamp_of i)) k.1))

  rising-first : (is tail : List ℕ) (low : ℕ) → rising q low (is ++ tail) ≡ true → rising q low is ≡ true
  rising-first [] tail low r = unfold rising in refl
  rising-first (i ∷ is) tail low r = go (inside (stamp_of i)) refl (rising-first is tail)
    where
      go : (a : Bool) → inside (stamp_of i) ≡ a → ((l : ℕ) → rising q l (is ++ tail) ≡ true → rising q l is ≡ true) → rising q low (i ∷ is) ≡ true
      go false e ih = rise_out low i is e (ih low (rising_out low i (is ++ tail) e r))
      go true e ih = let k = rising_in low i (is ++ tail) e r in rise_in low i is e k.0 (ih (window_of q.long (stamp_of i)) k.1)

  pub rising_less : (is : List ℕ) (low high : ℕ) → low ≤ high → rising q high is ≡ true → rising q low is ≡ true
  rising_less [] low high h r = unfold rising in refl
  rising_less (i ∷ is) low high h r = go (inside (stamp_of i)) refl (rising_less is low high h)
    where
      go : (a : Bool) → inside (stamp_of i) ≡ a → (rising q high is ≡ true → rising q low is ≡ true) → rising q low (i ∷ is) ≡ true
      go false e ih = let k = ih (rising_out high i is e r) in unfold rising in rw e k
      go true e ih = let k = rising_in high i is e r in unfold rising in rw (e, yes_le low (window_of q.long (stamp_of i)) (omega (arith, k.0))) k.1

  -- ---- the slots before a limit passed over

  -- the first slot is one from the limit on
  abbrev Head : ℕ → List ℕ → Type 0
  Head limit [] = Unit {0}
  Head limit (i ∷ is) = is_from q.start q.end limit (stamp_of i) ≡ true

  from_is : (limit t : ℕ) → is_from q.start q.end limit t ≡ true → (inside t ≡ true) × (limit ≤ t)
  unfolding is_from
  from_is limit t e = (and_left (inside t) (leb limit t) e, le_is limit t (and_right (inside t) (leb limit t) e))

  from-not : (limit t : ℕ) → is_from q.start q.end limit t ≡ false → inside t ≡ true → t < limit
  unfolding is_from
  from-not limit t e f = go (dec_lt t limit)
    where
      go : Dec (t < limit) → t < limit
      go (yes k) = k
      go (no k) = absurd (false≢true (sym e ∙ rw (f, yes_le limit t (omega arith))))

  module _ (limit : ℕ) where
    abbrev test : ℕ → Bool
    test i = is_from q.start q.end limit (stamp_of i)

    pub from_stop : (i : ℕ) (is : List ℕ) → test i ≡ true → from q limit (i ∷ is) ≡ i ∷ is
    unfolding from
    from_stop i is e = rw e

    pub from-pass : (i : ℕ) (is : List ℕ) → test i ≡ false → from q limit (i ∷ is) ≡ from q limit is
    unfolding from
    from-pass i is e = rw e

    head-from : (is : List ℕ) → Head limit (from q limit is)
    head-from [] = unfold from in tt
    head-from (i ∷ is) = go (test i) refl (head-from is)
      where
        go : (a : Bool) → test i ≡ a → Head limit (from q limit is) → Head limit (from q limit (i ∷ is))
        go true e ih = rw (from_stop i is e) e
        go false e ih = rw (from-pass i is e) ih

    length_from : (is : List ℕ) → length (from q limit is) ≤ length is
    length_from [] = unfold from in omega arith
    length_from (i ∷ is) = go (test i) refl (length_from is)
      where
        go : (a : Bool) → test i ≡ a → length (from q limit is) ≤ length is → length (from q limit (i ∷ is)) ≤ suc (length is)
        go true e ih = rw (from_stop i is e) (omega arith)
        go false e ih = rw (from-pass i is e) (omega arith)

    pub rising-from : (is : List ℕ) (low : ℕ) → rising q low is ≡ true → rising q low (from q limit is) ≡ true
    rising-from [] low r = unfold from in r
    rising-from (i ∷ is) low r = go (test i) refl (inside (stamp_of i)) refl (rising-from is low)
      where
        go : (a : Bool) → test i ≡ a → (b : Bool) → inside (stamp_of i) ≡ b → (rising q low is ≡ true → rising q low (from q limit is) ≡ true)
            → rising q low (from q limit (i ∷ is)) ≡ true
        go true e b f ih = rw (from_stop i is e) r
        go false e false f ih = rw (from-pass i is e) (ih (rising_out low i is f r))
        go false e true f ih = let k = rising_in low i is f r in rw (from-pass i is e) (ih (rising_less is low (window_of q.long (stamp_of i)) k.0 k.1))

    head_above : ((t : ℕ) → limit ≤ t → limit ≤ window_of q.long t) → (is : List ℕ) → Head limit is → rising q 0 is ≡ true → Above limit is
    head_above g [] h r = tt
    head_above g (i ∷ is) h r =
        let f = from_is limit (stamp_of i) h in
        let k = rising_in 0 i is f.0 r in
        let w = window_of q.long (stamp_of i) in
        ((λ e. g (stamp_of i) f.1), above_less limit w (g (stamp_of i) f.1) is (rising_above is w k.1))

    -- the slots passed over have no window from the bound on
    module _ (bound : ℕ) (below : (t : ℕ) → t < limit → window_of q.long t < bound) where
      from_least : (b : ℕ) → bound ≤ b → (is : List ℕ) (e : Option ℕ) → least_from q b e is ≡ least_from q b e (from q limit is)
      from_least b h [] e = unfold from in refl
      from_least b h (i ∷ is) e = go (test i) refl (from_least b h is e)
        where
          go : (a : Bool) → test i ≡ a → least_from q b e is ≡ least_from q b e (from q limit is) → least_from q b e (i ∷ is) ≡ least_from q b e (from q limit (i ∷ is))
          go true f ih = rw (from_stop i is f)
          go false f ih =
              rw (from-pass i is f)
              (least_first b i is e (λ g. omega (arith, below (stamp_of i) (from-not limit (stamp_of i) f g))) ∙ ih)

      from-along : (w c : ℕ) → bound ≤ w → (is : List ℕ) → along q w c is ≡ along q w c (from q limit is)
      from-along w c h [] = unfold from in refl
      from-along w c h (i ∷ is) = go (test i) refl (from-along w c h is)
        where
          go : (a : Bool) → test i ≡ a → along q w c is ≡ along q w c (from q limit is) → along q w c (i ∷ is) ≡ along q w c (from q limit (i ∷ is))
          go true f ih = rw (from_stop i is f)
          go false f ih =
              rw (from-pass i is f)
              (along-first w c i is (λ g k. omega (arith, below (stamp_of i) (from-not limit (stamp_of i) f g))) ∙ ih)

  -- ---- what is left to be done

  -- the windows from the bound on are those of these slots, and with them f becomes the total
  pub record Rest (m : ℕ) (total f : Filled) (is : List ℕ) : Type 0 where
    pub bound : ℕ
    pub limit : ℕ
    pub fuel : ℕ
    pub high_edge : (t : ℕ) → limit ≤ t → bound ≤ window_of q.long t
    pub head : Head limit is
    pub up : rising q 0 is ≡ true
    pub enough : length is ≤ fuel
    pub next : (b : ℕ) → bound ≤ b → next_window q b ≡ least_from q b None is
    pub same : (w c : ℕ) → bound ≤ w → window_answer q w c ≡ along q w c is
    pub remains : fill q f (windows_from q fuel (next_window q bound)) m ≡ total

  -- at first: the reading order from the first stamp in the range on
  pub begin : (m : ℕ) (f : Filled) → length (order q.source) ≤ slots q.source.slab → rising q 0 (from q 0 (order q.source)) ≡ true
      → Rest m (fill q f (windows q) m) f (from q 0 (order q.source))
  begin m f l r = record {
    bound = 0;
    limit = 0;
    fuel = slots q.source.slab;
    high_edge = λ t h. omega arith;
    head = head-from 0 (order q.source);
    up = r;
    enough = omega (arith, length_from 0 (order q.source));
    next = λ b h. unfold next_window in from_least 0 0 none b h (order q.source) None;
    same = λ w c h. first w c ∙ from-along 0 0 none w c h (order q.source);
    remains = unfold windows in refl;
  }
    where
      none : (t : ℕ) → t < 0 → window_of q.long t < 0
      none t h = absurd (omega arith)

      first : (w c : ℕ) → window_answer q w c ≡ along q w c (order q.source)
      first w c = unfold window_answer along in refl

  -- the last slots need not be read where none of them is in the range
  pub without : {m : ℕ} {total f : Filled} (is tail : List ℕ) → NoneIn q tail → Rest m total f (is ++ tail) → Rest m total f is
  without {m} {total} {f} is tail o r = record {
    bound = r.bound;
    limit = r.limit;
    fuel = r.fuel;
    high_edge = r.high_edge;
    head = first is r.head;
    up = rising-first is tail 0 r.up;
    enough = omega (arith, r.enough, length-append is tail);
    next = λ b h. r.next b h ∙ least_none b tail o is None;
    same = λ w c h. r.same w c h ∙ same-along w c (is ++ tail) is (last_out w c is tail (subst (Out w) (append-nil tail) (out_none w tail o [] tt)));
    remains = r.remains;
  }
    where
      first : (js : List ℕ) → Head r.limit (js ++ tail) → Head r.limit js
      first [] h = tt
      first (j ∷ js) h = h

  -- no slot is left
  pub nothing_left : {m : ℕ} {total f : Filled} → Rest m total f [] → f ≡ total
  nothing_left {m} {total} {f} r = go r.fuel (rw (r.next r.bound (omega arith)) at r.remains)
    where
      go : (k : ℕ) → fill q f (windows_from q k (least_from q r.bound None [])) m ≡ total → f ≡ total
      go zero e = unfold least_from windows_from fill in e
      go (suc k) e = unfold least_from windows_from fill in e

  -- a window's columns written, one turn less
  one_turn : (m k w : ℕ) (f : Filled) {total g : Filled} → 0 < k → g ≡ fill_window q f w 0 m → fill q f (windows_from q k (Some w)) m ≡ total
      → fill q g (windows_from q (k - 1) (next_window q (suc w))) m ≡ total
  unfolding windows_from fill
  one_turn m zero w f l e h = absurd (omega arith)
  one_turn m (suc k) w f l e h = let u : suc k - 1 ≡ k = omega arith in rw (u, e) h

  -- the first slot that is left
  module _ {m i : ℕ} {total f : Filled} {is : List ℕ} (z : 0 < q.long) (r : Rest m total f (i ∷ is)) where
    abbrev here : ℕ
    here = window_of q.long (stamp_of i)

    in_here : (inside (stamp_of i) ≡ true) × (r.limit ≤ stamp_of i)
    in_here = from_is r.limit (stamp_of i) r.head

    bound-low : r.bound ≤ here
    bound-low = r.high_edge (stamp_of i) in_here.1

    later : Above here is
    later = rising_above is here (rising_in 0 i is in_here.0 r.up).1

    stays : (js : List ℕ) → Above here js → least_from q r.bound (Some here) js ≡ Some here
    unfolding least_from
    stays [] a = refl
    stays (j ∷ js) a = ap (λ (e : Option ℕ). least_from q r.bound e js) (go (is_next q r.bound (stamp_of j)) refl) ∙ stays js a.1
      where
        go : (b : Bool) → is_next q r.bound (stamp_of j) ≡ b → lower_if b (Some here) (window_of q.long (stamp_of j)) ≡ Some here
        go false e = unfold lower_if in refl
        go true e =
            unfold lower_if lower is_next in_range in rw (no_lt (window_of q.long (stamp_of j)) here ((a.0 (and_left (inside (stamp_of j)) (leb r.bound (window_of q.long (stamp_of j))) e))))

    -- its window is the next one
    pub next-is : next_window q r.bound ≡ Some here
    next-is = r.next r.bound (omega arith) ∙ unfold least_from in (rw (is-next (stamp_of i) in_here.0 bound-low) (unfold lower_if lower in stays is later))
      where
        is-next : (t : ℕ) → inside t ≡ true → r.bound ≤ window_of q.long t → is_next q r.bound t ≡ true
        is-next t e h = unfold is_next in_range in rw (e, yes_le r.bound (window_of q.long t) h)

    abbrev rest : List ℕ
    rest = from q (here + q.long) is

    up_behind : rising q 0 is ≡ true
    up_behind = let k = rising_in 0 i is in_here.0 r.up in rising_less is 0 here (omega arith) k.1

    -- and the slots up to the first of a later window have all of it, also without the last of them that are not in the range
    pub run-same : (run gap : List ℕ) → NoneIn q gap → i ∷ is ≡ run ++ (gap ++ rest) → (c : ℕ) → window_answer q here c ≡ along q here c run
    run-same run gap o e c =
        r.same here c bound-low ∙ ap (along q here c) e
        ∙ same-along here c (run ++ (gap ++ rest)) run (last_out here c run (gap ++ rest) (out_none here gap o rest (none rest behind)))
      where
        behind : Above (here + q.long) rest
        behind =
            head_above (here + q.long) (λ t h. window_next q.long z (stamp_of i) t h) rest (head-from (here + q.long) is)
            (rising-from (here + q.long) is 0 up_behind)

        none : (js : List ℕ) → Above (here + q.long) js → Out here js
        none [] a = tt
        none (j ∷ js) a = ((λ e g. omega (arith, z, a.0 e)), none js a.1)

    -- its columns written, the rest is left
    pub run_done_lem : {g : Filled} → g ≡ fill_window q f here 0 m → Rest m total g rest
    run_done_lem {g} e = record {
      bound = suc here;
      limit = here + q.long;
      fuel = r.fuel - 1;
      high_edge = λ t h. omega (arith, z, window_next q.long z (stamp_of i) t h);
      head = head-from (here + q.long) is;
      up = rising-from (here + q.long) is 0 up_behind;
      enough = omega (arith, r.enough, length_from (here + q.long) is);
      next = λ b h. r.next b (omega (arith, bound-low)) ∙ least_first b i is None (λ g. h) ∙ from_least (here + q.long) (suc here) low b h is None;
      same = λ w c h. r.same w c (omega (arith, bound-low)) ∙ along-first w c i is (λ g k. omega arith) ∙ from-along (here + q.long) (suc here) low w c h is;
      remains = one_turn m r.fuel here f (omega (arith, r.enough)) e (rw next-is at r.remains);
    }
      where
        low : (t : ℕ) → t < here + q.long → window_of q.long t < suc here
        low t h = window_low q.long z (stamp_of i) t h
