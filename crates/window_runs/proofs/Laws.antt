-- The tests of a stamp by the code's order, and one turn of each pass. Assumes nothing.
use Prim.Native.Nat.{ℕ, zero, suc, ◌+◌, ◌-◌, ◌%◌, ◌≤◌, ◌<◌}
use native.Mathlib.Nat.{mod-eq_of_lt, mod-lt, suc-mod, add-zero, add-suc, sub_self}
use native.Mathlib.Omega.{arith}
use native.Mathlib.Decide.{dec_lt}
use mathlib.Core.Path.{◌≡◌, refl, sym, ap, ◌∙◌, subst}
use mathlib.Core.Bool.{Bool, true, false, cond, and-false, false≢true}
use mathlib.Core.List.{List, [], ◌∷◌, ◌++◌, append_assoc}
use lib.Dec.{leb}
use Rattle.model.specs.declared.Place.{Place}
use Rattle.model.specs.Ring.{stamp, walk}
use Rattle.model.specs.Window.{Job, window_of}
use Rattle.laws.specs.Tests.{yes_le, no_le, yes_lt, no_lt}
use Rattle.ring_theory.specs.Numbers.{length-walk}
use Rattle.ring_theory.specs.Walk.{steps, walk_split, walk_more}
use Rattle.window_runs.specs.Parts.{in_range, is_from, from, NoneIn, Parted}
use Rattle.window_runs.specs.Strand.{Meets, Edged, Trimmed, turn, none_met}
use Rattle.window_runs.specs.Rest.{from_stop, from-pass}

-- ---- a stamp from a limit on

module _ (start end limit t : ℕ) where
  pub not-inside : in_range start end t ≡ false → false ≡ is_from start end limit t
  unfolding is_from
  not-inside h = rw h

  pub below_limit : in_range start end t ≡ true → t < limit → false ≡ is_from start end limit t
  unfolding is_from
  below_limit h k = rw (h, no_le limit t k)

pub from-limit : (start end window width t : ℕ) → in_range start end t ≡ true → window ≤ t → leb width (t - window) ≡ is_from start end (window + width) t
unfolding is_from
from-limit start end window width t h k = rw h (go (dec_lt (t - window) width))
  where
    go : Dec (t - window < width) → leb width (t - window) ≡ leb (window + width) t
    go (yes l) = rw (no_le width (t - window) l, no_le (window + width) t (omega arith))
    go (no l) = rw (yes_le width (t - window) (omega arith), yes_le (window + width) t (omega arith))

-- ---- the slots from `slot` on, `left` of them, by the first

pub walk_first : (n slot left : ℕ) → 0 < left → walk n slot left ≡ slot ∷ walk n (suc slot % n) (left - 1)
unfolding walk
walk_first n slot left h = let e : left ≡ suc (left - 1) = omega arith in ap (walk n slot) e

-- no slot is left
module _ (q : Job) (n slot left : ℕ) (e : left ≡ 0) where
  pub skip_none : (limit : ℕ) {total : List ℕ} → from q limit (walk n slot left) ≡ total → walk n slot left ≡ total
  unfolding walk from
  skip_none limit i = rw e (rw e at i)

module _ (q : Job) (n slot left : ℕ) (h : 0 < left) {t : ℕ} (p : t ≡ stamp q.source.slab slot) where
  pub skip_here : (limit : ℕ) → true ≡ is_from q.start q.end limit t → {total : List ℕ} → from q limit (walk n slot left) ≡ total → walk n slot left ≡ total
  skip_here limit e i =
      walk_first n slot left h ∙ sym (from_stop q limit slot (walk n (suc slot % n) (left - 1)) (sym (ap (is_from q.start q.end limit) p) ∙ sym e))
      ∙ sym (ap (from q limit) (walk_first n slot left h)) ∙ i

  pub skip_turn : (limit : ℕ) {next : ℕ} → false ≡ is_from q.start q.end limit t → next ≡ suc slot % n → {total : List ℕ} → from q limit (walk n slot left) ≡ total
      → from q limit (walk n next (left - 1)) ≡ total
  skip_turn limit e g i =
      rw g (sym (from-pass q limit slot (walk n (suc slot % n) (left - 1)) (sym (ap (is_from q.start q.end limit) p) ∙ sym e))
      ∙ sym (ap (from q limit) (walk_first n slot left h)) ∙ i)

-- one step more
pub step_more : (n slot₀ left₀ slot left : ℕ) {next : ℕ} → 0 < left → left ≤ left₀ → slot ≡ steps n slot₀ (left₀ - left) → next ≡ suc slot % n
    → next ≡ steps n slot₀ (left₀ - (left - 1))
unfolding steps
step_more n slot₀ left₀ slot left h k e g = let l : left₀ - (left - 1) ≡ suc (left₀ - left) = omega arith in rw (l, g, e)

-- ---- a run, the slots behind it that are not in the range, and the rest

module _ (q : Job) (n : ℕ) where
  none_more : (is : List ℕ) (i : ℕ) → NoneIn q is → in_range q.start q.end (stamp q.source.slab i) ≡ false → NoneIn q (is ++ i ∷ [])
  none_more [] i o e = (e, tt)
  none_more (j ∷ is) i o e = (o.0, none_more is i o.1 e)

  -- nothing passed over
  pub part-begin : (slot left : ℕ) → Parted q n (walk n slot left) (record { slot = slot; left = left - left }) (record { slot = slot; left = left })
  part-begin slot left = record { gap = []; none_in = tt; split = rw (sub_self left) (unfold walk in refl) }

  -- one slot more passed over: in the range it ends the run
  module _ (slot₀ left₀ slot left last : ℕ) {next last' t : ℕ} (h : 0 < left) (k : left ≤ left₀) (p : t ≡ stamp q.source.slab slot) (g : next ≡ suc slot % n)
      (l : last' ≡ cond (in_range q.start q.end t) (left - 1) last) where
    pub last_more : last ≤ left₀ → last' ≤ left₀
    last_more f = go (in_range q.start q.end t) l
      where
        go : (x : Bool) → last' ≡ cond x (left - 1) last → last' ≤ left₀
        go true e = omega (arith, e)
        go false e = omega (arith, e)

    pub part_more : slot ≡ steps n slot₀ (left₀ - left)
        → Parted q n (walk n slot₀ left₀) (record { slot = slot₀; left = left₀ - last }) (record { slot = slot; left = left })
        → Parted q n (walk n slot₀ left₀) (record { slot = slot₀; left = left₀ - last' }) (record { slot = next; left = left - 1 })
    part_more e d = go (in_range q.start q.end t) refl l
      where
        go : (x : Bool) → in_range q.start q.end t ≡ x → last' ≡ cond x (left - 1) last
            → Parted q n (walk n slot₀ left₀) (record { slot = slot₀; left = left₀ - last' }) (record { slot = next; left = left - 1 })
        go false f c = rw c (record {
          gap = d.gap ++ slot ∷ [];
          none_in = none_more d.gap slot d.none_in (sym (ap (in_range q.start q.end) p) ∙ f);
          split = d.split ∙ ap (λ (is : List ℕ). walk n slot₀ (left₀ - last) ++ is) behind;
        })
          where
            behind : d.gap ++ walk n slot left ≡ (d.gap ++ slot ∷ []) ++ walk n next (left - 1)
            behind = rw (walk_first n slot left h, g) (sym (append_assoc d.gap (slot ∷ []) (walk n (suc slot % n) (left - 1))))
        go true f c = rw c (record { gap = []; none_in = tt; split = whole })
          where
            whole : walk n slot₀ left₀ ≡ walk n slot₀ (left₀ - (left - 1)) ++ walk n next (left - 1)
            whole =
                let a : left₀ ≡ (left₀ - (left - 1)) + (left - 1) = omega arith in
                ap (walk n slot₀) a ∙ walk_split n slot₀ (left₀ - (left - 1)) (left - 1)
                ∙ ap (λ (x : ℕ). walk n slot₀ (left₀ - (left - 1)) ++ walk n x (left - 1)) (sym (step_more n slot₀ left₀ slot left h k e g))

  -- the first slot is the run's
  pub run-first : (slot left : ℕ) {next last : ℕ} {rest : Place} → 0 < left → next ≡ suc slot % n → last ≤ left - 1
      → Parted q n (walk n next (left - 1)) (record { slot = next; left = left - 1 - last }) rest
      → Parted q n (walk n slot left) (record { slot = slot; left = left - last }) rest
  run-first slot left {next} {last} {rest} h g k d = record {
    gap = d.gap;
    none_in = d.none_in;
    split = walk_first n slot left h ∙ ap (λ (is : List ℕ). slot ∷ is) (rw (← g) d.split)
        ∙ ap (λ (is : List ℕ). is ++ (d.gap ++ walk n rest.slot rest.left)) (sym run);
  }
    where
      run : walk n slot (left - last) ≡ slot ∷ walk n next (left - 1 - last)
      run = let b : left - last - 1 ≡ left - 1 - last = omega arith in walk_first n slot (left - last) (omega arith) ∙ rw (b, g)

-- ---- against the reading order

pub slot_in : (n v : ℕ) → v < n → v ≡ v % n
slot_in n v h = sym (mod-eq_of_lt h)

-- the place of the slot at v, where the reading ends before b
abbrev pub place_at : ℕ → ℕ → ℕ → Place
place_at n b v = record { slot = v % n; left = b - v }

pub steps_are : (n i k : ℕ) → i < n → steps n i k ≡ (i + k) % n
unfolding steps
steps_are n i zero h = slot_in n i h ∙ ap (λ (x : ℕ). x % n) (sym (add-zero i))
steps_are n i (suc k) h = ap (λ (x : ℕ). suc x % n) (steps_are n i k h) ∙ sym (suc-mod (i + k) n) ∙ ap (λ (x : ℕ). x % n) (sym (add-suc i k))

-- ---- one stamp met

module _ (start long end low : ℕ) (p : Place) (t : ℕ) (here : Place) where
  out_met : in_range start end t ≡ false → Meets start long end low p t here end low p
  out_met e = record {
    outside = λ f. (refl, refl, refl);
    lower = λ f. absurd (false≢true (sym e ∙ f));
    same = λ f. absurd (false≢true (sym e ∙ f));
    above = λ f. absurd (false≢true (sym e ∙ f));
  }

  pub early_met : t < start → Meets start long end low p t here end low p
  early_met h = out_met (unfold in_range in rw (no_le start t h))

  pub late_met : end ≤ t → Meets start long end low p t here end low p
  late_met h = out_met (unfold in_range in rw (no_lt t end h) (and-false (leb start t)))

  module _ (h : start ≤ t) (k : t < end) where
    inn : in_range start end t ≡ true
    unfolding in_range
    inn = rw (yes_le start t h, yes_lt t end k)

    pub lower_met : t < low → {w : ℕ} → w ≡ window_of long t → Meets start long end low p t here end w here
    lower_met l e = record {
      outside = λ f. absurd (false≢true (sym f ∙ inn));
      lower = λ f a. (refl, e, refl);
      same = λ f a. absurd (omega arith);
      above = λ f a. absurd (omega arith);
    }

    pub above_met : low ≤ t → long ≤ t - low → {w : ℕ} → w ≡ window_of long t → Meets start long end low p t here w low p
    above_met l m e = record {
      outside = λ f. absurd (false≢true (sym f ∙ inn));
      lower = λ f a. absurd (omega arith);
      same = λ f a b. absurd (omega arith);
      above = λ f a. (e, refl, refl);
    }

    pub same_met : low ≤ t → t - low < long → Meets start long end low p t here end low here
    same_met l m = record {
      outside = λ f. absurd (false≢true (sym f ∙ inn));
      lower = λ f a. absurd (omega arith);
      same = λ f a b. (refl, refl, refl);
      above = λ f a. absurd (omega arith);
    }

-- the slots met, by the first of them
pub met_walk : (n slot before met : ℕ) → suc before % n ≡ slot → walk n before (met + 1) ≡ before ∷ walk n slot met
met_walk n slot before met e = let k : met + 1 - 1 ≡ met = omega arith in walk_first n before (met + 1) (omega arith) ∙ rw (e, k)

pub none_walk : (q : Job) (n b : ℕ) → 0 < n → Edged q n (walk n (b % n) (b - b)) q.end q.end (place_at n b b)
unfolding walk
none_walk q n b z = let e : b - b ≡ 0 = omega arith in rw e (none_met q n (record { slot = b % n; left = 0 }) (mod-lt b z) refl)

pub turn_more : (q : Job) → 0 < q.long → (n slot before met : ℕ) {t end low end' low' : ℕ} {p p' : Place} → t ≡ stamp q.source.slab before → suc before % n ≡ slot → before < n
    → Edged q n (walk n slot met) end low p → Meets q.start q.long end low p t (record { slot = before; left = met + 1 }) end' low' p'
    → Edged q n (walk n before (met + 1)) end' low' p'
turn_more q z n slot before met {t} {end} {low} {end'} {low'} {p} {p'} e f h g m =
    let w = met_walk n slot before met f in
    let m' : Meets q.start q.long end low p (stamp q.source.slab before) (record { slot = before; left = met + 1 }) end' low' p' =
    subst (λ (x : ℕ). Meets q.start q.long end low p x (record { slot = before; left = met + 1 }) end' low' p') e m in
    subst (λ (is : List ℕ). Edged q n is end' low' p') (sym w) (turn q z g m' h (omega (arith, length-walk n slot met)) w)

-- the slot before v, however it stands to the part
pub met_more : (q : Job) → 0 < q.long → (n b v : ℕ) {slot t end low end' low' : ℕ} {p p' : Place} → 0 < v → v ≤ b → slot ≡ (v - 1) % n → slot < n
    → t ≡ stamp q.source.slab slot → Edged q n (walk n (v % n) (b - v)) end low p
    → Meets q.start q.long end low p t (place_at n b (v - 1)) end' low' p' → Edged q n (walk n ((v - 1) % n) (b - (v - 1))) end' low' p'
met_more q z n b v {slot} {t} {end} {low} {end'} {low'} {p} {p'} y l e h s g m =
    let f : suc (v - 1) ≡ v = omega arith in
    let next : suc ((v - 1) % n) % n ≡ v % n = sym (suc-mod (v - 1) n) ∙ ap (λ (x : ℕ). x % n) f in
    let k : b - (v - 1) ≡ b - v + 1 = omega arith in
    rw k (turn_more q z n (v % n) ((v - 1) % n) (b - v) (s ∙ ap (stamp q.source.slab) e) next (subst (λ (x : ℕ). x < n) e h) g (rw k at m))

pub met_all : (q : Job) (n : ℕ) (place : Place) {v end low : ℕ} {p : Place} → place.slot < n → v ≡ place.slot
    → Edged q n (walk n (v % n) (place.slot + place.left - v)) end low p → Edged q n (walk n place.slot place.left) end low p
met_all q n place {v} {end} {low} {p} h e g =
    let a : v % n ≡ place.slot = ap (λ (x : ℕ). x % n) e ∙ mod-eq_of_lt h in
    let b : place.slot + place.left - v ≡ place.left = omega (arith, e) in
    rw (a, b) at g

-- ---- the last slots, one more of which is not in the range

pub trim_more : (q : Job) (n : ℕ) (p : Place) (left : ℕ) {slot t : ℕ} → p.slot < n → 0 < left → slot ≡ (p.slot + (left - 1)) % n → t ≡ stamp q.source.slab slot
    → in_range q.start q.end t ≡ false → Trimmed q n p (record { slot = p.slot; left = left }) → Trimmed q n p (record { slot = p.slot; left = left - 1 })
trim_more q n p left {slot} {t} i h e f o d = record {
  slot_in = d.slot_in;
  fewer = omega (arith, d.fewer);
  gap = slot ∷ d.gap;
  none_in = (sym (ap (in_range q.start q.end) f) ∙ o, d.none_in);
  split = d.split ∙ ap (λ (is : List ℕ). is ++ d.gap) last ∙ append_assoc (walk n p.slot (left - 1)) (slot ∷ []) d.gap;
}
  where
    last : walk n p.slot left ≡ walk n p.slot (left - 1) ++ slot ∷ []
    last =
        let u : left ≡ suc (left - 1) = omega arith in
        let s : steps n p.slot (left - 1) ≡ slot = steps_are n p.slot (left - 1) i ∙ sym e in
        ap (walk n p.slot) u ∙ walk_more n p.slot (left - 1) ∙ rw s
