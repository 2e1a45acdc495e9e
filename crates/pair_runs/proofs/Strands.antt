-- One strand filled: the windows of the rest of the range are left; a strand is read run by run; and behind each strand but the last the reading order is cut.
-- Assumes nothing.
use Prim.Native.Nat.{ℕ, ◌+◌, ◌≤◌, ◌<◌}
use native.Mathlib.Omega.{arith}
use native.Mathlib.Numerals.{add-one}
use mathlib.Core.Path.{◌≡◌, sym, ap, ◌∙◌, subst}
use mathlib.Core.Logic.{◌⊎◌, inl, inr, ◌≢◌}
use mathlib.Core.Bool.{true}
use mathlib.Core.List.{List, ◌++◌}
use lib.ListN.{length}
use Rattle.model.specs.declared.Place.{Place}
use Rattle.model.specs.Ring.{walk, order, slots}
use Rattle.model.specs.Window.{Job}
use Rattle.model.specs.Consolidate.{Filled, windows, fill}
use Rattle.ring_theory.specs.Numbers.{length-walk}
use Rattle.strand_theory.specs.Cuts.{Cut, Cuts, more, Passes}
use Rattle.window.specs.Parts.{job_in}
use Rattle.window_theory.specs.Cut.{upto, onward, cut_fill}
use Rattle.window_runs.specs.declared.Strand.{Strand}
use Rattle.window_runs.specs.Parts.{from, rising}
use Rattle.window_runs.specs.Strand.{Stranded, cut_edge}
use Rattle.window_runs.specs.Rest.{Rest, begin, without, empty_range, rising-from}
use Rattle.window_write.specs.declared.Filling.{Filling}
use Rattle.pair_fill.specs.declared.Pair.{Pair}
use Rattle.pair_fill.specs.Parts.{Lies, Keeps, WholeOrder, source_in, pair_job, filled_in}
use Rattle.pair_fill.proofs.Laws.{refused_windows}
use Rattle.pair_runs.specs.Parts.{in_part}

-- ---- a strand of a job

module _ (q : Job) (z : 0 < q.long) (n : ℕ) {p : Place} {k : Strand} (s : Stranded q n p k) (o : walk n p.slot p.left ≡ order q.source)
    (l : length (order q.source) ≤ slots q.source.slab) where
  -- its windows filled, those of the rest of the range are left
  strand_turn : (m : ℕ) (f : Filled) {g total : Filled} → g ≡ fill (upto q k.end) f (windows (upto q k.end)) m → fill q f (windows q) m ≡ total
      → fill (onward q k.end) g (windows (onward q k.end)) m ≡ total
  strand_turn m f {g} {total} e t = go s.end_is
    where
      go : (k.end ≡ q.end) ⊎ Cut q (walk n p.slot p.left) q.start k.end → fill (onward q k.end) g (windows (onward q k.end)) m ≡ total
      go (inl h) =
          sym (empty_range (onward q k.end) m g (omega (arith, h))) ∙ e
          ∙ ap (λ (b : ℕ). fill (upto q b) f (windows (upto q b)) m) h ∙ t
      go (inr c) =
          let h = cut_edge q z c in
          ap (λ (x : Filled). fill (onward q k.end) x (windows (onward q k.end)) m) e
          ∙ sym (cut_fill q z k.end h.0 (omega (arith, h.1)) h.2 l m f) ∙ t

  -- the slots from its place on have its windows, run by run
  strand_rest : (m : ℕ) (f : Filled)
      → Rest (upto q k.end) m (fill (upto q k.end) f (windows (upto q k.end)) m) f (walk n k.place.slot k.place.left)
  strand_rest m f =
      let u = upto q k.end in
      let slots = walk n k.place.slot k.place.left in
      let a : from u 0 (order q.source) ≡ slots ++ s.tail = ap (from u 0) (sym o) ∙ s.rest-is in
      let b : rising u 0 (order q.source) ≡ true = subst (λ (is : List ℕ). rising u 0 is ≡ true) o s.up in
      without u slots s.tail s.none_in (rw a at (begin u m f l (rising-from u 0 (order q.source) 0 b)))

-- ---- how many strands

-- n strands up to the stamp a: behind each of them the reading order is cut, or the range is done
abbrev pub Strands : Job → ℕ → ℕ → Type 0
Strands q n a = Cuts q n a ⊎ ((q.end ≤ a) × Passes q n)

pub passes : {q : Job} {n a : ℕ} → Strands q n a → Passes q n
passes {q} {n} {a} (inl c) = record { cuts = n; last = a; cut = c; few = omega arith }
passes (inr h) = h.1

-- a cut of what is left of the range is one of the range
cut_left : {q : Job} {is : List ℕ} {a e : ℕ} → Cut (onward q a) is a e → Cut q is a e
cut_left c = record {
  high = c.high;
  low = c.low;
  before = c.before;
  high_is = c.high_is;
  high_below = c.high_below;
  low-from = c.low-from;
  low-under = c.low-under;
}

-- ---- a pair whose range is a part

pub lies_part : {s : List ℕ} {p : Pair} → Lies s p → (a e : ℕ) → e ≤ p.reading.end → Lies s (in_part p a e)
lies_part l a e h = record {
  source_forth = l.source_forth;
  apart = l.apart;
  dest_forth = l.dest_forth;
  inside = l.inside;
  readable = record { sized = l.readable.sized; some_long = l.readable.some_long };
  sound = l.sound;
  some_interval = l.some_interval;
  end_low = omega (arith, l.end_low);
  same-series = l.same-series;
}

pub keeps_part : {s t : List ℕ} {p : Pair} → Lies s p → (a e : ℕ) → Keeps s t (in_part p a e) → Keeps s t p
keeps_part l a e k = record {
  long = k.long;
  only = k.only;
  source_is = k.source_is;
  lies = record {
    source_forth = k.lies.source_forth;
    apart = k.lies.apart;
    dest_forth = k.lies.dest_forth;
    inside = k.lies.inside;
    readable = record { sized = k.lies.readable.sized; some_long = k.lies.readable.some_long };
    sound = k.lies.sound;
    some_interval = k.lies.some_interval;
    end_low = l.end_low;
    same-series = k.lies.same-series;
  };
}

-- ---- a turn: the image was s0, and is s; the range is done up to a

module _ (s0 s : List ℕ) (p : Pair) (a : ℕ) (l0 : Lies s0 p) (kp : Keeps s0 s p) {f : Place} (wh : WholeOrder (source_in s0 p) p.reading f) {k : Strand}
    (st : Stranded (onward (pair_job s p) a) p.reading.slots f k) where
  abbrev job : Job
  job = pair_job s0 p

  abbrev m : ℕ
  m = p.reading.series

  abbrev here : Job
  here = pair_job s (in_part p a k.end)

  abbrev rest : Job
  rest = onward job k.end

  st0 : Stranded (onward job a) p.reading.slots f k
  st0 = subst (λ (x : List ℕ). Stranded (onward (job_in x p.reading) a) p.reading.slots f k) kp.source_is st

  len : length (order job.source) ≤ slots job.source.slab
  len =
      let e : length (order job.source) ≡ f.left = ap length (sym wh.order_is) ∙ length-walk p.reading.slots f.slot f.left in
      omega (arith, e, wh.few_left, l0.readable.sized.slots-is)

  pub end_low : k.end ≤ p.reading.end
  end_low = go st0.end_is
    where
      go : (k.end ≡ job.end) ⊎ Cut (onward job a) (walk p.reading.slots f.slot f.left) a k.end → k.end ≤ p.reading.end
      go (inl h) = omega (arith, h)
      go (inr c) = (cut_edge (onward job a) l0.readable.some_long c).2

  pub gone_on : a < p.reading.end → a < k.end
  gone_on u = go st0.end_is
    where
      go : (k.end ≡ job.end) ⊎ Cut (onward job a) (walk p.reading.slots f.slot f.left) a k.end → a < k.end
      go (inl h) = omega (arith, h)
      go (inr c) = (cut_edge (onward job a) l0.readable.some_long c).1

  pub one_strand : {n : ℕ} → a < p.reading.end → Strands job n a → Strands job (n + 1) k.end
  one_strand {n} u (inr h) = absurd (omega (arith, h.0))
  one_strand {n} u (inl c) = go st0.end_is
    where
      go : (k.end ≡ job.end) ⊎ Cut (onward job a) (walk p.reading.slots f.slot f.left) a k.end → Strands job (n + 1) k.end
      go (inl h) = inr (omega (arith, h), record { cuts = n; last = a; cut = c; few = omega arith })
      go (inr x) =
          let y : Cut job (order job.source) a k.end = cut_left (subst (λ (is : List ℕ). Cut (onward job a) is a k.end) wh.order_is x) in
          inl (rw add-one (more c y))

  pub part-rest : (done : Filling)
      → Rest here m (fill here (filled_in s p done) (windows here) m) (filled_in s p done) (walk p.reading.slots k.place.slot k.place.left)
  part-rest done =
      rw kp.source_is (strand_rest (onward job a) l0.readable.some_long p.reading.slots st0 wh.order_is len m (filled_in s p done))

  module _ (done : Filling) {total : Filled} (left : fill (onward job a) (filled_in s p done) (windows (onward job a)) m ≡ total) (t : List ℕ) (r : Filling)
      (e : filled_in t p r ≡ fill here (filled_in s p done) (windows here) m) where
    pub part_turn : fill rest (filled_in t p r) (windows rest) m ≡ total
    part_turn =
        strand_turn (onward job a) l0.readable.some_long p.reading.slots st0 wh.order_is len m (filled_in s p done)
        (subst (λ (x : List ℕ). filled_in t p r ≡ fill (job_in x (in_part p a k.end).reading) (filled_in s p done) (windows (job_in x (in_part p a k.end).reading)) m)
        kp.source_is e) left

    pub part-last : (filled_in t p r).refusal ≢ 0 → filled_in t p r ≡ total
    part-last n = sym (refused_windows rest m (windows rest) (filled_in t p r) n) ∙ part_turn
