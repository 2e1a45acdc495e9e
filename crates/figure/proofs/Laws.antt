-- The outcome of both calls from what the reading over all time is: opening's refusal, 11 or 14, or the answer of a row. Assumes nothing.
use Rattle.std.specs.Prelude.{Option, Some, None, Ok, Err}
use Prim.Native.Nat.{ℕ, ◌-◌, ◌<◌}
use mathlib.Core.Path.{◌≡◌, ap, ◌∙◌}
use mathlib.Core.Bool.{Bool, false}
use mathlib.Core.List.{List}
use lib.ListN.{get_or, take, drop}
use Rattle.model.specs.declared.Point.{Point}
use Rattle.model.specs.declared.Refusal.{Refusal}
use Rattle.model.specs.Image.{row_at}
use Rattle.model.specs.Ring.{oldest, newest}
use Rattle.model.specs.Lent.{Lent}
use Rattle.model.specs.Query.{QueryReply, query, answered, replied_by}
use Rattle.model.specs.Figure.{end_of_time, reading, last_on, shown_point, panel_on, panel, served_point, service_on, service, panel_reply, service_reply}
use Rattle.ring.specs.Parts.{ring_of}
use Rattle.lookup.specs.Parts.{SlabAt}
use Rattle.lookup.proofs.Laws.{part-is}
use Rattle.tiers.specs.Reached.{lent_by, row_ring, row-ring}
use Rattle.query.specs.Sought.{SoughtAt}
use Rattle.figure_theory.specs.Back.{ring_last}

-- ---- from the reading's reply

module _ (l : Lent) (k c j : ℕ) {x : QueryReply} (e : x ≡ query l k c j 0 18446744073709551615) where
  pub panel-by : panel_on x ≡ panel l k c j
  unfolding panel reading end_of_time
  panel-by = ap panel_on e

  pub service-by : service_on x ≡ service l k c j
  unfolding service reading end_of_time
  service-by = ap service_on e

-- ---- a refusal

module _ (s : List ℕ) (bs : List Bool) (k c j : ℕ) (w : Refusal) (e : replied_by s (Err w) ≡ query (lent_by s bs) k c j 0 18446744073709551615) where
  pub panel_refused : panel_reply (Err w) ≡ panel (lent_by s bs) k c j
  unfolding replied_by panel_on panel_reply
  panel_refused = panel-by (lent_by s bs) k c j e

  pub service_refused : service_reply (Err w) ≡ service (lent_by s bs) k c j
  unfolding replied_by service_on service_reply
  service_refused = service-by (lent_by s bs) k c j e

-- ---- a row, whose flag is w

module _ (s : List ℕ) (bs : List Bool) (k c j i : ℕ) {w : Bool} (at : SoughtAt s k c j 0 18446744073709551615 i) (e : w ≡ get_or bs i false) where
  pub panel-row : shown_point (ring_last (row_ring s i w) c) ≡ panel (lent_by s bs) k c j
  unfolding panel_on last_on answered end_of_time
  panel-row = rw (row-ring s bs i e) (panel-by (lent_by s bs) k c j (at.replies bs))

  pub service-row : served_point (ring_last (row_ring s i w) c) (oldest (row_ring s i w)) (newest (row_ring s i w)) ≡ service (lent_by s bs) k c j
  unfolding service_on last_on answered end_of_time
  service-row = rw (row-ring s bs i e) (service-by (lent_by s bs) k c j (at.replies bs))

-- ---- in the part of the image that is row i's slab

module _ {s : List ℕ} {i from to n m d : ℕ} (h : SlabAt s i from to n m d) where
  -- its bytes
  abbrev slab : List ℕ
  slab = take (to - from) (drop from s)

  pub column_in : {c : ℕ} → c < (row_at s i).series → c < m
  column_in l = rw h.series-is l

  module _ (w : Bool) (c : ℕ) where
    pub last-at : {p : Option Point} → p ≡ ring_last (ring_of slab w) c → p ≡ ring_last (row_ring s i w) c
    last-at e = e ∙ rw (part-is h)

    -- the service figure: without a point, and with one
    pub none_served : {p : Option Point} → p ≡ None → p ≡ ring_last (ring_of slab w) c
        → service_reply (Ok None) ≡ served_point (ring_last (row_ring s i w) c) (oldest (row_ring s i w)) (newest (row_ring s i w))
    unfolding service_reply served_point
    none_served none e = rw (← last-at e, none)

    pub point_served : {p : Option Point} {x : Point} {o y : Option ℕ} → p ≡ Some x → p ≡ ring_last (ring_of slab w) c → o ≡ oldest (ring_of slab w) → y ≡ newest (ring_of slab w)
        → service_reply (Ok (Some (record { stamp = x.stamp; value = x.value; oldest = o; newest = y })))
        ≡ served_point (ring_last (row_ring s i w) c) (oldest (row_ring s i w)) (newest (row_ring s i w))
    unfolding service_reply served_point
    point_served some e f g = rw (← last-at e, some, ← part-is h, f, g)
