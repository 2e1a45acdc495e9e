-- What the proofs of points rest on: a part cut to its slice, and what a query's answer hands out. Assumes nothing.
use Rattle.std.specs.Prelude.{Result, Ok, Err}
use Prim.Native.Nat.{ℕ, ◌-◌, ◌/◌, ◌<◌, min}
use native.Mathlib.Omega.{arith}
use native.Mathlib.Decide.{dec_lt}
use mathlib.Core.Path.{◌≡◌, refl, ap}
use mathlib.Core.List.{List}
use lib.ListN.{length, take, drop}
use lib.Seq.{take-nil, sets}
use Rattle.model.specs.declared.Found.{Found}
use Rattle.model.specs.declared.Point.{Point}
use Rattle.model.specs.declared.Refusal.{Refusal}
use Rattle.model.specs.Bytes.{part}
use Rattle.model.specs.Read.{points_from, points_of}
use Rattle.model.specs.Query.{replied_by}
use Rattle.model.specs.Store.{read_or, queried_reply}
use Rattle.demand.specs.Demand.{handed_out}
use Rattle.store_reads.proofs.Laws.{part_none, part_past, part-rest}
use Rattle.fetch.specs.Fetch.{words}

-- ---- a part, cut to its slice

pub part_cut : (s : List ℕ) (a e : ℕ) → take (min e (length s) - min a (min e (length s))) (drop (min a (min e (length s))) s) ≡ part s a (e - a)
part_cut s a e = go (dec_lt (length s) e) (dec_lt (length s) a) (dec_lt e a)
  where
    go : Dec (length s < e) → Dec (length s < a) → Dec (e < a) → take (min e (length s) - min a (min e (length s))) (drop (min a (min e (length s))) s) ≡ part s a (e - a)
    go (yes p) (yes q) r =
        let f : min e (length s) - min a (min e (length s)) ≡ 0 = omega arith in
        rw f (part_past s a (e - a) (omega arith))
    go (yes p) (no q) r =
        let f : min e (length s) - min a (min e (length s)) ≡ length s - a = omega arith in
        let g : min a (min e (length s)) ≡ a = omega arith in
        rw (f, g) (part-rest s a e (omega arith))
    go (no p) q (yes r) =
        let f : min e (length s) - min a (min e (length s)) ≡ 0 = omega arith in
        rw f (part_none s a e (omega arith))
    go (no p) q (no r) =
        let f : min e (length s) - min a (min e (length s)) ≡ e - a = omega arith in
        let g : min a (min e (length s)) ≡ a = omega arith in
        rw (f, g) (unfold part in refl)

-- ---- a query's answer

-- n points ps, written over the words old, give the words out
abbrev pub WrittenOut : List Point → List ℕ → List ℕ → ℕ → Type 0
WrittenOut ps old out n = (n ≡ length ps) × (out ≡ sets old 0 (words ps))

-- the points that are to be handed out into the words old
abbrev pub room_for : List ℕ → List Point → List Point
room_for old ps = take (length old / 2) ps

pub same_points : (old : List ℕ) {ps qs : List Point} {n : ℕ} {out : List ℕ} → ps ≡ qs → WrittenOut ps old out n → WrittenOut qs old out n
same_points old e h = rw e at h

-- a refused query hands out nothing: none are counted, and every word stays
pub refused_out : (image : List ℕ) (q : Result Found Refusal) (old : List ℕ) {r : Refusal} → q ≡ Err r → WrittenOut (room_for old (handed_out (queried_reply image q))) old old 0
unfolding handed_out queried_reply read_or replied_by words
refused_out image q old e = rw (e, take-nil) (refl, refl)

-- an answer hands out the points of the part of the image that it names
pub answer_out : (image : List ℕ) (q : Result Found Refusal) (f : Found) → q ≡ Ok f → (to from : ℕ) → to ≡ min f.to (length image) → from ≡ min f.from to
    → points_from f.place.left (take (to - from) (drop from image)) f.column f.start f.end f.place ≡ handed_out (queried_reply image q)
unfolding handed_out queried_reply read_or replied_by points_of
answer_out image q f e to from t a =
    rw e (ap (λ (s : List ℕ). points_from f.place.left s f.column f.start f.end f.place) (rw (a, t) (part_cut image f.from f.to)))
