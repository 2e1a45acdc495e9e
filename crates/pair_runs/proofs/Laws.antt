-- One turn of the loop over the runs; the reading order from where it starts; fewer slots are left. Assumes nothing.
use Prim.Native.Nat.{ℕ, suc, ◌+◌, ◌*◌, ◌-◌, ◌%◌, ◌≤◌, ◌<◌}
use native.Mathlib.Omega.{arith}
use native.Mathlib.Nat.{mul-le-mul_left, mul-suc}
use mathlib.Core.Path.{◌≡◌, sym, ap, ◌∙◌, subst}
use mathlib.Core.Logic.{◌≢◌}
use mathlib.Core.List.{List, [], ◌∷◌, ◌++◌}
use Rattle.model.specs.declared.Place.{Place}
use Rattle.model.specs.Ring.{stamp, walk, first_place}
use Rattle.model.specs.Window.{Job, window_of}
use Rattle.model.specs.Consolidate.{Filled, next_window, windows_from, fill_window}
use Rattle.window.specs.declared.Reading.{Reading}
use Rattle.window.specs.Parts.{Readable, job_in}
use Rattle.laws.specs.Windows.{window_again}
use Rattle.window.proofs.Laws.{order_is}
use Rattle.window_runs.specs.declared.Run.{Run}
use Rattle.window_runs.specs.Parts.{from, Ran}
use Rattle.window_runs.specs.Rest.{Rest, nothing_left, run-same, run_done_lem}
use Rattle.window_runs.proofs.Laws.{walk_first}
use Rattle.pair_fill.specs.Parts.{Covers, WholeOrder}
use Rattle.pair_fill.proofs.Laws.{refused_windows}

module _ (s : List ℕ) (q : Reading) (h : Readable s q) where
  abbrev job : Job
  job = job_in s q

  -- ---- the whole reading order

  pub first-whole : {p : Place} → p ≡ first_place job.source → p.slot < q.slots → p.left ≤ q.slots → WholeOrder s q p
  first-whole e a b = record { slot_in = a; few_left = b; order_is = order_is h.sized q.wrapped e }

  -- ---- a run

  module _ {m slot left : ℕ} {total f : Filled} (z : 0 < left) (r : Rest job m total f (walk q.slots slot left)) {x : Run}
      (k : Ran job q.slots (record { slot = slot; left = left }) x) where
    abbrev behind : List ℕ
    behind = walk q.slots (suc slot % q.slots) (left - 1)

    by_first : Rest job m total f (slot ∷ behind)
    by_first = subst (Rest job m total f) (walk_first q.slots slot left z) r

    rest_from : walk q.slots x.rest.slot x.rest.left ≡ from job (window_of q.long (stamp s slot) + q.long) behind
    rest_from = k.rest-is ∙ ap (λ (w : ℕ). from job (w + q.long) behind) k.window_is

    pub run-covers : left ≤ q.slots → Covers s q x.window x.run
    run-covers l = record {
      slot_in = k.run_in;
      few_left = omega (arith, k.run_few);
      starts = rw k.window_is (window_again q.long h.some_long (stamp s slot));
      same = λ c. rw k.window_is (run-same job h.some_long by_first run k.parted.gap k.parted.none_in split c);
    }
      where
        run : List ℕ
        run = walk q.slots x.run.slot x.run.left

        split : slot ∷ behind ≡ run ++ (k.parted.gap ++ from job (window_of q.long (stamp s slot) + q.long) behind)
        split = sym (walk_first q.slots slot left z) ∙ k.parted.split ∙ ap (λ (l : List ℕ). run ++ (k.parted.gap ++ l)) rest_from

    pub run_turn : {g : Filled} → g ≡ fill_window job f x.window 0 m → Rest job m total g (walk q.slots x.rest.slot x.rest.left)
    run_turn {g} e = rw rest_from (run_done_lem job h.some_long by_first (e ∙ ap (λ (w : ℕ). fill_window job f w 0 m) k.window_is))

    pub run-last : {g : Filled} → g ≡ fill_window job f x.window 0 m → g.refusal ≢ 0 → g ≡ total
    run-last {g} e n =
        let t = run_turn e in
        sym (refused_windows job m (windows_from job t.fuel (next_window job t.bound)) g n) ∙ t.remains

  pub runs_done : {m : ℕ} (slot left : ℕ) {total f : Filled} → left ≡ 0 → Rest job m total f (walk q.slots slot left) → f ≡ total
  runs_done {m} slot left {total} {f} e r = nothing_left job (subst (Rest job m total f) (none e) r)
    where
      none : left ≡ 0 → walk q.slots slot left ≡ []
      none e = unfold walk in rw e

-- fewer slots are left, so a window's columns are counted once
pub fewer_left : (m a b : ℕ) → a < b → m + m * a ≤ m * b
fewer_left m a b h = omega (arith, mul-le-mul_left m h, mul-suc m a)
