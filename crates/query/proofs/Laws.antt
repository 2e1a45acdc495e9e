-- The outcome of `query` and of `query_auto`, one law a way: opening's refusal, 11, 14, 15, the answer. Assumes nothing.
use Rattle.std.specs.Prelude.{Some, None, Err}
use Prim.Native.Nat.{ℕ, zero, suc, ◌+◌, ◌≤◌, ◌<◌}
use native.Mathlib.Omega.{arith}
use mathlib.Core.Path.{◌≡◌, refl, sym, ◌∙◌}
use mathlib.Core.Logic.{◌≢◌}
use mathlib.Core.Bool.{Bool, true}
use mathlib.Core.List.{List, []}
use lib.ListN.{length}
use Rattle.model.specs.declared.Refusal.{Refusal}
use Rattle.model.specs.declared.Refusal.TheVariants.{InvalidHandle, InvalidTier, InvalidTimeRange}
use Rattle.model.specs.Words.{number_of}
use Rattle.model.specs.Image.{unless, first, row_at, row_count, rows, tiers_of, open_check}
use Rattle.model.specs.Lent.{Lent, tiers, first_row, row_no}
use Rattle.model.specs.Record.{series_of, handle_ok}
use Rattle.model.specs.Query.{QueryReply, found, not_found, query_check, auto_check, choose, answered, query_on, query, query_auto, replied_by}
use Rattle.laws.specs.Tests.{yes_lt, no_lt}
use Rattle.image_theory.specs.Good.{good_open}
use Rattle.image_theory.specs.Tiers.{tier-row, some_tier}
use Rattle.rows.specs.First.{first_stop, refusal_no}
use Rattle.lookup.specs.Parts.{finest_of}
use Rattle.lookup.specs.Handle.{handle_none, handle_at, handle_in, row_there}
use Rattle.lookup.proofs.Laws.{few_rows}
use Rattle.tiers.specs.Reached.{lent_by}
use Rattle.tiers.proofs.Laws.{tier_there}
use Rattle.query.specs.Sought.{SoughtAt}

module _ (s : List ℕ) (bs : List Bool) (k c start end : ℕ) where
  abbrev l : Lent
  l = lent_by s bs

  -- a check that gives a refusal's number
  refused_on_lem : (w : Refusal) (j n : ℕ) → n ≡ number_of w → replied_by s (Err w) ≡ query_on n l k c j start end
  unfolding replied_by query_on
  refused_on_lem w j zero e = absurd (refusal_no w (sym e))
  refused_on_lem w j (suc n) e = rw (← e)

  -- opening's number, as it is
  pub unopened : (n j : ℕ) → n ≢ 0 → n ≡ open_check s → not_found n ≡ query l k c j start end
  unfolding query query_check query_on
  unopened zero j z e = absurd (z refl)
  unopened (suc n) j z e = rw (← e, first_stop (suc n) _ z)

  pub auto_unopened : (n : ℕ) → n ≢ 0 → n ≡ open_check s → not_found n ≡ query_auto l k c start end
  unfolding query_auto auto_check query_on
  auto_unopened zero z e = absurd (z refl)
  auto_unopened (suc n) z e = rw (← e, first_stop (suc n) _ z)

  module _ (w : Refusal) (e : number_of w ≡ open_check s) where
    pub not_opened : (j : ℕ) → replied_by s (Err w) ≡ query l k c j start end
    unfolding query query_check
    not_opened j = refused_on_lem w j (query_check l k c j start end) (rw (← e) (first_stop (number_of w) _ (refusal_no w)))

    pub auto_not-opened : replied_by s (Err w) ≡ query_auto l k c start end
    unfolding query_auto auto_check
    auto_not-opened = refused_on_lem w (choose l k start end) (auto_check l k c start end) (rw (← e) (first_stop (number_of w) _ (refusal_no w)))

  module _ (h : open_check s ≡ 0) where
    pub bad_handle : finest_of s k c ≡ None → (j : ℕ) → replied_by s (Err InvalidHandle) ≡ query l k c j start end
    unfolding query query_check first unless
    bad_handle e j = refused_on_lem InvalidHandle j (query_check l k c j start end) (rw (h, handle_none l k c e))

    pub auto_bad_handle : finest_of s k c ≡ None → replied_by s (Err InvalidHandle) ≡ query_auto l k c start end
    unfolding query_auto auto_check first unless
    auto_bad_handle e = refused_on_lem InvalidHandle (choose l k start end) (auto_check l k c start end) (rw (h, handle_none l k c e))

    -- i is the row of the schema's tier 0
    module _ {i : ℕ} (at : finest_of s k c ≡ Some i) where
      ok : handle_ok l k c ≡ true
      ok = (handle_at l k c at).0

      pub first-is : i ≡ first_row k (rows s)
      first-is = (handle_at l k c at).1

      pub has-tier : 0 < length (tiers_of k (rows s))
      has-tier = let g = good_open s h in some_tier s g.shape_is g.layout_is k (handle_in l k c ok).0

      pub bad_tier : (j : ℕ) → length (tiers_of k (rows s)) ≤ j → replied_by s (Err InvalidTier) ≡ query l k c j start end
      unfolding query query_check first unless tiers
      bad_tier j p = refused_on_lem InvalidTier j (query_check l k c j start end) (rw (h, ok, no_lt j (length (tiers_of k (rows s))) p))

      pub bad_range : (j : ℕ) → j < length (tiers_of k (rows s)) → end ≤ start → replied_by s (Err InvalidTimeRange) ≡ query l k c j start end
      unfolding query query_check first unless tiers
      bad_range j p q = refused_on_lem InvalidTimeRange j (query_check l k c j start end) (rw (h, ok, yes_lt j (length (tiers_of k (rows s))) p, no_lt start end q))

      pub auto_bad_range : end ≤ start → replied_by s (Err InvalidTimeRange) ≡ query_auto l k c start end
      unfolding query_auto auto_check first unless
      auto_bad_range q = refused_on_lem InvalidTimeRange (choose l k start end) (auto_check l k c start end) (rw (h, ok, no_lt start end q))

      -- a check that passes: the answer of row i + j
      answered-on : (j n : ℕ) {x : QueryReply} → n ≡ 0 → x ≡ found (answered l (i + j) c j start end) → x ≡ query_on n l k c j start end
      unfolding query_on row_no
      answered-on j n e p = p ∙ rw (e, first-is)

      pub answers : (j : ℕ) → j < length (tiers_of k (rows s)) → start < end → {x : QueryReply} → x ≡ found (answered l (i + j) c j start end) → x ≡ query l k c j start end
      unfolding query query_check first unless tiers
      answers j p q x = answered-on j (query_check l k c j start end) (rw (h, ok, yes_lt j (length (tiers_of k (rows s))) p, yes_lt start end q)) x

      pub auto_answers : (j : ℕ) → j ≡ choose l k start end → start < end → {x : QueryReply} → x ≡ found (answered l (i + j) c j start end) → x ≡ query_auto l k c start end
      unfolding query_auto auto_check first unless
      auto_answers j e q x = answered-on j (auto_check l k c start end) (rw (h, ok, yes_lt start end q)) x ∙ rw e

-- ---- whatever the flags: `at` says that i is the row of the handle's finest tier

module _ (s : List ℕ) (k c : ℕ) (h : open_check s ≡ 0) {i : ℕ} (at : finest_of s k c ≡ Some i) where
  pub finest-is : i ≡ first_row k (rows s)
  finest-is = first-is s [] k c 0 0 h at

  pub finest_there : i < row_count s
  finest_there = (row_there (lent_by s []) k c h at).0

  pub some_tier_there : 0 < length (tiers_of k (rows s))
  some_tier_there = has-tier s [] k c 0 0 h at

  -- the row of tier j
  module _ (j : ℕ) (low : j < length (tiers_of k (rows s))) where
    pub row_there_too : i + j < row_count s
    row_there_too = tier_there s h k j finest-is low

    pub row_low : i + j < 32
    row_low = omega (arith, row_there_too, few_rows s h)

    -- every tier of a schema has its series
    column_there : c < (row_at s (i + j)).series
    column_there =
        let t = tier-row s (good_open s h).shape_is k j low in
        let in_schema : c < series_of (tiers_of k (rows s)) = (handle_in (lent_by s []) k c (handle_at (lent_by s []) k c at).0).1 in
        rw finest-is (rw t.series-is at in_schema)

    pub sought_at : (start end : ℕ) → start < end → SoughtAt s k c j start end (i + j)
    sought_at start end q = record { there = row_there_too; few_rows = row_low; column_there = column_there; replies = λ bs. answers s bs k c start end h at j low q refl }
