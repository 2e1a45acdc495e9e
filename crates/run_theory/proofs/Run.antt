-- A run of such a store is not refused and leaves every tier and mark with its numbers (`run_is`). Assumes nothing.
use Prim.Native.Nat.{ℕ, zero, suc, ◌+◌, ◌-◌, ◌*◌, ◌≤◌, ◌<◌}
use native.Mathlib.Omega.{arith}
use Rattle.std.specs.Prelude.{◌≡◌, refl, true, eqb}
use Rattle.std.proofs.Math.Path.{subst}
use Rattle.model.specs.Image.{row_count}
use Rattle.model.specs.Lent.{Lent, row}
use Rattle.model.specs.Consolidate.{pair_if, pairs, run_on, run}
use Rattle.pair_theory.specs.Fill.{used_below}
use Rattle.image_theory.specs.Good.{open_good}
use Rattle.image_theory.specs.Tiers.{schema_one}
use Rattle.sample_theory.specs.Schedule.{touched}
use Rattle.run_theory.specs.Setup.{Setup, tier_count, Tier, mark_of, Base, row_in}
use Rattle.run_theory.proofs.OnePair.{pair_step}
use Rattle.run_theory.specs.Run.{Midway, Ran, advance}

module _ {S : Setup} {f x : ℕ} (up : f ≤ suc x) (by : suc x ≤ suc (touched (S.per 0) f) * S.per 0) (end : suc x ≤ S.most) (some : 0 < used_below S.is_used S.columns) where
  -- j pairs, from pair k on
  all-pairs : (j k : ℕ) (l : Lent) (c : ℕ) → suc (k + j) ≡ tier_count S → Midway S l k f (suc x) → Ran S (pairs (record { lent = l; count = c; refusal = 0 }) k j) (suc x)
  unfolding pairs pair_if
  all-pairs zero k l c e h = record {
    fine = refl;
    settled = record { base = h.base; tiers = λ j z. h.done j (omega arith) z; marks = λ j z. h.done_marks j (omega arith) z };
  }
  all-pairs (suc j) k l c e h =
      let hk : suc k < tier_count S = omega arith in
      let p = pair_step h.base k hk up by end (h.done k (omega arith) (omega arith)) (h.due (suc k) (omega arith) hk) (h.due_marks k (omega arith) hk) some c in
      rw (one_schema, p.2) (all-pairs j (suc k) p.1 p.0 (omega arith) (advance up by end some k hk h p.3))
    where
      schema : (i : ℕ) → i < tier_count S → (row l i).schema ≡ 0
      schema i x = unfold row in (schema_one l h.base.good.shape_is h.base.one_schema i (row_in h.base i x))

      one_schema : eqb (row l k).schema (row l (suc k)).schema ≡ true
      one_schema = rw (schema k (omega arith), schema (suc k) (omega arith)) refl

  -- the run of such a store
  pub run_is : (l : Lent) → Base S l → Tier S l 0 (suc x) → ((j : ℕ) → 0 < j → j < tier_count S → Tier S l j f)
      → ((j : ℕ) → suc j < tier_count S → (row l j).mark ≡ mark_of S j f) → Ran S (run l) (suc x)
  unfolding run run_on
  run_is l b finest others marks =
      rw (open_good l.image b.good)
      (all-pairs (row_count l.image - 1) 0 l 0 (omega (arith, b.like.count-is, S.some)) (record {
        base = b;
        done = λ j u y. let z : 0 ≡ j = omega arith in subst (λ (i : ℕ). Tier S l i (suc x)) z finest;
        due = others;
        done_marks = λ j x y. absurd (omega arith);
        due_marks = λ j x y. marks j y;
      }))
