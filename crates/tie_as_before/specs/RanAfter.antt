-- What `tie_as_before::run_after` promises: the claims of `as_before`, of what the code answers and leaves. The function creates a store, carries out calls and runs,
-- each by its proved core; so the checker holds their contracts together. Assumes nothing.
use Rattle.std.specs.Prelude.{ℕ, ◌≡◌, refl, Bool, List, [], ◌∷◌, ◌++◌, T}
use Rattle.std.proofs.Common.{sym, ap, ◌∙◌}
use Rattle.model.specs.Image.{create_check}
use Rattle.model.specs.Lent.{Lent, creation}
use Rattle.model.specs.Store.{Call, consolidate_call, Reply, done, finished, Done, call, after, replies}
use Rattle.image_theory.specs.Calls.{after-append}
use Rattle.as_before.specs.Before as Before
use Rattle.as_before.specs.AsBefore.{in_order, no_run_refused, AsBefore, passed_over, NonePassedOver}

-- the store as created
abbrev pub made : List ℕ → List ℕ → List Bool → Lent
made plan buf flags = creation plan (record { image = buf; flags = flags })

-- the calls, then the run
abbrev pub with_run : List Call → List Call
with_run calls = calls ++ consolidate_call ∷ []

-- the run is answered, and leaves lent, what d says
pub record RanAfter (plan buf : List ℕ) (flags : List Bool) (calls : List Call) (d : Done) : Type 0 where
  -- for every list of calls: by the rules of now
  pub is-run : d ≡ call (after (made plan buf flags) calls) consolidate_call
  -- where creation accepts the plan, the list is in time order and no run refused, this one included: by the rules before, from the first call on
  pub as_before : create_check plan buf ≡ 0 → T (in_order (made plan buf flags) (with_run calls)) → T (no_run_refused Before.call (made plan buf flags) (with_run calls))
      → d ≡ Before.call (Before.after (made plan buf flags) calls) consolidate_call
  -- where creation accepts the plan and none of the calls is a refused run, in whatever order samples came: the run passed over no write
  pub none_passed : create_check plan buf ≡ 0 → T (no_run_refused call (made plan buf flags) calls)
      → (passed_over (after (made plan buf flags) calls) ≡ 0) × (d ≡ Before.call (after (made plan buf flags) calls) consolidate_call)

-- ---- a list's last reply, and what it leaves

unfoldable last_from : Reply → List Reply → Reply
last_from r [] = r
last_from r (s ∷ rs) = last_from s rs

last_now : (cs : List Call) (l : Lent) (c : Call) (r : Reply) → last_from r (replies l (cs ++ c ∷ [])) ≡ (call (after l cs) c).reply
unfolding last_from replies after
last_now [] l c r = refl
last_now (d ∷ cs) l c r = last_now cs (call l d).lent c (call l d).reply

last-before : (cs : List Call) (l : Lent) (c : Call) (r : Reply) → last_from r (Before.replies l (cs ++ c ∷ [])) ≡ (Before.call (Before.after l cs) c).reply
unfolding last_from Before.replies Before.after
last-before [] l c r = refl
last-before (d ∷ cs) l c r = last-before cs (Before.call l d).lent c (Before.call l d).reply

left_now : (cs : List Call) (l : Lent) (c : Call) → after l (cs ++ c ∷ []) ≡ (call (after l cs) c).lent
unfolding after
left_now cs l c = after-append cs l (c ∷ [])

left-before : (cs : List Call) (l : Lent) (c : Call) → Before.after l (cs ++ c ∷ []) ≡ (Before.call (Before.after l cs) c).lent
unfolding Before.after
left-before [] l c = refl
left-before (d ∷ cs) l c = left-before cs (Before.call l d).lent c

-- ---- by what the calls ensure, and the claims

pub ran-after : AsBefore → NonePassedOver → (plan buf : List ℕ) (flags : List Bool) (calls : List Call) {d : Done}
    → d ≡ call (after (made plan buf flags) calls) consolidate_call → RanAfter plan buf flags calls d
unfolding AsBefore NonePassedOver
ran-after all none plan buf flags calls {d} e = record { is-run = e; as_before = same; none_passed = passed }
  where
    l : Lent
    l = made plan buf flags

    same : create_check plan buf ≡ 0 → T (in_order l (with_run calls)) → T (no_run_refused Before.call l (with_run calls)) → d ≡ Before.call (Before.after l calls) consolidate_call
    same ok order fine =
        let a = all plan buf flags ok (with_run calls) order fine in
        let r = sym (last_now calls l consolidate_call done) ∙ ap (last_from done) a.1 ∙ last-before calls l consolidate_call done in
        let s = sym (left_now calls l consolidate_call) ∙ a.0 ∙ left-before calls l consolidate_call in
        e ∙ ap (λ (x : Reply). record { reply = x; lent = (call (after l calls) consolidate_call).lent }) r
        ∙ ap (λ (x : Lent). record { reply = (Before.call (Before.after l calls) consolidate_call).reply; lent = x }) s

    passed : create_check plan buf ≡ 0 → T (no_run_refused call l calls) → (passed_over (after l calls) ≡ 0) × (d ≡ Before.call (after l calls) consolidate_call)
    passed ok fine =
        let a = none plan buf flags ok calls fine in
        (a.0, e ∙ unfold call Before.call in (ap finished a.1))
