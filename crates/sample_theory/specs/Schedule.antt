-- The schedule of runs: a run follows a tick once all its samples are in, and each coarsest interval has one at the least. So between two runs the ticks go no
-- further than to the end of the coarsest interval after that of the last run. Here D is the coarsest interval, ρ ticks long; the first tick is tick A * ρ, e
-- ticks were reached so far, f of them at the last run. Assumes nothing.
use Rattle.std.specs.Prelude.{ℕ, zero, suc, ◌+◌, ◌*◌, ◌/◌, ◌≤◌, ◌<◌, ◌≡◌, refl, ◌≢◌, Bool, true, false, not, ◌||◌, cond, List, [], ◌∷◌, ◌++◌, map, leb, ltb, eqb}
use Rattle.std.proofs.Math.Nat.{zero-div, lt-div-mul-add}
use Rattle.std.proofs.Common.{mul-pos, mul-le-mul_right, mul-div_cancel, div-lt_iff_lt-mul, arith, sym, ap, ◌∙◌, subst, append_assoc, append-nil}
use Rattle.std.proofs.Math.Decide.{ℕ_discrete}
use Rattle.std.proofs.lemmas.Bool.{false≢true}
use Rattle.demand.specs.Demand.{Sample, Event, took, ran, samples_in, last_of, ascending, count, is_at, scheduled}
use Rattle.laws.specs.Tests.{yes_eq, no_eq, and_left, and_right, le_is, lt-is}
use Rattle.ring_theory.specs.Numbers.{div_is}
use Rattle.sample_theory.specs.Lists.{at_no_stamp, none_below, last_snoc}
use Rattle.sample_theory.specs.Batch.{AllAt}

-- how many windows of L ticks have one of e ticks, from a window's start on
unfoldable pub touched : ℕ → ℕ → ℕ
touched L zero = 0
touched L (suc x) = suc (x / L)

-- the stamp of the last of e ticks from tick a on, or 0
unfoldable pub last_stamp : ℕ → ℕ → ℕ → ℕ
last_stamp d a zero = 0
last_stamp d a (suc x) = (a + x) * d

-- a sample may stand where the last stamp is p, and q that of the tick which the last run followed
abbrev pub may_take : ℕ → ℕ → ℕ → ℕ → Bool
may_take D p q t = cond (eqb t p) (not (eqb q p)) (eqb (t / D) (p / D) || eqb (q / D) (p / D))

-- ---- events that the schedule lets pass

took_on : (D p q : ℕ) (x : Sample) (es : List Event) → scheduled D p q (took x ∷ es) ≡ true
    → (may_take D p q x.stamp ≡ true) × (scheduled D x.stamp q es ≡ true)
unfolding scheduled
took_on D p q x es h =
    let a = may_take D p q x.stamp in
    let c = scheduled D x.stamp q es in
    (and_left a c h, and_right a c h)

pub ran_on : (D p q : ℕ) (es : List Event) → scheduled D p q (ran ∷ es) ≡ true → (0 < p) × (scheduled D p p es ≡ true)
unfolding scheduled
ran_on D p q es h = (lt-is 0 p (and_left (ltb 0 p) (scheduled D p p es) h), and_right (ltb 0 p) (scheduled D p p es) h)

-- samples of one stamp
sched_more : (D t q : ℕ) (xs : List Sample) (es : List Event) → AllAt t xs → scheduled D t q (map took xs ++ es) ≡ true → scheduled D t q es ≡ true
sched_more D t q [] es at h = h
sched_more D t q (x ∷ xs) es at h = sched_more D t q xs es at.1 (rw at.0 at (took_on D t q x (map took xs ++ es) h).1)

pub sched_first : (D t p q : ℕ) (x : Sample) (xs : List Sample) (es : List Event) → AllAt t (x ∷ xs) → scheduled D p q (map took (x ∷ xs) ++ es) ≡ true
    → (may_take D p q t ≡ true) × (scheduled D t q es ≡ true)
sched_first D t p q x xs es at h =
    let k = took_on D p q x (map took xs ++ es) h in
    (subst (λ (v : ℕ). may_take D p q v ≡ true) at.0 k.0, sched_more D t q xs es at.1 (rw at.0 at k.1))

-- no sample follows a run at the same stamp
pub none_at-run : (D p c : ℕ) (es : List Event) → scheduled D p p es ≡ true → ascending p (samples_in es) ≡ true → count (is_at c p) (samples_in es) ≡ 0
unfolding samples_in ascending count
none_at-run D p c [] h a = refl
none_at-run D p c (ran ∷ es) h a = none_at-run D p c es (ran_on D p p es h).1 a
none_at-run D p c (took x ∷ es) h a = go (eqb x.stamp p) refl (rw (yes_eq p) at (took_on D p p x es h).0)
  where
    go : (b : Bool) → eqb x.stamp p ≡ b → cond b false (eqb (x.stamp / D) (p / D) || eqb (p / D) (p / D)) ≡ true
        → cond (is_at c p x) 1 0 + count (is_at c p) (samples_in es) ≡ 0
    go true e k = absurd (false≢true k)
    go false e k =
        let ne : x.stamp ≢ p = λ f. false≢true (sym e ∙ rw f (yes_eq p)) in
        let low : p ≤ x.stamp = le_is p x.stamp (and_left (leb p x.stamp) (ascending x.stamp (samples_in es)) a) in
        rw (at_no_stamp x c p ne, none_below c p x.stamp (samples_in es) (and_right (leb p x.stamp) (ascending x.stamp (samples_in es)) a) (omega arith))

-- where the last event is a run, there is a sample
pub ends-run : (D : ℕ) (es : List Event) (ys : List Sample) (q : ℕ) → scheduled D (last_of ys) q (es ++ ran ∷ []) ≡ true → 0 < last_of (ys ++ samples_in es)
unfolding samples_in
ends-run D [] ys q h = rw (append-nil ys) (ran_on D (last_of ys) q [] h).0
ends-run D (ran ∷ es) ys q h = ends-run D es ys (last_of ys) (ran_on D (last_of ys) q (es ++ ran ∷ []) h).1
ends-run D (took x ∷ es) ys q h =
    let k = (took_on D (last_of ys) q x (es ++ ran ∷ []) h).1 in
    rw (append_assoc ys (x ∷ []) (samples_in es)) at (ends-run D es (ys ++ x ∷ []) q (rw (last_snoc ys x) k))

-- ---- how far the ticks go

-- a run at tick f lies in the last coarsest interval that it touched
run-interval : (d D ρ A f : ℕ) → D ≡ ρ * d → 0 < d → 0 < ρ → 0 < A → last_stamp d (A * ρ) f / D < A + touched ρ f
unfolding last_stamp touched
run-interval d D ρ A zero dD zd zρ zA = rw (zero-div D) (omega arith)
run-interval d D ρ A (suc x) dD zd zρ zA =
    let z_d : 0 < D = rw dD (mul-pos zρ zd) in
    let a : suc (A * ρ + x) ≤ (A + suc (x / ρ)) * ρ = omega (arith, lt-div-mul-add {a = x} zρ) in
    let b : suc (A * ρ + x) * d ≤ (A + suc (x / ρ)) * ρ * d = mul-le-mul_right d a in
    (div-lt_iff_lt-mul z_d).1 (rw dD (omega arith))

-- one tick more stays within the coarsest interval after that of the last run
pub stay : (d D ρ A e f p t : ℕ) → D ≡ ρ * d → 0 < d → 0 < ρ → 0 < A → e ≤ suc (touched ρ f) * ρ → (0 < e → p + d ≡ (A * ρ + e) * d)
    → t + d ≡ (A * ρ + suc e) * d → may_take D p (last_stamp d (A * ρ) f) t ≡ true → suc e ≤ suc (touched ρ f) * ρ
stay d D ρ A e f p t dD zd zρ zA hi pe te h = go (ℕ_discrete e (suc (touched ρ f) * ρ))
  where
    z_d : 0 < D
    z_d = rw dD (mul-pos zρ zd)

    go : Dec (e ≡ suc (touched ρ f) * ρ) → suc e ≤ suc (touched ρ f) * ρ
    go (no ne) = omega arith
    go (yes eq) =
        let K = touched ρ f in
        let pos : 0 < e = rw eq (mul-pos (omega arith) zρ) in
        let pd = pe pos in
        let full : p + d ≡ suc (A + K) * D = pd ∙ rw (eq, dD) (omega arith) in
        let tt' : t ≡ suc (A + K) * D = omega (arith, pd, te, full) in
        let t_no : t / D ≡ suc (A + K) = ap (λ (v : ℕ). v / D) tt' ∙ mul-div_cancel (suc (A + K)) z_d in
        let wide : d ≤ D = rw dD (omega (arith, mul-le-mul_right d zρ)) in
        let p_no : p / D ≡ A + K = div_is (A + K) D p (omega arith) (omega arith) in
        let q_no = run-interval d D ρ A f dD zd zρ zA in
        let ne : t ≢ p = λ g. omega (arith, pd, te, zd, g) in
        absurd (false≢true (rw (no_eq t p ne, p_no, t_no, no_eq (suc (A + K)) (A + K) (λ g. omega arith), no_eq (last_stamp d (A * ρ) f / D) (A + K) (λ g. omega arith)) at h))
