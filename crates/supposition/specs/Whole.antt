-- The clauses that Needed breaks one by one are, with the first stamp above 0, the whole of the supposition. Assumes nothing.
use Rattle.std.specs.Prelude.{◌%◌, ◌≡◌, refl, Bool, true, false, ◌&&◌, ltb, eqb}
use Rattle.demand.specs.Demand.{Sample, samples_in, first_of, ascending, all, is_offset, gapless, ticks, scheduled, supposed, Situation, finest, coarsest, history}
use Rattle.sample_theory.specs.Lists.{all_three}
use Rattle.supposition.specs.Needed.{clauses, conj}

pub supposed-is : (s : Situation) → supposed (finest s) (coarsest s) (history s) ≡ ltb 0 (first_of (samples_in (history s))) && conj (clauses s)
unfolding supposed clauses conj
supposed-is s =
    let xs = samples_in (history s) in
    let d = finest s in
    let f : Sample → Bool = λ x. is_offset x.value in
    let g : Sample → Bool = λ x. eqb (x.stamp % d) 0 in
    let h : Sample → Bool = λ x. gapless x.column d (first_of xs) (ticks d xs) xs in
    rw (all_three f g h xs)
    (nest (ltb 0 (first_of xs)) (eqb (first_of xs % coarsest s) 0) (ascending 0 xs) (all f xs) (all g xs) (all h xs) (scheduled (coarsest s) 0 0 (history s)))
  where
    nest : (a b c x y z e : Bool) → a && b && c && (x && y && z) && e ≡ a && (b && (c && (x && (y && (z && (e && true))))))
    nest false b c x y z e = refl
    nest true false c x y z e = refl
    nest true true false x y z e = refl
    nest true true true false y z e = refl
    nest true true true true false z e = refl
    nest true true true true true false e = refl
    nest true true true true true true true = refl
    nest true true true true true true false = refl
