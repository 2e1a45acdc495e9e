-- `flag_bits::number_of` meets its contract. The number so far is that of the flags gone round. Assumes nothing.
use Rattle.std.proofs.Common.{rules, arith, ◌≡◌, ◌<◌, ◌^◌, refl, sym, ◌∙◌, ap, Bool, length, List, [], ◌∷◌, ◌++◌, length-append, append-nil, append_assoc}
use Rattle.flag_bits.specs.Bits.{number, number_fits, bits_of_number}
use Rattle.flag_bits.proofs.number_of.Goals as goal

-- another bit has room
room : (c : goal.After-bit_of) → number c.loop-flag.invariant.gone < 2 ^ 31
room c =
    let r = c.loop-flag.invariant in
    let long : length c.args.flags.wrapped ≡ 32 = search rules in
    let more = ap length c.in-Some.ensures.steps in
    number_fits r.gone 31 (omega (arith, ap length r.all, length-append c.loop-flag.flag-iterator.iter.rest.now r.gone, long, more, length-append c.next.new.self.iter.rest.now (c.in-Some.flag.now ∷ [])))

none_left : (left gone : List Bool) {all : List Bool} → length left ≡ 0 → left ++ gone ≡ all → gone ≡ all
none_left [] gone h e = e
none_left (b ∷ left) gone h e = absurd (omega arith)

pub loop-flag-init : goal.loop-flag-init
unfolding number
loop-flag-init c = record { gone = []; all = append-nil _ ∙ search rules; is = refl }

pub overflow_mul-x : goal.overflow_mul-x
overflow_mul-x c = omega (arith, room c, c.loop-flag.invariant.is)

pub overflow_add-x : goal.overflow_add-x
overflow_add-x c = omega (arith, room c, c.loop-flag.invariant.is, c.bit_of.ensures)

pub loop-flag-preserved : goal.loop-flag-preserved
unfolding number
loop-flag-preserved c =
    let l = c.loop-flag in
    let r = l.invariant in
    let turn = append_assoc c.next.new.self.iter.rest.now (c.in-Some.flag.now ∷ []) r.gone in
    record { gone = c.in-Some.flag.now ∷ r.gone; all = sym turn ∙ ap (λ (w : List Bool). w ++ r.gone) (sym c.in-Some.ensures.steps) ∙ r.all; is = omega (arith, c.bit_of.ensures, r.is) }

pub returns : goal.returns
returns c =
    let r = c.loop-flag.invariant in
    let all : r.gone ≡ c.args.flags.wrapped = none_left _ r.gone c.in-None.ensures.steps.0 r.all in
    let is : c.loop-flag.x ≡ number c.args.flags.wrapped = r.is ∙ ap number all in
    (is, bits_of_number _ 32 c.loop-flag.x (search rules) is)
