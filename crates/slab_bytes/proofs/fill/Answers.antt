-- `slab::fill` meets its contract: a filled part put back is a splice. Assumes nothing.
use Rattle.std.proofs.Common.{arith, ℕ, ◌≡◌, ◌-◌, ◌∙◌, ap, length, replicate, take, drop}
use Rattle.model.specs.Bytes.{part, splice}
use Rattle.laws.specs.Bytes.{length_part, lent-splice}
use Rattle.slab_bytes.proofs.fill.Goals as goal

pub returns : goal.returns
unfolding part
returns c =
    let a = c.args in
    let s = a.s.now in
    let k = a.end - a.from in
    let long : length (take k (drop a.from s)) ≡ k = length_part s a.from k (omega arith) in
    let filled : c.fill.new.self ≡ replicate k a.b = c.fill.ensures.after (λ y e. e) ∙ ap (λ (n : ℕ). replicate n a.b) long in
    lent-splice s a.from k c.fill.new.self (omega arith) (c.fill.ensures.len ∙ long) ∙ ap (splice s a.from) filled
