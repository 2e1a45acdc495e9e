-- A part of a slice by `get` and `first_chunk`. Assumes nothing.
use Rattle.std.proofs.Common.{arith, ℕ, ◌+◌, ◌-◌, ◌≤◌, ◌≡◌, ap, ◌∙◌, List, length, take, drop, length-drop}
use Rattle.std.proofs.lemmas.List.{take_all}
use Rattle.std.specs.List.{slice_range}
use Rattle.std.specs.Array.{IsFirstChunk}
use Rattle.model.specs.Bytes.{part}
use Rattle.laws.specs.Bytes.{length_part}

-- the first n bytes of the rest of s from an offset on
pub first_of_rest : (n at : ℕ) (s rest b : List ℕ) → rest ≡ slice_range s at (length s) → length rest + at ≡ length s → IsFirstChunk rest b n → (at + n ≤ length s) × (b ≡ part s at n) × (length b ≡ n)
unfolding part
first_of_rest n at s rest b is long first =
    let room : at + n ≤ length s = omega (arith, first.enough) in
    let whole : rest ≡ drop at s = is ∙ take_all (length s - at) (drop at s) (omega (arith, length-drop at s)) in
    let same : b ≡ part s at n = first.same ∙ ap (take n) whole in
    (room, same, ap length same ∙ length_part s at n room)
