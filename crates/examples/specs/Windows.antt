-- What the functions make of a window's values, beyond the rows of More: signs, zeros, order, rounding, NaN patterns. By computation. Assumes nothing.
use Rattle.std.specs.Prelude.{ℕ, refl, List, [], ◌∷◌}
use Rattle.model.specs.declared.ConsolidationFn.TheVariants.{Average, Min, Max, Sum, Count}
use Rattle.model.specs.Cases.{Cases-defs, num, window, value, empty, nothingFinite, Case, ◌gives◌, Holds}

unfoldable pub minus_one : ℕ
minus_one = 0xbff0_0000_0000_0000

unfoldable pub minus_two : ℕ
minus_two = 0xc000_0000_0000_0000

unfoldable pub minus_zero : ℕ
minus_zero = 0x8000_0000_0000_0000

-- 2^53 and -2^53: between 2^53 and 2^54 the floats are 2 apart
unfoldable pub huge : ℕ
huge = 0x4340_0000_0000_0000

unfoldable pub minus_huge : ℕ
minus_huge = 0xc340_0000_0000_0000

unfoldable pub rows : List Case
rows =
    -- Max of values below zero, and Min of values above
    (window Max (minus_two ∷ minus_one ∷ minus_huge ∷ []) gives value minus_one)
    ∷ (window Min (num 4 ∷ num 2 ∷ num 3 ∷ []) gives value (num 2))
    -- the sign counts, not the size alone
    ∷ (window Min (num 1 ∷ minus_two ∷ minus_one ∷ []) gives value minus_two)
    ∷ (window Max (minus_two ∷ num 1 ∷ []) gives value (num 1))
    -- the average of -0.0 alone is -0.0
    ∷ (window Average (minus_zero ∷ []) gives value minus_zero)
    -- sums go left to right: 1 is lost beside 2^53
    ∷ (window Sum (num 1 ∷ huge ∷ minus_huge ∷ []) gives value 0)
    ∷ (window Average (num 1 ∷ huge ∷ minus_huge ∷ []) gives value 0)
    -- the average is divided once, at the end: half of the least number would be 0
    ∷ (window Average (1 ∷ 1 ∷ []) gives value 1)
    -- minus infinity is dropped, too
    ∷ (window Sum (0xfff0_0000_0000_0000 ∷ num 1 ∷ []) gives value (num 1))
    ∷ (window Min (0xfff0_0000_0000_0000 ∷ []) gives nothingFinite)
    -- a NaN of any pattern is no value
    ∷ (window Count (0x7ff8_0000_0000_1234 ∷ 0xfff8_0000_0000_0000 ∷ 0x7ff0_0000_0000_0001 ∷ []) gives empty)
    ∷ []

pub every-row : Holds rows
unfolding Cases-defs minus_one minus_two minus_zero huge minus_huge rows
every-row = (refl, (refl, (refl, (refl, (refl, (refl, (refl, (refl, (refl, (refl, (refl, tt)))))))))))
