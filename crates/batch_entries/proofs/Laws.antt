-- A loop over a batch's entries: a test of those from entry i on is the test of all. Assumes nothing.
use Prim.Native.Nat.{ℕ, ◌+◌, ◌-◌, ◌/◌}
use native.Mathlib.Nat.{sub-zero}
use mathlib.Core.Path.{◌≡◌, sym, ◌∙◌}
use mathlib.Core.List.{List}
use lib.ListN.{length}
use Rattle.model.specs.Record.{Entry, entries_from, entries}

module _ {A : Type 0} (test : List Entry → A) (b : List ℕ) where
  pub record Testing (c i : ℕ) : Type 0 where
    pub same : test (entries_from b i (c - i)) ≡ test (entries b)

  pub begins : Testing (length b / 16) 0
  unfolding entries
  begins = record { same = rw (sub-zero _) }

  -- the entries from entry i on, tested: entry i is passed, or the test ends as x
  module _ {c i : ℕ} (r : Testing c i) where
    pub goes_on : test (entries_from b i (c - i)) ≡ test (entries_from b (i + 1) (c - (i + 1))) → Testing c (i + 1)
    goes_on e = record { same = sym e ∙ r.same }

    pub ends : {x : A} → test (entries_from b i (c - i)) ≡ x → x ≡ test (entries b)
    ends e = sym e ∙ r.same
