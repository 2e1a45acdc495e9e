-- The word of the source's contract: the reading of a source slab. Assumes nothing.
use Rattle.std.specs.Prelude.{ℕ, Bool, List}
use Rattle.model.specs.declared.ConsolidationFn.{ConsolidationFn}
use Rattle.model.specs.Ring.{newest}
use Rattle.model.specs.Consolidate.{start_of, end_after}
use Rattle.ring.specs.Parts.{ring_of}
use Rattle.window.specs.declared.Reading.{Reading}

-- of the slab s with n slots and m series, for windows of this length
unfoldable pub reading_of : List ℕ → ℕ → ℕ → Bool → (mark : ℕ) → ConsolidationFn → (long : ℕ) → Reading
reading_of s n m w mark f long = record {
  slots = n;
  series = m;
  wrapped = w;
  function = f;
  long = long;
  start = start_of mark long (ring_of s w);
  end = end_after (newest (ring_of s w));
}
