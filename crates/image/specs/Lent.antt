-- What a call by value is lent and leaves: an image's bytes, and the flags. Assumes nothing.
use Rattle.std.specs.Prelude.{ℕ, List}
use Rattle.model.specs.declared.Flags.{Flags}
use Rattle.model.specs.Lent.{Lent}

abbrev pub lent : List ℕ → Flags → Lent
lent image flags = record { image = image; flags = flags.wrapped }
