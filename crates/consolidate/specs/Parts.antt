-- The words of consolidation's contracts: a run that has done nothing yet, and the one outcome of a call. Assumes nothing.
use Rattle.std.specs.Prelude.{ℕ, List, Result}
use Rattle.model.specs.declared.Called.{Called}
use Rattle.model.specs.declared.Flags.{Flags}
use Rattle.model.specs.declared.Refusal.{Refusal}
use Rattle.model.specs.Consolidate.{Run}
use Rattle.model.specs.Store.{Done, consolidated_reply}
use Rattle.lookup.specs.Parts.{lent_of}

abbrev pub fresh : List ℕ → Flags → Run
fresh s flags = record { lent = lent_of s flags; count = 0; refusal = 0 }

-- answer, every byte, every flag
abbrev pub run_done : List ℕ → Called (Result ℕ Refusal) Flags → Done
run_done s r = record { reply = consolidated_reply r.answer; lent = lent_of s r.flags }
