-- What a reader's next call hands out and where the reader stands then, by the model's step; the reader as the model has it. Assumes nothing.
use Rattle.model.specs.declared.Stepped.{Stepped}
use Rattle.model.specs.Read as Read
use Rattle.store_reads.specs.declared.Reader.{Reader}

-- the model's reader: the slab's bytes beside its place
abbrev pub reader_of : Reader → Read.Reader
reader_of r = record { slab = r.slab.now; column = r.column; start = r.start; end = r.end; place = record { slot = r.slot; left = r.left } }

-- what the next call finds
abbrev pub step_of : Reader → Stepped
step_of r = Read.step r.slab.now r.column r.start r.end (record { slot = r.slot; left = r.left })

-- the reader after its next call
abbrev pub later : Reader → Reader
later r = record { slab = r.slab; column = r.column; start = r.start; end = r.end; slot = (step_of r).place.slot; left = (step_of r).place.left }
