pub mod RanAfter
