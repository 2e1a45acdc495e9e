-- `owned::half` meets its contract: the library's number of those bytes is the field. Assumes nothing.
use Rattle.std.proofs.Common.{ap, ◌∙◌}
use Rattle.model.specs.Bytes.{le, get}
use Rattle.field.proofs.Laws.{from_4}
use Rattle.owned.proofs.Parts.{first_of_rest}
use Rattle.owned.proofs.half.Goals as goal

pub returns : goal.returns
unfolding get
returns c =
    let rest = c.in_ok-get.ensures.lookup.0 in
    let is = first_of_rest 4 c.args.at _ _ _ rest.2 rest.3 c.in_ok-half.ensures.cases in
    (is.0, c.from_le_bytes.ensures ∙ from_4 _ is.2 ∙ ap le is.1)
