-- `rows::checked_row` meets its contract: the row is handed on, or refused by 1, as the one test says. Assumes nothing.
use mathlib.Core.Path.{sym, ap, ◌∙◌}
use Rattle.model.specs.Image.{row_shape}
use Rattle.rows.specs.First.{unless-on, unless_stop}
use borrow.Author.Rules.{rules}
use Rattle.rows.proofs.Table.checked_row.Goals as goal

pub returns-then-good : goal.returns-then-good
returns-then-good c = record { number = sym (unless-on 1 (sym (c.row_shaped-good.ensures ∙ ap (row_shape c.args.schemas) c.row-r.ensures) ∙ c.if-good.true)); row = c.row-r.ensures }

pub returns : goal.returns
returns c = record { number = sym (unless_stop 1 (sym (c.row_shaped-good.ensures ∙ ap (row_shape c.args.schemas) c.row-r.ensures) ∙ c.if-good.false)); row = search rules }
