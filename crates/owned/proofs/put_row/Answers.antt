-- `owned::put_row` meets its contract: the row's fields, one after another. Assumes nothing.
use Rattle.std.proofs.Common.{◌≡◌, ◌++◌, [], ◌∷◌, flat_map}
use Rattle.std.proofs.lemmas.Result.{on_ok_weaker}
use Rattle.std.specs.declared.alloc.AllocError.{AllocError}
use Rattle.model.specs.Bytes.{bytes}
use Rattle.model.specs.Image.{row_bytes}
use Rattle.owned.specs.Plan.{plan_row}
use Rattle.owned.proofs.Laid.{row_laid}
use Rattle.owned.proofs.put_row.Goals as goal

pub returns : goal.returns
returns c =
    let z = c.put_words-2.new.plan.items in
    on_ok_weaker {T = Unit {0}} {E = AllocError} {P = z ≡ c.put_halves-2.new.plan.items ++ flat_map (bytes 8) (0 ∷ 0 ∷ 0 ∷ 7 ∷ [])} {Q = z ≡ c.args.plan.now.items ++ row_bytes (plan_row c.args.i c.args.tier)} c.put_words-2.result
    (λ e. row_laid c.args.tier c.args.i c.from.result c.args.plan.now.items _ _ _ z c.from.ensures c.in_ok-put_halves.ensures c.in_ok-put_words.ensures c.in_ok-put_halves-2.ensures e)
    c.put_words-2.ensures
