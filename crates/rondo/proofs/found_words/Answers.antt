-- `rondo::found_words` meets its contract: each number by its own function. Assumes nothing.
use Rattle.rondo.proofs.Laws.{words_of, end_unwrapped, flag_cast}
use mathlib.Core.Path.{◌∙◌}
use borrow.Author.Rules.{rules}
use Rattle.rondo.proofs.found_words.Goals as goal

pub returns : goal.returns
returns c =
    let o = c.args.f.oldest in
    let n = c.args.f.newest in
    words_of c.args.f _ _ _ (c.unwrap_or.ensures ∙ end_unwrapped o) (c.unwrap_or-2.ensures ∙ end_unwrapped n) (flag_cast c.args.f.incomplete)
