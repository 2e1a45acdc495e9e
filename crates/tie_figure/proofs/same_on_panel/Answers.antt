-- `tie_figure::same_on_panel` meets its contract, by what both questions ensure and the theorem. Assumes nothing.
use Rattle.tie_figure.specs.Same.{agreed}
use Rattle.tie_figure.proofs.same_on_panel.Goals as goal

pub ask-first-requires : goal.ask-first-requires
ask-first-requires c = tt

pub ask-second-requires : goal.ask-second-requires
ask-second-requires c = tt

pub returns : goal.returns
returns c =
    let a = c.args in
    agreed a.image.now a.asked a.other.now a.also c.ask-first.result c.ask-second.result c.ask-first.ensures c.ask-second.ensures
