-- `RunsReadFew`, proved. Assumes nothing.
use Rattle.reopening.specs.Reopening.{left}
use Rattle.strands_proved.specs.Theorem.{midway, home_left, RunsReadFew, few_passes, home_midway, midway-row}

pub proof : RunsReadFew
unfolding RunsReadFew
proof h ok e i hi = let a = home_left h ok e in few_passes (midway (left h) i).lent (home_midway (left h) a i hi) i (midway-row (left h) a i hi)
