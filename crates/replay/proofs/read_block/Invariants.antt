use Rattle.std.proofs.Common.{◌≤◌, length}
use Rattle.replay.proofs.read_block.Given as goal

-- what was read so far lies in the block
abbrev pub invariant-loop : goal.invariant-loop
invariant-loop g l = l.filled ≤ length l.block
