use Rattle.std.proofs.Common.{◌≡◌, ◌++◌, take, flat_map}
use Rattle.model.specs.Bytes.{bytes}
use Rattle.owned.proofs.put_words.Given as goal

abbrev pub invariant-loop-word : goal.invariant-loop-word
invariant-loop-word l = l.plan.items ≡ l.initial.plan.items ++ flat_map (bytes 8) (take l.word-index l.words)
