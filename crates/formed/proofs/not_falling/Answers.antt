-- `not_falling` meets its contract.
use Rattle.std.proofs.lemmas.List.Sorted.{non_decreasing_from_is_sorted}
use Rattle.formed.proofs.Times.{sorted_rise}
use Rattle.formed.proofs.not_falling.Goals as goal

pub returns : goal.returns
returns c = let ts = c.args.times.now in sorted_rise ts c.is_sorted.result (non_decreasing_from_is_sorted ts c.is_sorted.result c.is_sorted.ensures.cases)
