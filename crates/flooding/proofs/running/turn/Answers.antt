-- `flooding::running::turn` meets its contract: the search starts where the delivery says.
use Rattle.flooding.specs.Laws.Turns.{turned}
use Rattle.flooding.proofs.running.turn.Goals as goal

pub returns : goal.returns
returns c = λ n. turned (c.step-from.ensures n) c.lowest_busy.ensures
