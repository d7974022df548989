-- `rows::Search::from_node` meets its contract.
use native.Mathlib.Omega.{arith}
use Rattle.rows.specs.Laws.Spreading.{spreading_start}
use Rattle.rows.proofs.Search.from_node.Goals as goal

pub returns : goal.returns
returns c = λ rows. spreading_start rows _ _ (omega arith) c.digit.ensures
