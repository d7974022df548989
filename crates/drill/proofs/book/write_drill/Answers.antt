-- `drill::book::write_drill` meets its contract.
use Rattle.drill.specs.Laws.Written.{writes_by, within}
use Rattle.drill.proofs.book.write_drill.Goals as goal

pub returns-in_default-clause-book : goal.returns-in_default-clause-book
returns-in_default-clause-book c =
    let e = c.encode-encoded.ensures in writes_by _ _ _ _ _ _ _ _ c.read.ensures c.middles-m.ensures c.drill.ensures e.answer e.output c.in_default.is

pub returns-clause-book : goal.returns-clause-book
returns-clause-book c =
    let e = c.encode-encoded.ensures in writes_by _ _ _ _ _ _ _ _ c.read.ensures c.middles-m.ensures c.drill.ensures e.answer e.output c.in-Ok.is

pub returns-clause-within : goal.returns-clause-within
returns-clause-within c = let e = c.encode-encoded.ensures in within _ _ _ _ e.answer e.output c.in-Ok.is
