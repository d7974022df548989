-- `changes::deliver` meets its contract: the delivery is made on the flood of the wavelength that is named, and the other flood stays.
use mathlib.Core.Path.{sym, ◌∙◌}
use Rattle.wavelengths.specs.declared.Wavelength.TheVariants.{First, Second}
use Rattle.wavelengths.specs.Wavelength.{pair}
use Rattle.changes.specs.Laws.Changed.{delivered}
use Rattle.changes.proofs.deliver.Goals as goal

pub returns-in-First : goal.returns-in-First
returns-in-First c =
    let a = c.args in
    let p = c.take_apart-tested.ensures in
    delivered a.mesh _ p.ends p.ranges a.directions.now a.cut (pair a.first.now a.second.now) a.link a.wavelength _ p.answer _ First
    (sym c.wavelength_of.ensures ∙ c.in-First.is) _ c.deliver_on.ensures

pub returns-in-Second : goal.returns-in-Second
returns-in-Second c =
    let a = c.args in
    let p = c.take_apart-tested.ensures in
    delivered a.mesh _ p.ends p.ranges a.directions.now a.cut (pair a.first.now a.second.now) a.link a.wavelength _ p.answer _ Second
    (sym c.wavelength_of.ensures ∙ c.in-Second.is) _ c.deliver_on-in-Second.ensures
