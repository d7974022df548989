-- Which links the route length is over, by the numbers of links that are under way. Definitions only.
use Rattle.std.specs.Prelude.{ℕ, cond, ◌&&◌, eqb}
use Rattle.formed.specs.Cut.{Cut}
use Rattle.formed.specs.Cut as cuts

-- how many: all where a cut stands and no link is under way on either wavelength, else none
abbrev pub links_by : ℕ → Cut → ℕ → ℕ → ℕ
links_by links (cuts.Link k) first second = cond (eqb first 0 && eqb second 0) links 0
links_by links cuts.Nothing first second = 0
