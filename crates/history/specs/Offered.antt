-- Which links were ever offered since the cut that stands (02, request 6), as the rules make them of a list of calls: a link that is offered right after the cut,
-- or after a delivery, also one within a run, is counted from then on, whatever becomes of it. Read beside `Rules`. Definitions only.
use Rattle.std.specs.Prelude.{ℕ, Bool, false, ◌||◌, List, [], ◌∷◌, eqb}
use Rattle.flood.specs.Digraph.{Digraph}
use Rattle.wavelengths.specs.declared.Wavelength.{Wavelength}
use Rattle.wavelengths.specs.Wavelength.{wavelength_of}
use Rattle.wavelengths.specs.Merge.{Turn, turn}
use Rattle.formed.specs.Cut.{Cut}
use Rattle.formed.specs.Cut as cuts
use Rattle.history.specs.History.{Call, cut, deliver, run, mend, status}
use Rattle.history.specs.Rules.{Now, cut_both, turn_rule, run_turns, refusal, changed_by, rule_next}

-- on each wavelength the links that were ever offered
abbrev pub Offered : Type 0
Offered = Wavelength → ℕ → Bool

abbrev pub none_offered : Offered
none_offered w i = false

-- those of o, and those that are offered where the rules stand at n
abbrev pub and_at : Now → Offered → Offered
and_at n o w i = o w i || eqb ((n.on w).state i) 1

module _ (g : Digraph) where
  -- after each of the deliveries ts from n on, while the cut of link k stands
  unfoldable pub offered_along : ℕ → List Turn → Now → Offered → Offered
  offered_along k [] n o = o
  offered_along k (t ∷ ts) n o =
      let later : Now = turn_rule g k t n in
      offered_along k ts later (and_at later o)

  -- an accepted call: with a cut it begins anew, and after a mend there is none; with no cut a delivery or a run is not accepted
  abbrev pub offered_by : Call → Cut → Now → Offered → Offered
  offered_by (cut f j) c n o = and_at (cut_both g j n) none_offered
  offered_by (deliver f j u) (cuts.Link k) n o = offered_along k (turn j (wavelength_of u) ∷ []) n o
  offered_by (deliver f j u) cuts.Nothing n o = o
  offered_by (run allowed) (cuts.Link k) n o = offered_along k (run_turns g k allowed n) n o
  offered_by (run allowed) cuts.Nothing n o = o
  offered_by (mend f j) c n o = none_offered
  offered_by (status j u) c n o = o

  -- a refused call changes nothing
  unfoldable pub offered_next : Call → Now → Offered → Offered
  offered_next c n o = changed_by g (refusal g c n) o (offered_by c n.cut n o)

  -- over the list of calls, from where the rules stand at n
  unfoldable pub offered : List Call → Now → Offered → Offered
  offered [] n o = o
  offered (c ∷ cs) n o = offered cs (rule_next g c n) (offered_next c n o)
