-- What each call gives, by what the functions on the pieces of the session give. Assumes nothing.
use Rattle.std.specs.Prelude.{ℕ, ◌≤◌, ◌≡◌, true, cond, [], Result, Err}
use Rattle.std.proofs.Math.Path.{refl, ap}
use Rattle.std.proofs.Common.{sym, ◌∙◌}
use Rattle.scan.specs.Entry.{at}
use Rattle.scan.specs.Test.{clash}
use Rattle.mesh.specs.declared.Reason.{Reason}
use Rattle.mesh.specs.Answer.{Answer, Accepted, Refused}
use Rattle.flood.specs.declared.Flood.{Flood}
use Rattle.flood.specs.Digraph.{Digraph, Failure, cut}
use Rattle.flood.specs.Topology.{route_from, as_route, under_way_of}
use Rattle.wavelengths.specs.declared.Floods.{Floods}
use Rattle.wavelengths.specs.declared.Wavelength.{Wavelength}
use Rattle.wavelengths.specs.Wavelength.{wavelength_of, on, pair}
use Rattle.wavelengths.specs.Merge.{Ran, turn, at_rest, step, run}
use Rattle.formed.specs.Cut.{Cut}
use Rattle.formed.specs.Cut as cuts
use Rattle.formed.specs.Formed.{cut_link}
use Rattle.refusals.specs.Refusals.{standing}
use Rattle.pieces.specs.Pieces.{chosen, giving, lost}
use Rattle.pieces.specs.Laws.Counts.{under_way_counted}
use Rattle.backup.specs.declared.Acted.{Acted}
use Rattle.changes.specs.OneFlood.{acted_on}
use Rattle.changes.specs.Changes.{AfterDelivery, AfterRun}
use Rattle.status.specs.Status.{of_link}
use Rattle.queries.specs.Queries as queries
use Rattle.queries.specs.Queries.{links_where}
use Rattle.recovery.specs.declared.Session.{Session}
use Rattle.recovery.specs.Session.{floods, session_of}
use Rattle.recovery.specs.declared.Delivered.{Delivered}
use Rattle.recovery.specs.declared.Delivery.{Delivery}
use Rattle.recovery.specs.Answers.{Report}
use Rattle.recovery.specs.Answers as outcomes
use Rattle.recovery.specs.declared.Run.{Run}
use Rattle.recovery.specs.Calls.{digraph, failure_of, failure, resting_on, with_floods, deliver_answer, run_answer, status_answer, route_answer, route_length_of}
use Rattle.recovery.specs.Calls.{change, delivery_as, after_delivery, run_as, after_run, status_as, status_of, route_of, routed_as, routed}
use Rattle.recovery.specs.Pieces.{change_to, delivered_by, routed_by}
use Rattle.recovery.specs.Laws.Forming.{record_few}
use Rattle.recovery.specs.Laws.Tested.{deliver_accepted, run-accepted, status_accepted, route_accepted}

-- ---- start, cut and mend

-- where r is the answer a
module _ {a r : Answer} (e : r ≡ a) where
  pub change_stops : (before after next : Session) {number place : ℕ} → r ≡ Refused number place → next ≡ before → change_to next r ≡ change a before after
  change_stops before after next t n = (λ i. change_to (n i) (t i)) ∙ ap (λ (x : Answer). change x before after) (sym t ∙ e)

  pub change_goes : (before after next : Session) → r ≡ Accepted → next ≡ after → change_to next r ≡ change a before after
  change_goes before after next t n = (λ i. change_to (n i) (t i)) ∙ ap (λ (x : Answer). change x before after) (sym t ∙ e)

-- the cut and the floods, each by the answer
pub change-chosen : (s : Session) (c : Cut) (f : Floods) (r : Answer)
    → change_to (session_of s.mesh s.plan (chosen r s.cut c) (chosen r (floods s) f)) r
    ≡ change r s (session_of s.mesh s.plan c f)
change-chosen s c f Accepted = refl
change-chosen s c f (Err r) = refl

-- the cut and each of the floods, by the answer
pub change-each : (s : Session) (c : Cut) (f h : Flood) (r : Answer)
    → change_to (session_of s.mesh s.plan (chosen r s.cut c) (pair (chosen r s.first f) (chosen r s.second h))) r
    ≡ change r s (session_of s.mesh s.plan c (pair f h))
change-each s c f h Accepted = refl
change-each s c f h (Err r) = refl

-- ---- under the cut that stands

stands-failure : (c : Cut) → standing c ≡ true → (g : Wavelength → Digraph) → ◌≡◌ {A = Wavelength → Failure} (λ w. cut (g w) (cut_link c)) (λ w. failure_of (g w) c)
stands-failure cuts.Nothing t g = clash t refl
stands-failure (cuts.Link k) t g = refl

module _ (s : Session) where
  -- ---- delivery on link k and the wavelength with the number n

  module _ (k n : ℕ) where
    abbrev w : Wavelength
    w = wavelength_of n

    abbrev stepped : (Wavelength → Failure) → Floods
    stepped c = step (digraph s) c (turn k w) (floods s)

    abbrev said : Answer → Floods → Result Acted Reason
    said a next = giving a (acted_on (digraph s w) k (on w next))

    by_delivery : (a : Answer) → a ≡ deliver_answer s k n
        → let next = chosen a (floods s) (stepped (lost s.mesh s.plan.directions s.cut)) in
        ◌≡◌ {A = Delivery} (record { session = with_floods s next; answer = delivered_by (said a next) }) (delivery_as a s k w (stepped (failure s)))
    by_delivery Accepted e =
        let (r, below, named, stands, moves) = deliver_accepted s k n (sym e) in
        let f = stands-failure s.cut stands (digraph s) in
        λ i. delivery_as Accepted s k w (stepped (f i))
    by_delivery (Err r) e = refl

    pub delivery_made : (got : Floods) (r : Result Acted Reason) {d : Delivered} → AfterDelivery s.mesh s.plan.directions s.cut (floods s) k n got r
        → d ≡ delivered_by r → ◌≡◌ {A = Delivery} (record { session = with_floods s got; answer = d }) (after_delivery s k n)
    unfolding after_delivery
    delivery_made got r A q =
        (λ i. record {
          session = with_floods s (A.floods i);
          answer = (q ∙ (λ j. delivered_by (A.acted j)) ∙ (λ j. delivered_by (said (deliver_answer s k n) (A.floods j)))) i;
        })
        ∙ by_delivery (deliver_answer s k n) refl

  -- ---- run

  module _ (n : ℕ) where
    abbrev ran : (Wavelength → Failure) → Ran
    ran c = run (digraph s) c n (floods s)

    abbrev reported : Answer → Ran → Floods → Report
    reported a o next = giving a (record { made = o.made; rest = at_rest (digraph s) next })

    by_run : (a : Answer) → a ≡ run_answer s
        → let o = ran (lost s.mesh s.plan.directions s.cut) in
        let next = chosen a (floods s) o.floods in
        ◌≡◌ {A = Run} (record { session = with_floods s next; report = reported a o next }) (run_as a s (ran (failure s)))
    by_run Accepted e = let f = stands-failure s.cut (run-accepted s (sym e)).1 (digraph s) in λ i. run_as Accepted s (ran (f i))
    by_run (Err r) e = refl

    pub run-made : (got : Floods) (r : Report) → AfterRun s.mesh s.plan.directions s.cut (floods s) n got r
        → ◌≡◌ {A = Run} (record { session = with_floods s got; report = r }) (after_run s n)
    unfolding after_run
    run-made got r A =
        (λ i. record {
          session = with_floods s (A.floods i);
          report = (A.outcome ∙ (λ j. reported (run_answer s) (ran (lost s.mesh s.plan.directions s.cut)) (A.floods j))) i;
        })
        ∙ by_run (run_answer s) refl

  -- ---- status of link k on the wavelength with the number n

  pub status_made : (k n : ℕ) → of_link s.mesh s.plan.directions s.cut (floods s) k n ≡ status_of s k n
  unfolding status_of
  status_made k n = go (status_answer s k n) refl
    where
      w : Wavelength
      w = wavelength_of n

      go : (a : Answer) → a ≡ status_answer s k n
          → giving a (record { state = at (on w (floods s)).states k; under_way = under_way_of s.mesh.count (on w (floods s)).states; route = route_length_of s w })
          ≡ status_as a s k w
      go Accepted e =
          let few : s.mesh.count ≤ 256 = record_few s (status_accepted s k n (sym e)).0 in
          λ i. outcomes.Link (at (on w (floods s)).states k) (under_way_counted (digraph s w) (on w (floods s)) few i) (route_length_of s w)
      go (Err r) e = refl

  -- ---- the route query on the wavelength with the number n

  pub route_made : (n : ℕ) → routed_by (queries.route_of s.mesh s.plan.directions s.cut (floods s) n) ≡ routed s n
  unfolding routed route_of
  route_made n = go (route_answer s n) refl
    where
      w : Wavelength
      w = wavelength_of n

      go : (a : Answer) → a ≡ route_answer s n
          → routed_by (giving a (as_route (links_where s.mesh s.plan.directions s.cut (floods s) w (resting_on s w))))
          ≡ routed_as a (route_of s w)
      go Accepted e =
          let f = stands-failure s.cut (route_accepted s n (sym e)).2 (digraph s) in
          λ i. routed_as Accepted (cond (resting_on s w) (route_from (digraph s w) s.mesh.count (f i w).source (on w (floods s)).states) [])
      go (Err r) e = refl
