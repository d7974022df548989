-- What the flood guarantees after a failure and any list of deliveries, in any order and on any links: those on a link that is not under way change nothing and
-- are not counted. Statements only: each cites its proof. Assumes nothing.
use Rattle.std.specs.Prelude.{ℕ, ◌+◌, ◌*◌, ◌-◌, ◌<◌, ◌≤◌, ◌≡◌, ◌≢◌, ◌⊎◌, ◌↔◌, true, false, List, length}
use Rattle.scan.specs.Entry.{at, has}
use Rattle.scan.specs.Total.{total}
use Rattle.graph.specs.Walk.{Walk}
use Rattle.flood.specs.Digraph.{Digraph, Failure, reverse, cut, loss, usable, Flow, Sound}
use Rattle.flood.specs.Machine.{Flood, fresh, weight, at_rest, accepts, begin, step, play, accepted, run, activity, offered_links, taken_links, Blank}
use Rattle.flood.specs.Topology.{route_from}
use Rattle.flood.specs.Path.{Acted, Touched, Strong, SimplePath, Route, Ever}
use Rattle.flood.specs.Laws.Tests.{accepts_says, at-rest-activity}
use Rattle.flood.specs.Laws.Frame.{play_frame}
use Rattle.flood.specs.Laws.Delivery.{step_idle}
use Rattle.flood.specs.Laws.Change.{step-acted, step_touched}
use Rattle.flood.specs.Laws.Begin as beginning
use Rattle.flood.specs.Laws.Progress.{Progress, begin_progress, after_progress}
use Rattle.flood.specs.Laws.Count as count
use Rattle.flood.specs.Laws.Run as running
use Rattle.flood.specs.Laws.Ever as ever
use Rattle.flood.specs.Laws.Route as route
use Rattle.flood.specs.Laws.RouteQuery as query
use Rattle.flood.specs.Laws.Bound as bound
use Rattle.flood.specs.Laws.EveryPath.{every_path}
use Rattle.flood.specs.Laws.Cut as failures

module _ (g : Digraph) (c : Failure) (f : Flood) where
  -- the flood after the failure and the deliveries js, from f on
  abbrev pub after : List ℕ → Flood
  after js = play g c js (begin g c f)

  -- how many of these were accepted
  abbrev pub made : List ℕ → ℕ
  made js = accepted g c js (begin g c f)

module _ (g : Digraph) (c : Failure) (sound : Sound g c) {f : Flood} (blank : Blank g f) where
  open g use {links, tail}
  open c use {source, target, blocked}

  module _ (js : List ℕ) where
    abbrev now : Flood
    now = after g c f js

    abbrev n : ℕ
    n = made g c f js

    -- ---- after any deliveries

    -- what holds throughout: the record Progress
    pub progress : Progress g c n now
    progress = after_progress g c sound blank js

    -- a delivery is accepted on just the links that are offered or refused
    pub accepted-on : (j : ℕ) → (accepts g j now ≡ true) ↔ ((j < links) × ((at now.states j ≡ 1) ⊎ (at now.states j ≡ 3)))
    accepted-on j = accepts_says g j now

    -- it takes the link from offered to taken or refused, or from refused to released
    pub acted : (j : ℕ) → accepts g j now ≡ true → Acted (at now.states j) (at (step g c j now).states j)
    acted = step-acted g c sound progress.room

    -- any other link stays, is offered, or falls back from taken to refused
    pub touched : (j : ℕ) → accepts g j now ≡ true → (i : ℕ) → i ≢ j → Touched (at now.states i) (at (step g c j now).states i)
    touched = step_touched g c sound progress.room

    -- a delivery that is not accepted changes nothing
    pub idle : (j : ℕ) → accepts g j now ≡ false → step g c j now ≡ now
    idle = step_idle g c

    -- a reached node stays reached, whatever else is delivered on
    pub stays_reached : (ks : List ℕ) (v : ℕ) → has now.reached v ≡ true → has (play g c ks now).reached v ≡ true
    stays_reached ks = (play_frame g c ks now).reached.keeps

    -- a blocked link stays quiet
    pub blocked_quiet : (i : ℕ) → i < links → blocked i ≡ true → at now.states i ≡ 0
    blocked_quiet = count.blocked_quiet g c progress

    -- the links that are not quiet are those that were ever offered
    pub ever_offered : (i : ℕ) → (0 < at now.states i) ↔ Ever g c i js (begin g c f)
    ever_offered i = ever.ever_offered g c sound js (begin_progress g c sound blank).room i (beginning.begin-at_most_1 g c blank i)

    -- ---- how many deliveries

    -- exactly: none for a quiet or offered link, 1 for a taken or refused one, 2 for a released one
    pub exact : n ≡ total (λ i. weight (at now.states i)) links
    exact = progress.spent

    -- at most two for each link that is not blocked, and after so many none is under way
    pub at_most : n ≤ 2 * usable g c
    at_most = count.made_most g c progress

    pub used_up : n ≡ 2 * usable g c → at_rest g now ≡ true
    used_up = count.made-all-rest g c progress

    -- the same with h fewer, where every simple path has h links or more
    pub at_most_but : (h : ℕ) → ((p : List ℕ) → SimplePath g c p → h ≤ length p) → n + h ≤ 2 * usable g c
    at_most_but h far = bound.made_most_but g c sound h far progress

    pub used_up_but : (h : ℕ) → ((p : List ℕ) → SimplePath g c p → h ≤ length p) → n + h ≡ 2 * usable g c → at_rest g now ≡ true
    used_up_but h far = bound.made-all_but_rest g c sound h far progress

    -- 5 below twice the links, where two are blocked, as by the loss of a node
    pub two_blocked : (i j : ℕ) → i < links → j < links → i ≢ j → blocked i ≡ true → blocked j ≡ true → n + 5 ≤ 2 * links
    two_blocked i j l m d s t = failures.two_blocked_made g c sound i j l m d s t progress

    -- a run makes no more deliveries than it may, and fewer only where it comes to rest; one that may make enough comes to rest
    pub run_ends : (m : ℕ) → let r = run g c m now in (r.made ≤ m) × ((r.made ≡ m) ⊎ (at_rest g r.flood ≡ true))
    run_ends m = running.run_ends g c m now

    pub run_rests : (m : ℕ) → 2 * usable g c ≤ n + m → at_rest g (run g c m now).flood ≡ true
    run_rests m = running.run_rests g c sound m progress

    -- ---- at rest

    -- no link is under way
    pub rest-activity : (at_rest g now ≡ true) ↔ (activity g now ≡ 0)
    rest-activity = at-rest-activity g now

    -- the nodes reached are those to which a walk leads that is not blocked and does not pass the target
    pub rest-reached : at_rest g now ≡ true → (v : ℕ) → (has now.reached v ≡ true) ↔ Walk (Flow g c) source v
    rest-reached = route.rest-reached g c progress

    -- the taken links are one simple path from the source to the target
    pub rest_route : at_rest g now ≡ true → (p : List ℕ) × Route g c (at now.states) p
    rest_route r = route.rest_route g c progress r sound

    -- in but one way; it has as many links as are taken, and the route query finds it
    pub route_only : {p q : List ℕ} → Route g c (at now.states) p → Route g c (at now.states) q → p ≡ q
    route_only = query.route_only g c now

    pub route_links : {p : List ℕ} → Route g c (at now.states) p → taken_links g now ≡ length p
    route_links = route.route_links g c now

    pub route_found : {p : List ℕ} → Route g c (at now.states) p → route_from g links source now.states ≡ p
    route_found = query.route_from_is g c now

    -- the deliveries are twice the links ever offered, less the taken ones, which are the route's
    pub rest-made : at_rest g now ≡ true → n + taken_links g now ≡ 2 * offered_links g now
    rest-made = count.rest-made g c progress

    pub rest_exactly : {p : List ℕ} → at_rest g now ≡ true → Route g c (at now.states) p → n + length p ≡ 2 * offered_links g now
    rest_exactly r = route.rest_exactly g c progress r

    -- all links that are not blocked were offered, where each leaves a node, not the target, to which the flood leads
    pub rest-offered-all : at_rest g now ≡ true → ((i : ℕ) → i < links → blocked i ≡ false → (tail i ≢ target) × Walk (Flow g c) source (tail i))
        → offered_links g now ≡ usable g c
    rest-offered-all = bound.rest-offered-all g c progress

    -- as many as in any other order
    pub rest-offered : (ks : List ℕ) → at_rest g now ≡ true → at_rest g (after g c f ks) ≡ true → offered_links g now ≡ offered_links g (after g c f ks)
    rest-offered ks = bound.rest-offered-same g c progress (after_progress g c sound blank ks)

  -- every simple path from the source to the target is the route of some order of deliveries
  pub every_route : {p : List ℕ} → SimplePath g c p → (js : List ℕ) × (at_rest g (after g c f js) ≡ true) × Route g c (at (after g c f js).states) p
  every_route path = every_path g c sound path blank

-- ---- what is assumed, and where it holds

-- a fresh flood is blank
pub fresh_blank : (g : Digraph) (l n : ℕ) → g.links ≤ l → g.nodes ≤ n → Blank g (fresh l n)
fresh_blank = beginning.fresh_blank

-- a cut of a strong digraph is sound
pub cut_sound : {g : Digraph} → Strong g → (k : ℕ) → k < g.links → Sound g (cut g k)
cut_sound = failures.cut_sound

-- turned round, as for the other wavelength, a digraph is as strong
pub reverse_strong : {g : Digraph} → Strong g → Strong (reverse g)
reverse_strong = failures.reverse_strong

-- the loss of a node blocks just the links at it
pub loss-leaves : (g : Digraph) (x n y i : ℕ) → ((loss g x n y).blocked i ≡ false) ↔ ((g.tail i ≢ n) × (g.head i ≢ n))
loss-leaves = failures.loss-leaves

-- ---- a cut of link k

module _ {g : Digraph} (strong : Strong g) {k : ℕ} (k< : k < g.links) {f : Flood} (blank : Blank g f) (js : List ℕ) where
  cut_progress : Progress g (cut g k) (made g (cut g k) f js) (after g (cut g k) f js)
  cut_progress = progress g (cut g k) (cut_sound strong k k<) blank js

  -- there are at most twice as many deliveries as other links, and after so many none is under way
  pub cut-made : made g (cut g k) f js ≤ 2 * (g.links - 1)
  cut-made = failures.cut-made k< cut_progress

  pub cut_rests : made g (cut g k) f js ≡ 2 * (g.links - 1) → at_rest g (after g (cut g k) f js) ≡ true
  cut_rests = failures.cut-made-rest k< cut_progress

  -- 3 below twice the links, and 4 where no other link leads straight from the head of k to its tail
  pub cut_three : made g (cut g k) f js + 3 ≤ 2 * g.links
  cut_three = failures.cut-made_3 k< cut_progress (cut_sound strong k k<)

  pub cut_four : ((i : ℕ) → i < g.links → i ≢ k → g.tail i ≡ g.head k → g.head i ≢ g.tail k) → made g (cut g k) f js + 4 ≤ 2 * g.links
  cut_four = failures.cut-made_4 k< cut_progress (cut_sound strong k k<)
