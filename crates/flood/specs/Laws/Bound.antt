-- How many links are offered, and how many deliveries made, in every order: at rest the same links have been offered, and the fewer deliveries are possible
-- the longer every simple path is, since any flood can be run to rest. Assumes nothing.
use Rattle.std.specs.Prelude.{ℕ, ◌+◌, ◌*◌, ◌<◌, ◌≤◌, ◌≡◌, ◌≢◌, true, false, List, length}
use Rattle.std.proofs.Math.Path.{ap}
use Rattle.std.proofs.Common.{⊎_elim, arith}
use Rattle.std.proofs.Math.Logic.Iff
use Rattle.std.proofs.Math.Bool.{not}
use Rattle.std.proofs.Math.Dec.{ltb}
use Rattle.scan.specs.Test.{known, lt_says, not_says, says_same}
use Rattle.scan.specs.Entry.{at}
use Rattle.scan.specs.Total.{bit, count, total-same, count_mono}
use Rattle.graph.specs.Walk.{Walk}
use Rattle.flood.specs.Digraph.{Digraph, Failure, usable, Flow, Sound}
use Rattle.flood.specs.Machine.{Flood, Ran, at_rest, run, offered_links}
use Rattle.flood.specs.Path.{SimplePath}
use Rattle.flood.specs.Laws.Progress.{Progress, step_progress}
use Rattle.flood.specs.Laws.Count.{offered-usable}
use Rattle.flood.specs.Laws.Run.{next, next-accepted, run_progress, run_rests}
use Rattle.flood.specs.Laws.Route.{rest-reached, rest_route, rest_exactly}

module _ (g : Digraph) (c : Failure) where
  open g use {links, tail}
  open c use {source, target, blocked}

  -- ---- links offered at rest

  -- a link that leaves a node, not the target, to which the flood leads has been offered
  rest_offers : {n : ℕ} {f : Flood} → Progress g c n f → at_rest g f ≡ true → (i : ℕ) → i < links
      → Walk (Flow g c) source (tail i) → tail i ≢ target → blocked i ≡ false → ltb 0 (at f.states i) ≡ true
  rest_offers {f} p r i l w y b = (lt_says 0 (at f.states i)).1 ((p.inv.opened i l).1 ((rest-reached g c p r (tail i)).1 w, y, b))

  -- so a flood at rest has offered every link that any flood of that failure has
  rest_includes : {m n : ℕ} {f e : Flood} → Progress g c m f → Progress g c n e → at_rest g e ≡ true → (i : ℕ) → i < links
      → ltb 0 (at f.states i) ≡ true → ltb 0 (at e.states i) ≡ true
  rest_includes {f} {e} p q r i l t =
      let (a, y, b) = (p.inv.opened i l).0 ((lt_says 0 (at f.states i)).0 t) in
      rest_offers q r i l (p.walked (tail i) a) y b

  -- the same links in every order, and so as many
  pub rest-offered-each : {m n : ℕ} {f e : Flood} → Progress g c m f → Progress g c n e → at_rest g f ≡ true → at_rest g e ≡ true
      → (i : ℕ) → i < links → ltb 0 (at f.states i) ≡ ltb 0 (at e.states i)
  rest-offered-each p q r t i l = says_same (rest_includes p q t i l, rest_includes q p r i l) Iff.rfl

  pub rest-offered-same : {m n : ℕ} {f e : Flood} → Progress g c m f → Progress g c n e → at_rest g f ≡ true → at_rest g e ≡ true
      → offered_links g f ≡ offered_links g e
  unfolding offered_links count
  rest-offered-same p q r t = total-same _ _ links (λ i l. ap bit (rest-offered-each p q r t i l))

  -- and all that are not blocked, where each leaves a node, not the target, to which the flood leads
  pub rest-offered-all : {n : ℕ} {f : Flood} → Progress g c n f → at_rest g f ≡ true
      → ((i : ℕ) → i < links → blocked i ≡ false → (tail i ≢ target) × Walk (Flow g c) source (tail i)) → offered_links g f ≡ usable g c
  unfolding offered_links usable
  rest-offered-all {f} p r led =
      let more = count_mono (λ i. not (blocked i)) (λ i. ltb 0 (at f.states i)) links
      (λ i l t. let b = (not_says (blocked i)).0 t in let (y, w) = led i l b in rest_offers p r i l w y b) in
      omega (arith, offered-usable g c p, more)

  -- ---- deliveries, where every simple path has h links or more

  module _ (sound : Sound g c) (h : ℕ) (far : (p : List ℕ) → SimplePath g c p → h ≤ length p) where
    -- at most 2 * usable - h
    pub made_most_but : {n : ℕ} {f : Flood} → Progress g c n f → n + h ≤ 2 * usable g c
    made_most_but {n} {f} q =
        let e : Ran = run g c (2 * usable g c) f in
        let last : Progress g c (n + e.made) e.flood = run_progress g c sound (2 * usable g c) q in
        let r : at_rest g e.flood ≡ true = run_rests g c sound (2 * usable g c) q (omega arith) in
        let (p, w) = rest_route g c last r sound in
        omega (arith, rest_exactly g c last r w, offered-usable g c last, far p w.path)

    -- and after so many none is under way
    pub made-all_but_rest : {n : ℕ} {f : Flood} → Progress g c n f → n + h ≡ 2 * usable g c → at_rest g f ≡ true
    made-all_but_rest {n} {f} q e =
        ⊎_elim
        (λ r. r)
        (λ r. absurd (omega (arith, made_most_but (step_progress g c sound q (next g f) (next-accepted g f r)))))
        (known (at_rest g f))
