-- What a survey says of the walks of a mesh that passes the checks, and that planning's answer follows from it. Assumes nothing.
use Rattle.std.specs.Prelude.{ℕ, ◌<◌, ◌≤◌, ◌≡◌, ◌↔◌, Bool, true, false, not, eqb, Err}
use Rattle.std.proofs.Math.Path.{refl}
use Rattle.std.proofs.Common.{sym, ◌∙◌, ap, ⊎_elim}
use Rattle.std.proofs.Math.Logic.Iff
use mathlib.Core.List.{List}
use native.Mathlib.Omega.{arith}
use Rattle.std.proofs.Math.Decide.{dec_lt, ℕ_discrete}
use Rattle.scan.specs.Test.{branch, Says, known, clash, eq_says, denies, says_same}
use Rattle.scan.specs.Entry.{at}
use Rattle.scan.specs.Lowest.{lowest, lowest_is, lowest-same, any, any_same}
use Rattle.scan.specs.Total.{bit}
use Rattle.scan.specs.Fill.{array-filled, array-past}
use Rattle.graph.specs.Walk.{join, stay, one, replace}
use Rattle.graph.specs.Net.{Net, Fits, Arc, end, Leads, Strong, Parted, both_ways, without}
use Rattle.graph.specs.Reach.{reaches}
use Rattle.graph.specs.Plan.{unreached, parts}
use Rattle.graph.specs.Greedy.{bridge}
use Rattle.graph.specs.Laws.Arcs.{back, arc, reopen, without_free}
use Rattle.graph.specs.Laws.Reached.{reaches_iff}
use Rattle.graph.specs.Laws.Bridge.{bridge-parts}
use Rattle.graph.specs.Laws.Refusal.{unreached_says, all-reached, parts_says}
use Rattle.mesh.specs.declared.Mesh.{Mesh}
use Rattle.mesh.specs.Answer.{Answer, Accepted, Refused}
use Rattle.mesh.specs.Mesh.{mesh_answer}
use Rattle.mesh.specs.Laws.Checked.{passes}
use Rattle.nets.specs.Nets.{net_of}
use Rattle.nets.specs.Laws.Fits.{fits}
use Rattle.planner.specs.Plan.{plan_answer, planned}
use Rattle.planner.specs.Laws.Outcome.{answer_unchecked}
use Rattle.planner.specs.Laws.Meaning.{planned-answer}
use Rattle.bridges.specs.declared.Surveyed.{Surveyed}
use Rattle.bridges.specs.Survey.{part_of, parts_by, bridges_by, no_parts, no_bridges, surveyed_as, surveyed}
use Rattle.bridges.specs.Meaning.{PartOf, Bridges, apart, bridging, verdict}
use Rattle.bridges.proofs.Laws.Outcome.{surveyed-refused, surveyed-made}

bit_one : (t : Bool) → eqb (bit t) 1 ≡ t
bit_one true = refl
bit_one false = refl

-- a path can be walked back
turned : {G : Net} {u v : ℕ} → Leads G both_ways u v → Leads G both_ways v u
turned p = back (λ i d o. refl) p

-- ---- of a net

module _ {G : Net} (F : Fits G) where
  part_is : (v : ℕ) → v < G.nodes → PartOf G v (part_of G v)
  unfolding part_of
  part_is v h =
      let L = lowest_is (λ u. reaches G both_ways v u) G.nodes in
      let least : (u : ℕ) → u < G.nodes → Leads G both_ways u v → part_of G v ≤ u = λ u b p.
      elim (dec_lt u (part_of G v)) [ yes l ↦ clash ((reaches_iff F both_ways v h u).1 (turned p)) (L.before u l) | no l ↦ omega arith ] in
      let inside : part_of G v < G.nodes = omega (arith, least v h (stay refl)) in
      record { node = inside; joined = turned ((reaches_iff F both_ways v h _).0 (L.passes inside)); lowest = least }

  -- nodes of one part have the same lowest node
  part_same : (u v : ℕ) → u < G.nodes → v < G.nodes → (part_of G u ≡ part_of G v) ↔ Leads G both_ways u v
  part_same u v hu hv =
      let p = part_is u hu in
      let q = part_is v hv in (
        λ e. join (turned p.joined) (rw e q.joined),
        λ w. let a = p.lowest (part_of G v) q.node (join q.joined (turned w)) in
            let b = q.lowest (part_of G u) p.node (join p.joined w) in omega arith,
      )

  bridge_says : (k : ℕ) → k < G.links → Says (bridge G k) (Bridges G k)
  unfolding bridge
  bridge_says k h = denies (reaches_iff F (without k both_ways) (G.low k) (F.low_below k h) (G.high k))

  -- without a link whose ends stay joined every path stays
  around : (k : ℕ) → Leads G (without k both_ways) (G.low k) (G.high k) → {u v : ℕ} → Leads G both_ways u v → Leads G (without k both_ways) u v
  around k p w = replace (λ a b r. by_link r (ℕ_discrete r.link k)) w
    where
      either : (d : Bool) → Leads G (without k both_ways) (end G k d) (end G k (not d))
      either = elim [ false ↦ p | true ↦ back (λ i d o. o) p ]

      by_link : {a b : ℕ} (r : Arc G both_ways a b) → Dec (r.link ≡ k) → Leads G (without k both_ways) a b
      by_link r (no q) = one (reopen r (without_free k both_ways r.link r.way q refl))
      by_link r (yes e) = join (stay (cc r.starts)) (join (either r.way) (stay (cc r.ends)))

  -- node 0 is the lowest of all
  part_zero : (v : ℕ) → v < G.nodes → unreached G v ≡ not (eqb (part_of G v) 0)
  part_zero v h = says_same (unreached_says F v) (denies zero)
    where
      zero : Says (eqb (part_of G v) 0) (Leads G both_ways 0 v)
      zero = Iff.trans (eq_says (part_of G v) 0) (
        λ e. rw e at (part_is v h).joined,
        λ w. let least = (part_is v h).lowest 0 F.some-node w in omega arith,
      )

-- ---- of a mesh that passes the checks

module _ (m : Mesh) (ok : mesh_answer m ≡ Accepted) where
  abbrev G : Net
  G = net_of m

  abbrev s : Surveyed
  s = surveyed m

  F : Fits G
  F = fits m ok

  made : s ≡ record { parts = parts_by G; bridges = bridges_by G; answer = Accepted }
  made = surveyed-made m (sym ok) refl refl refl

  part_at : (v : ℕ) → v < m.nodes → at s.parts v ≡ part_of G v
  part_at v h = rw made (array-filled 64 (part_of G) m.nodes v h (omega (arith, (passes m ok).nodes_most)))

  bridge-at : (k : ℕ) → k < m.count → at s.bridges k ≡ bit (bridge G k)
  bridge-at k h = rw made (array-filled 256 (λ k. bit (bridge G k)) m.count k h (omega (arith, (passes m ok).count_most)))

  -- each node is given the lowest node of its part
  pub parts-told : (v : ℕ) → v < m.nodes → PartOf G v (at s.parts v)
  parts-told v h = rw (part_at v h) (part_is F v h)

  pub parts-joined : (u v : ℕ) → u < m.nodes → v < m.nodes → (at s.parts u ≡ at s.parts v) ↔ Leads G both_ways u v
  parts-joined u v hu hv = rw (part_at u hu, part_at v hv) (part_same F u v hu hv)

  -- a link is marked exactly where it is a bridge
  bridging_is : (k : ℕ) → k < m.count → bridging s k ≡ bridge G k
  bridging_is k h = rw (bridge-at k h) (bit_one (bridge G k))

  pub bridges_told : (k : ℕ) → k < m.count → (at s.bridges k ≡ 1) ↔ Bridges G k
  bridges_told k h = Iff.trans (Iff.symm (eq_says (at s.bridges k) 1)) (rw (bridging_is k h) (bridge_says F k h))

  -- where every two nodes have a path between them, exactly where its removal parts the mesh
  pub bridges_part : Strong G both_ways → (k : ℕ) → k < m.count → (at s.bridges k ≡ 1) ↔ Parted G (without k both_ways)
  bridges_part joined k h = Iff.trans (Iff.symm (eq_says (at s.bridges k) 1)) (rw (bridging_is k h, bridge-parts F k h joined) (parts_says F k))

  -- in any mesh: exactly where its removal parts some two nodes that have a path between them
  pub bridges_part_own : (k : ℕ) → k < m.count → (at s.bridges k ≡ 1)
      ↔ ((u : ℕ) × (v : ℕ) × (u < m.nodes) × (v < m.nodes) × Leads G both_ways u v × (Leads G (without k both_ways) u v → ⊥))
  bridges_part_own k h = Iff.trans (bridges_told k h) (
    λ b. (G.low k, G.high k, F.low_below k h, F.high_below k h, one (arc k false h refl), b),
    λ (u, v, hu, hv, w, n) p. n (around F k p w),
  )

  -- zeros past the last node and the last link
  pub survey_past : ((v : ℕ) → m.nodes ≤ v → at s.parts v ≡ 0) × ((k : ℕ) → m.count ≤ k → at s.bridges k ≡ 0)
  survey_past = (
    λ v h. rw made (array-past 64 (part_of G) m.nodes v h),
    λ k h. rw made (array-past 256 (λ k. bit (bridge G k)) m.count k h),
  )

  -- and is else 0
  pub bridges_else : (k : ℕ) → at s.bridges k ≤ 1
  bridges_else k = elim (dec_lt k m.count) [
    | yes h ↦ rw (bridge-at k h) (branch (λ (b : ℕ). b ≤ 1) (bridge G k) (λ _. omega arith) (λ _. omega arith))
    | no h ↦ omega (arith, survey_past.1 k (omega arith))
  ]

  -- ---- planning's answer

  apart_is : (v : ℕ) → v < m.nodes → apart s v ≡ unreached G v
  apart_is v h = rw (part_at v h) (sym (part_zero F v h))

  some-apart : any (apart s) m.nodes ≡ any (unreached G) m.nodes
  some-apart = any_same _ _ _ apart_is

  first-apart : lowest (apart s) m.nodes ≡ lowest (unreached G) m.nodes
  first-apart = lowest-same _ _ _ apart_is

  parting_is : Strong G both_ways → (k : ℕ) → k < m.count → bridging s k ≡ parts G k
  parting_is joined k h = bridging_is k h ∙ bridge-parts F k h joined

  told-answer : s.answer ≡ Accepted
  told-answer = ap (λ (r : Surveyed). r.answer) made

  accepted-verdict : plan_answer m ≡ verdict m s
  unfolding plan_answer
  accepted-verdict =
      rw (ok, told-answer, some-apart, first-apart)
      (⊎_elim
      (λ e. rw e)
      (λ e. let same = parting_is (all-reached F e) in rw (e, any_same _ _ _ same, lowest-same _ _ _ same))
      (known (any (unreached G) m.nodes)))

-- ---- of any mesh

module _ (m : Mesh) where
  -- it refuses by the mesh checks alone
  pub survey_answer_lem : (surveyed m).answer ≡ mesh_answer m
  unfolding surveyed
  survey_answer_lem = by_answer (mesh_answer m) _ _
    where
      by_answer : (a : Answer) (parts bridges : List ℕ) → (surveyed_as a parts bridges).answer ≡ a
      by_answer Accepted parts bridges = refl
      by_answer (Err r) parts bridges = refl

  -- and then gives all zeros
  pub survey_refused : {number place : ℕ} → mesh_answer m ≡ Refused number place
      → surveyed m ≡ record { parts = no_parts; bridges = no_bridges; answer = Refused number place }
  survey_refused e = surveyed-refused m (sym e) refl

  pub survey_verdict : (planned m).answer ≡ verdict m (surveyed m)
  survey_verdict = planned-answer m ∙ by_checks (mesh_answer m) refl
    where
      by_checks : (a : Answer) → mesh_answer m ≡ a → plan_answer m ≡ verdict m (surveyed m)
      by_checks Accepted e = accepted-verdict m e
      by_checks (Err r) e = answer_unchecked m e ∙ sym (rw (survey_answer_lem, e))
