-- What asking for the route gives on each way out of `collect`. Serves its proof. Assumes nothing.
use Rattle.std.specs.Prelude.{ℕ, ◌<◌, ◌≤◌, ◌≡◌, Bool, List, ◌++◌}
use Rattle.std.proofs.Common.{ap, ◌∙◌, arith, length-take}
use Rattle.std.proofs.Math.Logic.{⊎_elim}
use Rattle.std.proofs.Math.Bool.{true, false}
use borrow.Author.Tests.{lt-ltb, le-ltb, le-leb, lt-leb}
use Rattle.std.proofs.Math.ListN.{length, take, drop, replicate, length-replicate}
use Rattle.std.proofs.Math.Seq.{length-sets, take-append_seam}
use Rattle.scan.specs.Test.{known}
use Rattle.scan.specs.Store.{sets_front}
use Rattle.scan.specs.Lowest.{any}
use Rattle.graph.specs.Plan.{unreached}
use Rattle.graph.specs.Laws.Refusal.{all-reached}
use Rattle.mesh.specs.declared.Mesh.{Mesh}
use Rattle.mesh.specs.Answer.{Answer, Accepted, Refused}
use Rattle.mesh.specs.Mesh.{mesh_answer}
use Rattle.mesh.specs.WellFormed.{InRange}
use Rattle.mesh.specs.Laws.Checked.{passes}
use Rattle.nets.specs.Nets.{net_of}
use Rattle.nets.specs.Laws.Fits.{fits}
use Rattle.collection.specs.declared.Collected.{Collected}
use Rattle.collection.specs.Collection.{no_labels, route_of, needed, apart_at, collect_answer, collected, output_after}
use Rattle.collection.specs.Walked.{WalkedFrom}
use Rattle.collection.proofs.Laws.Folded.{collects, connects, connected_all, most}

-- the result r and the output `after` are what asking for the route from the root gives
abbrev pub Gives : Mesh → ℕ → List ℕ → Collected → List ℕ → Type 0
Gives m root out r after = (r ≡ collected m root (length out)) × (after ≡ output_after m root out)

-- the walk's own route before the walk
abbrev pub unwritten : List ℕ
unwritten = replicate 127 0

-- the entries that a walk wrote are the route
module _ (m : Mesh) (root : ℕ) (ok : mesh_answer m ≡ Accepted) (inside : root < m.nodes) {n : ℕ} {labels : List Bool} {route : List ℕ}
    (W : WalkedFrom m root no_labels unwritten n labels route) where
  sized : length unwritten ≡ 127
  sized = length-replicate {A = ℕ} 127 0

  few : length (route_of m root) ≤ 127
  few = omega (arith, most m ok root inside, (passes m ok).nodes_most)

  pub entries_fit : n ≤ length route
  entries_fit = rw (W.written, length-sets unwritten 0 (route_of m root)) (omega (arith, sized, W.entries, few))

  -- for which an output with the entries needed has room
  pub entries_room : {e : List ℕ} → e ≡ take n route → (out : List ℕ) → needed m ≤ length out → length e ≤ length out
  entries_room q out h = omega (arith, ap length q, length-take n route, W.entries, most m ok root inside)

  pub entries_are : take n route ≡ route_of m root
  entries_are = rw (W.written, W.entries, sets_front (route_of m root) unwritten (omega (arith, sized, few))) (take-append_seam (route_of m root) _)

module _ (m : Mesh) (root : ℕ) (out : List ℕ) where
  -- a refusal: no link, no entry, and the output as it was
  pub gives-refused : {number place : ℕ} → collect_answer m root (length out) ≡ Refused number place
      → {r : Collected} {a : Answer} → a ≡ Refused number place → r ≡ record { tree = no_labels; count = 0; answer = a } → Gives m root out r out
  unfolding collected output_after
  gives-refused e a r = (r ∙ rw (e, a), rw e)

  pub answer-mesh : {number place : ℕ} → mesh_answer m ≡ Refused number place → collect_answer m root (length out) ≡ Refused number place
  unfolding collect_answer
  answer-mesh e = rw e

  module _ (ok : mesh_answer m ≡ Accepted) where
    pub answer_root : m.nodes ≤ root → collect_answer m root (length out) ≡ Refused 6 0
    unfolding collect_answer
    answer_root l = rw (ok, le-ltb root m.nodes l)

    module _ (inside : root < m.nodes) where
      -- the walk does not meet every node, so some two have no path between them
      pub some-apart : length (route_of m root) < needed m → InRange m → any (unreached (net_of m)) m.nodes ≡ true
      some-apart h g = ⊎_elim (λ t. t) (λ f. absurd (omega (arith, entries f))) (known (any (unreached (net_of m)) m.nodes))
        where
          entries : any (unreached (net_of m)) m.nodes ≡ false → length (route_of m root) ≡ needed m
          entries f = (collects m ok root inside g (all-reached (fits m ok) f)).entries

      pub answer-apart : any (unreached (net_of m)) m.nodes ≡ true → collect_answer m root (length out) ≡ Refused 20 (apart_at m)
      unfolding collect_answer
      answer-apart e = rw (ok, lt-ltb root m.nodes inside, e)

      -- it does
      module _ (h : needed m ≤ length (route_of m root)) where
        none : any (unreached (net_of m)) m.nodes ≡ false
        none = connected_all m ok (connects m ok root inside h)

        pub answer_short : length out < needed m → collect_answer m root (length out) ≡ Refused 11 (needed m)
        unfolding collect_answer
        answer_short s = rw (ok, lt-ltb root m.nodes inside, none, lt-leb (needed m) (length out) s)

        -- the route is copied to the front of the output
        pub gives_all : needed m ≤ length out → {n : ℕ} {labels : List Bool} {route after : List ℕ} → WalkedFrom m root no_labels unwritten n labels route
            → after ≡ route_of m root ++ drop (length (route_of m root)) out → Gives m root out (record { tree = labels; count = n; answer = Accepted }) after
        unfolding collected output_after collect_answer
        gives_all s W e = (
          rw (ok, lt-ltb root m.nodes inside, none, le-leb (needed m) (length out) s, W.entries, W.labels_are),
          e ∙ rw (ok, lt-ltb root m.nodes inside, none, le-leb (needed m) (length out) s),
        )
