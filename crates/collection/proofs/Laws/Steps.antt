-- What each call of the walk asks and gives, in plain variables. Serves the proofs of `visit` and `follow`. Assumes nothing.
use Rattle.std.specs.Prelude.{ℕ, zero, suc, ◌+◌, ◌-◌, ◌*◌, ◌/◌, ◌≤◌, ◌<◌, ◌≡◌, Bool, false, List, ◌∷◌, set}
use Rattle.std.proofs.Math.Path.{refl, sym, ap}
use Rattle.std.proofs.Common.{◌∙◌, subst, add-zero, add-one, length-append}
use Rattle.std.proofs.Math.Bool.{true}
use native.Mathlib.Omega.{arith}
use Rattle.std.proofs.Math.Decide.{dec_lt}
use Rattle.std.proofs.lemmas.Bool.{not-true}
use Rattle.std.proofs.Math.ListN.{length, length-set}
use Rattle.std.proofs.lemmas.List.Edits.{sets}
use Rattle.std.proofs.Math.Seq.{length-sets}
use Rattle.scan.specs.Entry.{at, has}
use Rattle.scan.specs.Test.{clash, failing}
use Rattle.scan.specs.Store.{sets_append}
use Rattle.graph.specs.Net.{Net, Fits}
use Rattle.depth_first.specs.Tree.{Tree, branch, marked, visited, labelled, tour}
use Rattle.depth_first.specs.Search.{opens, unvisited, visiting, following, visit, follow}
use Rattle.depth_first.proofs.Laws.Unfold.{visited_extends, wide_set, unvisited_new, visiting_new, visiting-le, opens_says, visit_is, follow-end, follow_pass, follow-take}
use Rattle.depth_first.proofs.Laws.Follows.{visits_is, tour-length}
use Rattle.collection.specs.Arcs.{net_of_arcs, Leaves, Heads}
use Rattle.collection.specs.Walked.{CanVisit, CanFollow, Leading, NoneLeads, Walked, Visited, Followed}
use Rattle.collection.proofs.Laws.Chain.{head_below, leaves-far, leaves-opens, heads_after}

-- ---- links that are passed over

module _ (G : Net) (F : Fits G) (u : ℕ) (s : List Bool) (sized : G.nodes ≤ length s) where
  -- those from k on and before b lead to no new node
  skip : (d k b : ℕ) → k + d ≡ b → ((j : ℕ) → k ≤ j → j < b → j < G.links → opens G s u j ≡ false) → follow G k u s ≡ follow G b u s
  skip zero k b e h = ap (λ (n : ℕ). follow G n u s) (omega arith)
  skip (suc d) k b e h = elim (dec_lt k G.links) [
    | yes l ↦ follow_pass G F u s sized k l (h k (omega arith) (omega arith) l) ∙ skip d (k + 1) b (omega arith) (λ j p. h j (omega arith))
    | no l ↦ follow-end G F u s sized k (omega arith) ∙ sym (follow-end G F u s sized b (omega arith))
  ]

  -- those before the first arc of u are not at u
  to_head : {k a : ℕ} → Heads G u k a → follow G k u s ≡ follow G (a / 2) u s
  to_head {k} {a} H =
      skip (a / 2 - k) k (a / 2) (let f = H.from in omega arith) (λ j p q r. failing (opens_says G s u j) (λ (t, _). clash t (H.others j p q r)))

-- ---- stores

-- the walk to v and below it, back to u, and on
compose : (below rest : Tree) (k v u : ℕ) {place back r : ℕ} {seen labels s₁ t₀ t₁ seen' labels' : List Bool} {route o₁ route' : List ℕ} → t₀ ≡ set labels k true
    → Walked below (v ∷ tour v below) place (set seen v true) t₀ route back s₁ t₁ o₁
    → Walked rest (tour u rest) (back + 1) s₁ t₁ (set o₁ back u) r seen' labels' route'
    → Walked (branch k v below rest) (tour u (branch k v below rest)) place seen labels route r seen' labels' route'
unfolding marked tour
compose below rest k v u {place} {back} {route} {o₁} label A X = record {
  next = omega (arith, X.next, A.next, length-append (tour v below) (u ∷ tour u rest));
  seen_is = X.seen_is ∙ ap (visited rest) A.seen_is;
  labels_are = X.labels_are ∙ ap (labelled rest) (A.labels_are ∙ ap (labelled below) label);
  written =
      X.written
      ∙ ap (λ (m : ℕ). sets (set o₁ back u) m (tour u rest)) (add-one back)
      ∙ ap (λ (m : ℕ). sets o₁ m (u ∷ tour u rest)) A.next
      ∙ ap (λ (o : List ℕ). sets o (place + length (v ∷ tour v below)) (u ∷ tour u rest)) A.written
      ∙ sym (sets_append route place (v ∷ tour v below) (u ∷ tour u rest));
}

module _ (next to : List ℕ) (links : ℕ) where
  abbrev G : Net
  G = net_of_arcs 64 links to

  -- ---- a visit
  module _ {u place : ℕ} {seen : List Bool} {route : List ℕ} (C : CanVisit G next u place seen route) where
    flags : 64 ≤ length seen
    flags = omega (arith, C.flags)

    fewer : unvisited G seen ≡ suc (unvisited G (set seen u true))
    fewer = unvisited_new G seen u flags C.inside C.new

    head : Heads G u 0 (at next (512 + u))
    head = C.can.chains.heads u C.inside

    pub visit_room : place < 127
    visit_room = omega (arith, fewer, C.room)

    pub visit_can_follow : CanFollow G next u (at next (512 + u)) (place + 1) (set seen u true) (set route place u)
    visit_can_follow = record {
      can = C.can;
      leaves = head.leaves;
      flags = length-set seen u true ∙ C.flags;
      entries = length-set route place u ∙ C.entries;
      room = omega (arith, fewer, C.room);
    }

    pub visit_falls : following G (set seen u true) (at next (512 + u) / 2) < visiting G seen
    unfolding following
    visit_falls = omega (arith, visiting_new G seen u flags C.inside C.new)

    pub visit_walked : {labels : List Bool} {r : ℕ} {seen' labels' : List Bool} {route' : List ℕ}
        → Followed G u (at next (512 + u)) (place + 1) (set seen u true) labels (set route place u) r seen' labels' route'
        → Visited G u place seen labels route r seen' labels' route'
    visit_walked {labels} {r} {seen'} {labels'} {route'} W =
        subst (λ (T : Tree). Walked T (u ∷ tour u T) place (set seen u true) labels route r seen' labels' route')
        (sym (visit_is G C.can.fits u seen flags C.inside C.new ∙ to_head G C.can.fits u (set seen u true) (wide_set seen u flags) head))
        (record {
          next = omega (arith, W.next);
          seen_is = W.seen_is;
          labels_are = W.labels_are;
          written = W.written ∙ ap (λ (m : ℕ). sets (set route place u) m (tour u (follow G (at next (512 + u) / 2) u (set seen u true)))) (add-one place);
        })

  -- ---- links from that of an arc on
  module _ {u arc place : ℕ} {seen : List Bool} {route : List ℕ} (C : CanFollow G next u arc place seen route) where
    abbrev F : Fits G
    F = C.can.fits

    all_flags : 64 ≤ length seen
    all_flags = omega (arith, C.flags)

    -- none leads to a new node
    pub follow_done : NoneLeads G seen arc → {labels : List Bool} → Followed G u arc place seen labels route place seen labels route
    unfolding marked tour
    follow_done N =
        rw (skip G F u seen all_flags links (arc / 2) (arc / 2 + links) refl (λ j b _ l. N u C.leaves j b l) ∙ follow-end G F u seen all_flags (arc / 2 + links) (omega arith))
        (record { next = sym (add-zero place); seen_is = refl; labels_are = refl; written = refl })

    -- a is the first that does
    module _ {a : ℕ} (N : Leading G seen arc a) where
      abbrev h : a / 2 < links
      h = N.below

      to_next : follow G (arc / 2) u seen ≡ follow G (a / 2) u seen
      to_next = skip G F u seen all_flags (a / 2 - arc / 2) (arc / 2) (a / 2) (let f = N.passed.from in omega arith) (N.passed.no_new u C.leaves)

      leaves : Leaves G u a
      leaves = N.passed.leaves u C.leaves

      opened : opens G seen u (a / 2) ≡ true
      opened = N.leads u C.leaves

      inside : at to a < 64
      inside = head_below 64 links to F a h

      new : has seen (at to a) ≡ false
      new = not-true _ (sym (leaves-opens 64 links to seen leaves h) ∙ opened)

      pub take_arc : a < 512
      take_arc = omega (arith, C.can.few)

      pub take_can_visit : CanVisit G next (at to a) place seen route
      take_can_visit = record { can = C.can; inside = inside; new = new; flags = C.flags; entries = C.entries; room = omega (arith, C.room) }

      pub take_falls : visiting G seen < following G seen (arc / 2)
      unfolding following
      take_falls = let f = N.passed.from in omega arith

      -- the new node has been visited
      module _ {t₀ : List Bool} {back : ℕ} {s₁ t₁ : List Bool} {o₁ : List ℕ} (A : Visited G (at to a) place seen t₀ route back s₁ t₁ o₁) where
        below : Tree
        below = visit G (at to a) seen

        marked_flags : 64 ≤ length (set seen (at to a) true)
        marked_flags = wide_set seen (at to a) all_flags

        flags_after : length s₁ ≡ 64
        unfolding below
        flags_after = ap length A.seen_is ∙ (visited_extends below (set seen (at to a) true)).sized ∙ length-set seen (at to a) true ∙ C.flags

        used : back + 2 * unvisited G s₁ + 1 ≡ place + 2 * unvisited G seen
        unfolding below
        used =
            let e = tour-length G marked_flags (visits_is G F (at to a) seen all_flags inside new) in
            let b : unvisited G s₁ ≡ unvisited G (visited below (set seen (at to a) true)) = ap (unvisited G) A.seen_is in
            omega (arith, e, b, A.next, unvisited_new G seen (at to a) all_flags inside new)

        pub again_room : back < 127
        again_room = omega (arith, used, C.room)

        after : Heads G u (a / 2 + 1) (at next a)
        after = heads_after 64 links to C.can leaves h

        pub again_can_follow : CanFollow G next u (at next a) (back + 1) s₁ (set o₁ back u)
        unfolding below
        again_can_follow = record {
          can = C.can;
          leaves = after.leaves;
          flags = flags_after;
          entries = length-set o₁ back u ∙ ap length A.written ∙ length-sets route place (at to a ∷ tour (at to a) below) ∙ C.entries;
          room = omega (arith, used, C.room);
        }

        pub again_falls : following G s₁ (at next a / 2) < following G seen (arc / 2)
        unfolding following below
        again_falls =
            rw A.seen_is
            (omega (arith, visiting-le G below (set seen (at to a) true), visiting_new G seen (at to a) all_flags inside new))

        shape : follow G (arc / 2) u seen ≡ branch (a / 2) (at to a) (visit G (at to a) seen) (follow G (at next a / 2) u s₁)
        shape =
            let f : 64 ≤ length s₁ = omega (arith, flags_after) in
            to_next
            ∙ subst (λ (w : ℕ). follow G (a / 2) u seen ≡ branch (a / 2) w (visit G w seen) (follow G (a / 2 + 1) u (visited (visit G w seen) (set seen w true))))
            (leaves-far 64 links to leaves h) (follow-take G F u seen all_flags (a / 2) h opened)
            ∙ ap (λ (s : List Bool). branch (a / 2) (at to a) (visit G (at to a) seen) (follow G (a / 2 + 1) u s)) (sym A.seen_is)
            ∙ ap (λ (T : Tree). branch (a / 2) (at to a) (visit G (at to a) seen) T) (to_head G F u s₁ f after)

        pub again_walked : (labels : List Bool) → t₀ ≡ set labels (a / 2) true → {r : ℕ} {seen' labels' : List Bool} {route' : List ℕ}
            → Followed G u (at next a) (back + 1) s₁ t₁ (set o₁ back u) r seen' labels' route'
            → Followed G u arc place seen labels route r seen' labels' route'
        again_walked labels label {r} {seen'} {labels'} {route'} W =
            subst (λ (T : Tree). Walked T (tour u T) place seen labels route r seen' labels' route') (sym shape)
            (compose (visit G (at to a) seen) (follow G (at next a / 2) u s₁) (a / 2) (at to a) u label A W)
