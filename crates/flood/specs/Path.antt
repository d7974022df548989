-- What the guarantees speak of besides the machine: strong digraphs, links in a row, the route of a flood, what a delivery does to a state, links ever offered.
-- Definitions only.
use Rattle.std.specs.Prelude.{ℕ, ◌<◌, ◌≡◌, ◌≢◌, ◌⊎◌, false}
use mathlib.Core.List.{List, [], ◌∷◌, ◌++◌, map, Memᴰ}
use Rattle.scan.specs.Entry.{at}
use Rattle.scan.specs.Distinct.{Distinct}
use Rattle.graph.specs.Walk.{Walk}
use Rattle.flood.specs.Digraph.{Digraph, Failure}
use Rattle.flood.specs.Machine.{Flood, play}

module _ (g : Digraph) where
  open g use {nodes, links, tail, head}

  -- an arc, blocked or not
  abbrev pub AnyArc : ℕ → ℕ → Type 0
  AnyArc u v = (i : ℕ) × (i < links) × (tail i ≡ u) × (head i ≡ v)

  -- a walk leads from every node to every other, and no link leads back to its start
  pub record Strong : Type 0 where
    pub tail< : (i : ℕ) → i < links → tail i < nodes
    pub head< : (i : ℕ) → i < links → head i < nodes
    pub loopless : (i : ℕ) → i < links → tail i ≢ head i
    pub joined : (u v : ℕ) → u < nodes → v < nodes → Walk AnyArc u v

  -- the arcs of the links p lead from u to v, each starting where the one before ended
  pub data Chain : ℕ → List ℕ → ℕ → Type 0 where
    end : {u : ℕ} → Chain u [] u
    link : {u v : ℕ} {p : List ℕ} (i : ℕ) → tail i ≡ u → Chain (head i) p v → Chain u (i ∷ p) v

module _ (g : Digraph) (c : Failure) where
  open g use {links, head}
  open c use {source, target, blocked}

  -- one simple path from the source to the target: links in a row, none blocked, that meet no node twice
  pub record SimplePath (p : List ℕ) : Type 0 where
    pub chain : Chain g source p target
    pub simple : Distinct (source ∷ map head p)
    pub free : (i : ℕ) → Memᴰ i p → (i < links) × (blocked i ≡ false)

  -- the links taken in the states S are those of a simple path, each once
  pub record Route (S : ℕ → ℕ) (p : List ℕ) : Type 0 where
    pub path : SimplePath p
    pub once : Distinct p
    pub taken-on : (i : ℕ) → i < links → S i ≡ 2 → Memᴰ i p
    pub on-taken : (i : ℕ) → Memᴰ i p → S i ≡ 2

  -- link i is offered at some time while the deliveries js are made from f on: after the earlier of them
  pub record Ever (i : ℕ) (js : List ℕ) (f : Flood) : Type 0 where
    pub earlier : List ℕ
    pub later : List ℕ
    pub split : js ≡ earlier ++ later
    pub offered : at (play g c earlier f).states i ≡ 1

-- state v becomes w, on the link delivered on: it goes from offered to taken or refused, or from refused to released
abbrev pub Acted : ℕ → ℕ → Type 0
Acted v w = ((v ≡ 1) × (w ≡ 2)) ⊎ (((v ≡ 1) × (w ≡ 3)) ⊎ ((v ≡ 3) × (w ≡ 4)))

-- and on any other link: it stays, is offered, or falls back from taken to refused
abbrev pub Touched : ℕ → ℕ → Type 0
Touched v w = (w ≡ v) ⊎ (((v ≡ 0) × (w ≡ 1)) ⊎ ((v ≡ 2) × (w ≡ 3)))
