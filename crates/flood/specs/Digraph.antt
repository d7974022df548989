-- A digraph, and a failure in it that is to be walked around. Definitions only.
use Rattle.std.specs.Prelude.{ℕ, ◌<◌, ◌≡◌, ◌≢◌, Bool, false, not, ◌||◌, eqb}
use Rattle.scan.specs.Total.{count}
use Rattle.graph.specs.Walk.{Walk}

-- link i, below `links`, is an arc from node `tail i` to node `head i`
pub record Digraph : Type 0 where
  pub nodes : ℕ
  pub links : ℕ
  pub tail : ℕ → ℕ
  pub head : ℕ → ℕ

-- a stream that led from source to target is lost; the blocked links may not be used to replace it
pub record Failure : Type 0 where
  pub source : ℕ
  pub target : ℕ
  pub blocked : ℕ → Bool

-- every arc turned round, as for the other wavelength
abbrev pub reverse : Digraph → Digraph
reverse g = record { nodes = g.nodes; links = g.links; tail = g.head; head = g.tail }

-- link k is cut: the stream against its arc, from its head to its tail, is lost
abbrev pub cut : Digraph → ℕ → Failure
cut g k = record { source = g.head k; target = g.tail k; blocked = λ i. eqb i k }

-- node n is lost: the stream from x through n to y is lost, and every link at n is blocked
abbrev pub loss : Digraph → ℕ → ℕ → ℕ → Failure
loss g x n y = record { source = x; target = y; blocked = λ i. eqb (g.tail i) n || eqb (g.head i) n }

module _ (g : Digraph) (c : Failure) where
  open g use {nodes, links, tail, head}
  open c use {source, target, blocked}

  -- links that are not blocked
  unfoldable pub usable : ℕ
  usable = count (λ i. not (blocked i)) links

  -- an arc that is not blocked
  abbrev pub Arc : ℕ → ℕ → Type 0
  Arc u v = (i : ℕ) × (i < links) × (blocked i ≡ false) × (tail i ≡ u) × (head i ≡ v)

  -- one that does not start at the target: the flood goes no further there
  abbrev pub Flow : ℕ → ℕ → Type 0
  Flow u v = (u ≢ target) × Arc u v

  -- a walk that is not blocked leads from the source to another node, the target; the ends of the links are nodes. No more is asked: links may be
  -- doubled or lead back to their start, and nodes may be out of reach
  pub record Sound : Type 0 where
    pub head< : (i : ℕ) → i < links → head i < nodes
    pub source< : source < nodes
    pub apart : source ≢ target
    pub walk : Walk Arc source target
