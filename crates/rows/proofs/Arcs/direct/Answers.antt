-- `rows::Arcs::direct` meets its contract: each of its three ways out is a case of `Directed`, by what the two searches said of the tables without the link.
use Prim.Native.Nat.{ℕ}
use Rattle.std.specs.Prelude.{Some, None}
use mathlib.Core.Path.{◌≡◌}
use mathlib.Core.Bool.{Bool, true, false}
use mathlib.Core.List.{List}
use Rattle.rows.specs.Rows.{Searched, put, cut, LinkDirected, up, down, stuck}
use Rattle.rows.proofs.Arcs.direct.Goals as goal

module _ (leaving entering : List ℕ) (low high : ℕ) (before after : Bool) {t e : List ℕ}
    (p : t ≡ cut leaving low high before after) (q : e ≡ cut entering high low before after) where
  module _ {a : Bool} (A : Searched t e high low a) where
    directed-up : a ≡ true → {x y : List ℕ} → x ≡ put t low high → y ≡ put e high low → LinkDirected leaving entering low high before after (Some 0) x y
    directed-up s f g = rw (f, g, p, q) (up (rw (p, q, s) at A))

    module _ (s : a ≡ false) {b : Bool} (B : Searched t e low high b) where
      directed-down : b ≡ true → {x y : List ℕ} → x ≡ put t high low → y ≡ put e low high → LinkDirected leaving entering low high before after (Some 1) x y
      directed-down r f g = rw (f, g, p, q) (down (rw (p, q, s) at A) (rw (p, q, r) at B))

      directed-not : b ≡ false → LinkDirected leaving entering low high before after None t e
      directed-not r = rw (p, q) (stuck (rw (p, q, s) at A) (rw (p, q, r) at B))

pub returns-then-leads : goal.returns-then-leads
returns-then-leads c =
    directed-up _ _ _ _ _ _ c.cut_link.ensures c.cut_link-2.ensures c.leads.ensures
    c.if-leads.true c.put_arc.ensures.leaving c.put_arc.ensures.entering

pub returns-then-leads-2 : goal.returns-then-leads-2
returns-then-leads-2 c =
    directed-down _ _ _ _ _ _ c.cut_link.ensures c.cut_link-2.ensures c.leads.ensures c.if-leads.false
    c.leads-2.ensures c.if-leads-2.true c.put_arc-then-leads-2.ensures.leaving c.put_arc-then-leads-2.ensures.entering

pub returns : goal.returns
returns c =
    directed-not _ _ _ _ _ _ c.cut_link.ensures c.cut_link-2.ensures c.leads.ensures c.if-leads.false
    c.leads-2.ensures c.if-leads-2.false
