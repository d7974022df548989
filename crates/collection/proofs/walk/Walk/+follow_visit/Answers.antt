use Prim.Native.Nat.{ℕ, ◌<◌}
use mathlib.Core.Path.{◌≡◌, refl}
use native.Mathlib.Omega.{arith}
use Rattle.collection.proofs.Laws.Steps.{
  visit_room,
  visit_can_follow,
  visit_falls,
  visit_walked,
  follow_done,
  take_can_visit,
  take_falls,
  again_room,
  again_can_follow,
  again_falls,
  again_walked,
}
use Rattle.collection.proofs.walk.Walk.+follow_visit.Goals as goal

fallen : {x m t : ℕ} → m ≡ t → x < m → x < t
fallen e h = omega arith

-- ---- follow

pub follow-returns-in_default : goal.follow-returns-in_default
follow-returns-in_default t c =
    let a = c.args.arcs.now in
    follow_done a.next a.to a.links c.requires (c.in_default.ensures)

pub follow-visit-requires : goal.follow-visit-requires
follow-visit-requires t c =
    let a = c.args.arcs.now in (
      fallen c.decreases (take_falls a.next a.to a.links c.requires c.in-Some.ensures),
      take_can_visit a.next a.to a.links c.requires c.in-Some.ensures,
    )

-- after the visit of the new node

pub follow-write-requires : goal.follow-write-requires
follow-write-requires t c =
    let a = c.args.arcs.now in
    again_room a.next a.to a.links c.requires c.in-Some.ensures c.visit.ensures

pub follow-follow-requires : goal.follow-follow-requires
follow-follow-requires t c =
    let a = c.args.arcs.now in
    rw c.write.ensures (
      fallen c.decreases (again_falls a.next a.to a.links c.requires c.in-Some.ensures c.visit.ensures),
      again_can_follow a.next a.to a.links c.requires c.in-Some.ensures c.visit.ensures,
    )

pub follow-returns-in-Some : goal.follow-returns-in-Some
follow-returns-in-Some t c =
    let a = c.args.arcs.now in
    again_walked a.next a.to a.links c.requires c.in-Some.ensures c.visit.ensures c.args.self.now.tree refl (rw c.write.ensures at c.follow.ensures)

-- ---- visit

pub visit-write-requires : goal.visit-write-requires
visit-write-requires t c = let a = c.args.arcs.now in visit_room a.next a.to a.links c.requires

pub visit-follow-requires : goal.visit-follow-requires
visit-follow-requires t c =
    let a = c.args.arcs.now in
    rw (c.first.ensures, c.write.ensures) (
      fallen c.decreases (visit_falls a.next a.to a.links c.requires),
      visit_can_follow a.next a.to a.links c.requires,
    )

pub visit-returns : goal.visit-returns
visit-returns t c =
    let a = c.args.arcs.now in
    visit_walked a.next a.to a.links c.requires (rw (c.first.ensures, c.write.ensures) at c.follow.ensures)
