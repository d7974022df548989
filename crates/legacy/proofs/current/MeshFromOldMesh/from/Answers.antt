-- the `From` of an old mesh meets its contract: each of its 256 links is the link of now.
use mathlib.Core.Path.{◌≡◌, sym, ◌∙◌}
use mathlib.Core.List.{map}
use native.Mathlib.Omega.{arith}
use Rattle.std.proofs.Common.{of_calls}
use lib.ListN.{length, length-map, get_or-map, replicate}
use lib.Seq.{ext_get_or}
use Rattle.mesh.specs.Mesh.{zero_link}
use Rattle.legacy.specs.Record as old
use Rattle.legacy.specs.Current.{link_now}
use Rattle.legacy.proofs.current.MeshFromOldMesh.from.Goals as goal

pub returns : goal.returns
returns c =
    let m = c.args.m in
    let items = c.map.ensures.items in
    let sized : length m.links ≡ 256 = c.well_formed.0.1.1.0.1.0.1 in
    let made : c.map.result ≡ map link_now m.links =
    ext_get_or zero_link c.map.result (map link_now m.links) (items.long ∙ sym (length-map m.links link_now ∙ sized))
    (λ i h. let told = (items.at i old.zero_link zero_link (omega (arith, items.long))).2 in search (of_calls, told) ∙ sym (get_or-map link_now m.links i old.zero_link)) in
    λ j. record { links = made j; nodes = m.nodes; count = m.count; ducts = replicate 256 0 }
