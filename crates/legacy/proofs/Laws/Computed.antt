-- The rows on the calls from before wavelength 2, computed. Serves `old-bench` of Main. Assumes nothing.
use Rattle.std.specs.Prelude.{◌≡◌, refl, map}
use Rattle.scan.specs.Lowest.{lowest, lowest_from, any, every}
use Rattle.scan.specs.Sweep.{sweep, sweep_from}
use Rattle.mesh.specs.Mesh.{ends_answer}
use Rattle.mesh.specs.Parts.{entries_answer, parts_answer}
use Rattle.faults.specs.Faults.{is_over, overflows, is_stray, strays}
use Rattle.flood.specs.Machine.{fresh, under_way, live, offer, holds, feeds, first, some, at_rest, accepts, leaves, opens}
use Rattle.flood.specs.Machine.{begin, arrive, retreat, withdraw, step, play, order, run}
use Rattle.flood.specs.Topology.{carries, route_from}
use Rattle.legacy.specs.Record.{rest_zero, mesh_answer, ill_formed, record_answer}
use Rattle.legacy.specs.Calls.{next, route_of}
use Rattle.legacy.specs.History.{after, logged}
use Rattle.legacy.specs.Bench.{Row, table, outcome_of, Question, questions, answer_to}

pub computed : (map outcome_of table ≡ map (λ (r : Row). r.outcome) table) × (map answer_to questions ≡ map (λ (q : Question). q.answered) questions)
unfolding lowest lowest_from any every sweep sweep_from ends_answer entries_answer parts_answer is_over overflows is_stray strays fresh under_way live offer holds feeds
    first some at_rest accepts leaves opens begin arrive retreat withdraw step play order run carries route_from
    rest_zero mesh_answer ill_formed record_answer next route_of after logged
computed = (refl, refl)
