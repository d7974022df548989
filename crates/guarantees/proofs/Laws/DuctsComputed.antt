-- The mesh with ducts, computed. Serves `ducts_bench` of Main. Assumes nothing.
use Rattle.std.specs.Prelude.{ℕ, zero, suc, ◌<◌, ◌≡◌, refl}
use Rattle.std.proofs.Common.{arith}
use Rattle.scan.specs.All.{all}
use Rattle.scan.specs.Passing.{passing}
use Rattle.mesh.specs.Mesh.{ends_answer, links_answer, mesh_answer}
use Rattle.fields.specs.Record.{record_length, fields_at, record_answer}
use Rattle.codec.specs.Book.{header_answer, records_answer, fields_from, book_answer, mesh_of, decoded}
use Rattle.ducts.specs.Sharing.{sharing, sharing_answer, shared, output_after}
use Rattle.mesh.specs.WellFormed.{link}
use Rattle.guarantees.specs.DuctBench.{mesh, plain, Holds}

same_ends : (i : ℕ) → i < 5 → ((link mesh i).low ≡ (link plain i).low) × ((link mesh i).high ≡ (link plain i).high)
same_ends zero h = (refl, refl)
same_ends (suc zero) h = (refl, refl)
same_ends (suc (suc zero)) h = (refl, refl)
same_ends (suc (suc (suc zero))) h = (refl, refl)
same_ends (suc (suc (suc (suc zero)))) h = (refl, refl)
same_ends (suc (suc (suc (suc (suc i))))) h = absurd (omega arith)

pub computed : Holds
unfolding decoded book_answer header_answer records_answer record_answer record_length fields_at fields_from mesh_of
    mesh_answer ends_answer links_answer all shared sharing_answer sharing passing output_after
computed = record {
  reads = refl;
  needless = refl;
  reserved = refl;
  needless-first = refl;
  short = refl;
  ill_formed_lem = refl;
  link-first = refl;
  first = (refl, refl);
  other = (refl, refl);
  highest = (refl, refl);
  alone = (refl, refl);
  no_room = (refl, refl);
  no_link = (refl, refl);
  same = record { nodes = refl; count = refl; low = λ i h. (same_ends i h).0; high = λ i h. (same_ends i h).1 };
}
