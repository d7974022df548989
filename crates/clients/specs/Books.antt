-- Books read and written again, meshes written and read again, and one byte of a record. Definitions only.
use Rattle.std.specs.Prelude.{ℕ, ◌≤◌, ◌≡◌, List, ◌++◌, length, get_or, take, drop}
use Rattle.mesh.specs.declared.Mesh.{Mesh}
use Rattle.mesh.specs.Answer.{Accepted}
use Rattle.mesh.specs.Mesh.{mesh_answer}
use Rattle.codec.specs.Book.{decoded, encoded, output_after, span_answer, record_part}
use Rattle.clients.specs.declared.Rewritten.{Rewritten}
use Rattle.clients.specs.declared.Reread.{Reread}
use Rattle.clients.specs.declared.RecordByte.{RecordByte}

-- reading the book s, and writing its mesh to an output of `room` bytes
abbrev pub rewritten : List ℕ → ℕ → Rewritten
rewritten s room = record { reading = (decoded s).answer; writing = encoded (decoded s).mesh room }

-- an accepted book comes out as it is, before the bytes past it, where there is room for it
abbrev pub Rewrites : List ℕ → List ℕ → List ℕ → Type 0
Rewrites s out after = (decoded s).answer ≡ Accepted → length s ≤ length out → after ≡ s ++ drop (length s) out

-- checking the mesh m, writing it to an output, and reading what was written; on a refusal of the writing nothing was, and the empty book is read
abbrev pub reread : Mesh → List ℕ → Reread
reread m out = record {
  checking = mesh_answer m;
  writing = encoded m (length out);
  reading = decoded (take (encoded m (length out)).length (output_after m out));
}

-- a mesh that was written comes back
abbrev pub Rereads : Mesh → Reread → Type 0
Rereads m r = r.writing.answer ≡ Accepted → r.reading ≡ record { mesh = m; answer = Accepted }

-- byte i of the record of link k in the book s, 0 past its end and on a refusal
abbrev pub record_byte : List ℕ → ℕ → ℕ → RecordByte
record_byte s k i = record { byte = get_or (record_part s k) i 0; answer = span_answer s k }
