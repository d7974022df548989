-- What writing gives: the book where it fits, else the mesh's own refusal or 11, and then nothing is written. Assumes nothing.
use Rattle.std.specs.Prelude.{ℕ, ◌≤◌, ◌<◌, ◌≡◌, List, ◌++◌, length, drop}
use borrow.Author.Tests.{le-leb, lt-leb}
use Rattle.mesh.specs.declared.Mesh.{Mesh}
use Rattle.mesh.specs.Answer.{Accepted, Refused}
use Rattle.mesh.specs.Mesh.{mesh_answer}
use Rattle.codec.specs.Book.{book_of, encode_answer, written, encoded, output_after}

module _ (m : Mesh) (out : List ℕ) where
  pub encoded_done : mesh_answer m ≡ Accepted → length (book_of m) ≤ length out
      → (encoded m (length out) ≡ record { length = length (book_of m); answer = Accepted }) × (output_after m out ≡ book_of m ++ drop (length (book_of m)) out)
  unfolding encoded written encode_answer output_after
  encoded_done h l = (rw (h, le-leb _ (length out) l), rw (h, le-leb _ (length out) l))

  pub encoded_short : mesh_answer m ≡ Accepted → length out < length (book_of m)
      → (encoded m (length out) ≡ record { length = 0; answer = Refused 11 (length (book_of m)) }) × (output_after m out ≡ out)
  unfolding encoded written encode_answer output_after
  encoded_short h l = (rw (h, lt-leb _ (length out) l), rw (h, lt-leb _ (length out) l))

  pub encoded-refused : (number place : ℕ) → mesh_answer m ≡ Refused number place
      → (encoded m (length out) ≡ record { length = 0; answer = Refused number place }) × (output_after m out ≡ out)
  unfolding encoded written encode_answer output_after
  encoded-refused number place h = (rw h, rw h)
