-- What an accepted header has, and what reading a header gives, from its answer. Assumes nothing.
use Rattle.std.specs.Prelude.{ℕ, ◌≤◌, ◌≡◌, List, true, leb, length, get_or, Result, Ok, Err}
use Rattle.std.proofs.Math.Path.{refl}
use Rattle.std.proofs.Common.{sym, ap, ◌∙◌, leb-true}
use Rattle.scan.specs.Bytes.{number}
use Rattle.mesh.specs.declared.Reason.{Reason}
use Rattle.mesh.specs.Answer.{Accepted, Refused}
use Rattle.mesh.specs.Mesh.{nodes_fit, count_fits}
use Rattle.mesh.specs.Laws.Answer.{must-accepted}
use Rattle.reader.specs.declared.Header.{Header}
use Rattle.reader.specs.Read.{known_version, answer_of, header_answer, header_as, header_read}

-- the header of s meets no refusal
pub record GoodHeader (s : List ℕ) : Type 0 where
  pub four : 4 ≤ length s
  pub version : known_version (get_or s 0 0) ≡ true
  pub nodes : nodes_fit (get_or s 1 0) ≡ true
  pub count : count_fits (number 2 s 2) ≡ true

pub header_accepted : (s : List ℕ) → header_answer s ≡ Accepted → GoodHeader s
unfolding header_answer
header_accepted s e =
    let (four, e1) = must-accepted (leb 4 (length s)) _ _ _ e in
    let (version, e2) = must-accepted (known_version (get_or s 0 0)) _ _ _ e1 in
    let (nodes, e3) = must-accepted (nodes_fit (get_or s 1 0)) _ _ _ e2 in
    let (count, e4) = must-accepted (count_fits (number 2 s 2)) _ _ _ e3 in
    record { four = leb-true _ _ four; version = version; nodes = nodes; count = count }

module _ (s : List ℕ) where
  pub header_refused : {r : Result Header Reason} {refusal place : ℕ} → r ≡ header_as (Refused refusal place) 0 0 → header_answer s ≡ Refused refusal place → r ≡ header_read s
  unfolding header_read
  header_refused e a = e ∙ rw a

  -- the answer of a header
  pub header_answer_lem : answer_of (header_read s) ≡ header_answer s
  unfolding header_read
  header_answer_lem = elim (header_answer s) as (λ a. answer_of (header_as a (get_or s 1 0) (number 2 s 2)) ≡ a) [ Accepted ↦ refl | Err _ ↦ refl ]

  -- an accepted one's numbers
  pub header_read_lem : header_answer s ≡ Accepted → header_read s ≡ Ok (record { nodes = get_or s 1 0; count = number 2 s 2 })
  unfolding header_read
  header_read_lem a = rw a

  -- what a header that is given says
  pub header_given : {h : Header} → header_read s ≡ Ok h → (header_answer s ≡ Accepted) × (h.nodes ≡ get_or s 1 0) × (h.count ≡ number 2 s 2)
  header_given {h} e =
      let ok : header_answer s ≡ Accepted = sym header_answer_lem ∙ ap answer_of e in
      let given : Ok h ≡ Ok (record { nodes = get_or s 1 0; count = number 2 s 2 }) = sym e ∙ header_read_lem ok in
      let same : h ≡ record { nodes = get_or s 1 0; count = number 2 s 2 } = cc in
      (ok, ap (λ (h : Header). h.nodes) same, ap (λ (h : Header). h.count) same)
