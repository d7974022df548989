-- What reading one record gives, from its answer. Serves the proof of `read_record`. Assumes nothing.
use Rattle.std.specs.Prelude.{ℕ, ◌≡◌, List, get_or, Ok, Err}
use Rattle.std.proofs.Math.Path.{refl}
use Rattle.std.proofs.Common.{sym, ap, ◌∙◌}
use Rattle.mesh.specs.declared.Link.{Link}
use Rattle.mesh.specs.declared.Reason.{Reason}
use Rattle.mesh.specs.Answer.{Accepted}
use Rattle.reader.specs.declared.Record.{Record}
use Rattle.fields.specs.Record.{as_link, fields_at, record_length, record_answer}
use Rattle.reader.specs.Read.{answer_of, record_as, record_read}

module _ (n end : ℕ) (p : Link) (at : ℕ) (s : List ℕ) where
  -- the record that is read where it is accepted
  abbrev pub there : Record
  there = record { link = as_link (fields_at p s); duct = (fields_at p s).duct; length = record_length (get_or s 0 0) }

  pub read_refused : {r : Reason} → record_answer n end p at s ≡ Err r → Err r ≡ record_read n end p at s
  unfolding record_read
  read_refused a = rw a

  pub read_accepted : record_answer n end p at s ≡ Accepted → Ok there ≡ record_read n end p at s
  unfolding record_read
  read_accepted a = rw a

  pub read_answer_lem : answer_of (record_read n end p at s) ≡ record_answer n end p at s
  unfolding record_read
  read_answer_lem = elim (record_answer n end p at s) as (λ a. answer_of (record_as a (fields_at p s) (record_length (get_or s 0 0))) ≡ a) [ Accepted ↦ refl | Err _ ↦ refl ]

  -- what a record that is given says
  pub record_given : {r : Record} → record_read n end p at s ≡ Ok r → (record_answer n end p at s ≡ Accepted) × (r ≡ there)
  record_given {r} e =
      let ok : record_answer n end p at s ≡ Accepted = sym read_answer_lem ∙ ap answer_of e in
      let given : Ok r ≡ Ok there = sym e ∙ sym (read_accepted ok) in (ok, cc)
