-- `covetureen_ducts` meets its contract.
use mathlib.Core.Path.{◌≡◌, sym, ◌∙◌, ap}
use lib.ListN.{replicate}
use Rattle.codec.specs.declared.Decoded.{Decoded}
use Rattle.ducts.specs.declared.Shared.{Shared}
use Rattle.ducts.specs.Sharing.{shared, output_after}
use Rattle.covetureen.specs.Interface.{number_of, place_of, mesh_in, sharing_answer, shared_links}
use Rattle.covetureen.proofs.questions.covetureen_ducts.Goals as goal

pub returns-in_default : goal.returns-in_default
returns-in_default c =
    let asked : c.sharing-s.result ≡ shared (mesh_in c.args.book.now) c.args.link 256
    = c.sharing-s.ensures.answer ∙ ap (λ (z : Decoded). shared z.mesh c.args.link 256) c.decode-d.ensures in
    let e : c.and_then-shared.result ≡ sharing_answer c.args.book.now c.args.link = c.and_then-shared.ensures ∙ rw (asked, c.decode-d.ensures) in
    let h = sym e ∙ c.in_default.is in record {
      number = c.tell.ensures.number ∙ ap number_of e;
      links = rw h;
      count = rw h;
      place = c.tell.ensures.place ∙ ap place_of e;
    }

pub returns : goal.returns
returns c =
    let lists : c.sharing-s.new.out ≡ shared_links c.args.book.now c.args.link
    = c.sharing-s.ensures.output ∙ ap (λ (z : Decoded). output_after z.mesh c.args.link (replicate 256 0)) c.decode-d.ensures in
    let asked : c.sharing-s.result ≡ shared (mesh_in c.args.book.now) c.args.link 256
    = c.sharing-s.ensures.answer ∙ ap (λ (z : Decoded). shared z.mesh c.args.link 256) c.decode-d.ensures in
    let e : c.and_then-shared.result ≡ sharing_answer c.args.book.now c.args.link = c.and_then-shared.ensures ∙ rw (asked, c.decode-d.ensures) in
    let h = sym e ∙ c.in-Ok.is in record {
      number = c.tell-2.ensures.number ∙ ap number_of e;
      links = lists ∙ rw h;
      count = ap (λ (z : Shared). z.count) asked ∙ rw h;
      place = c.tell-2.ensures.place ∙ ap place_of e;
    }
