-- `covetureen_collect` meets its contract.
use mathlib.Core.Path.{◌≡◌, sym, ◌∙◌, ap}
use lib.ListN.{replicate}
use Rattle.codec.specs.declared.Decoded.{Decoded}
use Rattle.collection.specs.declared.Collected.{Collected}
use Rattle.collection.specs.Collection.{collected, output_after}
use Rattle.covetureen.specs.Interface.{number_of, place_of, mesh_in, collect_answer, collected_nodes}
use Rattle.covetureen.proofs.questions.covetureen_collect.Goals as goal

pub returns-in_default : goal.returns-in_default
returns-in_default c =
    let asked : c.collect-c.result ≡ collected (mesh_in c.args.book.now) c.args.root 127
    = c.collect-c.ensures.answer ∙ ap (λ (z : Decoded). collected z.mesh c.args.root 127) c.decode-d.ensures in
    let e : c.and_then-collected.result ≡ collect_answer c.args.book.now c.args.root = c.and_then-collected.ensures ∙ rw (asked, c.decode-d.ensures) in
    let h = sym e ∙ c.in_default.is in record {
      number = c.tell.ensures.number ∙ ap number_of e;
      route = rw h;
      tree = rw h;
      count = rw h;
      place = c.tell.ensures.place ∙ ap place_of e;
    }

pub returns : goal.returns
returns c =
    let visits : c.collect-c.new.out ≡ collected_nodes c.args.book.now c.args.root
    = c.collect-c.ensures.output ∙ ap (λ (z : Decoded). output_after z.mesh c.args.root (replicate 127 0)) c.decode-d.ensures in
    let asked : c.collect-c.result ≡ collected (mesh_in c.args.book.now) c.args.root 127
    = c.collect-c.ensures.answer ∙ ap (λ (z : Decoded). collected z.mesh c.args.root 127) c.decode-d.ensures in
    let e : c.and_then-collected.result ≡ collect_answer c.args.book.now c.args.root = c.and_then-collected.ensures ∙ rw (asked, c.decode-d.ensures) in
    let h = sym e ∙ c.in-Ok.is in record {
      number = c.tell-2.ensures.number ∙ ap number_of e;
      route = visits ∙ rw h;
      tree = ap (λ (z : Collected). z.tree) asked ∙ rw h;
      count = ap (λ (z : Collected). z.count) asked ∙ rw h;
      place = c.tell-2.ensures.place ∙ ap place_of e;
    }
