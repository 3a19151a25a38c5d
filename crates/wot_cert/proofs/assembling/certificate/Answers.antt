use Rattle.std.proofs.Common.{subst, sym, ap, ◌∙◌}
use Rattle.std.specs.Prelude.{IfOk}
use Rattle.wot_packet.specs.Spelling.{spelled_all}
use Rattle.wot_cert.specs.Answers.{IsWhereReadable}
use Rattle.wot_component.specs.Certificate.{Certificate}
use Rattle.wot_cert.specs.Drafting.{IsWholeSketch, Sketch, completed}
use Rattle.wot_cert.proofs.CertificateWithKey.{sketched-whole, completed-is}
use Rattle.wot_cert.proofs.assembling.certificate.Goals as goal

pub drafted-requires : goal.drafted-requires
drafted-requires c =
    record {
      whole = subst (λ (s : Sketch). IsWholeSketch s) (sym c.in_ok-draft.ensures.draft)
          (sketched-whole (spelled_all c.args.behind.now) c.requires.short);
    }

pub returns : goal.returns
returns c =
    let e = ap (completed c.args.key.now) c.in_ok-draft.ensures.draft
    ∙ completed-is c.args.key.now (spelled_all c.args.behind.now) in
    record {
      certificate = subst (λ (x : Certificate). IfOk c.drafted.result (IsWhereReadable c.args.key.now x)) e
          c.drafted.ensures.completed;
    }
