use Rattle.std.proofs.Common.{length, sym, ap, ◌∙◌}
use Rattle.compose.proofs.Moving.{moved_kept, moved_stored}
use Rattle.compose.proofs.digits.displace.Goals as goal

pub returns : goal.returns
returns g c =
    let a = c.args.a in
    let count = sym (ap length c.arcs.ensures.arcs) ∙ c.arcs.ensures.count in
    record {
      body = λ h computes. moved_stored a.record.now a.kept _ c.arcs.ensures.count count h _ (c.redirect.ensures h computes) a.weights.now _ c.copy_from_slice.ensures.after;
      kept = λ h computes. moved_kept a.record.now a.kept _ c.arcs.ensures.count count h _ (c.redirect.ensures h computes);
    }
