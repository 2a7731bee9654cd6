use Rattle.words.proofs.Bits.{head_layout, arc_layout}
use Rattle.words.proofs.Unique.{one_body, no_body, one_fault}
use Rattle.words.proofs.trip.words_are_one.Goals as goal

pub returns : goal.returns
returns g c =
    let s = g.W.Written.writing in
    let laws = g.met.W.Written.words in
    record {
      body = one_body s laws;
      none = no_body s laws;
      fault = one_fault s laws;
      heads = head_layout s laws.code_to laws.width_to;
      arcs = arc_layout;
    }
