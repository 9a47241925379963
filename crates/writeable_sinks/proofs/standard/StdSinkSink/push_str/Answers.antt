-- A text's bytes are its characters, encoded.
use Rattle.std.proofs.Common.{sym, arith}
use Rattle.std.proofs.lemmas.Str.{encodes-chars}
use Rattle.writeable_sinks.proofs.standard.StdSinkSink.push_str.Goals as goal

pub returns-in-Ok-clause-ok : goal.returns-in-Ok-clause-ok
returns-in-Ok-clause-ok g c =
    rw (sym c.self.view_is) record {
      later = omega arith;
      written =
          λ _. rw (encodes-chars c.args.piece.now c.utf8.piece)
          (rw (sym c.as_bytes.ensures.value) c.in-Ok.ensures.ok);
    }
