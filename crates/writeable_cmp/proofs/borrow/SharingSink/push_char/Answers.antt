-- A character's bytes are that character.
use Rattle.std.proofs.Common.{◌≡◌, ◌++◌, ap, ◌∙◌, rules, chars}
use Rattle.writeable_cmp.specs.Sharing.{sharing}
use Rattle.writeable_core.specs.TextLaws.{chars-encode}
use Rattle.writeable_cmp.proofs.borrow.SharingSink.push_char.Goals as goal

pub returns-clause-ok : goal.returns-clause-ok
returns-clause-ok c =
    let took : c.take.new.self
    ≡ sharing (c.args.self.now.text ++ chars c.encode_utf8.result.now)
    c.args.self.now.reference = search rules in
    record {
      text = ap (λ s. s.text) took
          ∙ ap (λ bytes. c.args.self.now.text ++ chars bytes) c.encode_utf8.ensures.value
          ∙ ap (λ cs. c.args.self.now.text ++ cs) (chars-encode c.args.c c.ranges.c.0);
      reference = ap (λ s. s.reference) took;
    }
