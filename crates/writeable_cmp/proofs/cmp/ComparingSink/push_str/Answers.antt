-- A text's bytes are its characters, encoded, and were compared whole.
use Rattle.std.proofs.Common.{sym, ◌∙◌, subst, chars}
use Rattle.std.proofs.lemmas.Str.{encodes-chars}
use Rattle.writeable_cmp.specs.Comparing.{ComparedBytes}
use Rattle.writeable_core.specs.SinkLaws.{front_whole, on_err}
use Rattle.writeable_cmp.proofs.cmp.ComparingSink.push_str.Goals as goal

pub returns-in_err-compare-clause-err : goal.returns-in_err-compare-clause-err
returns-in_err-compare-clause-err c =
    on_err _
    (front_whole (chars c.args.piece.now)
    (subst (λ bytes. ComparedBytes c.args.self.now bytes c.compare.new.self)
    (c.as_bytes.ensures.value ∙ sym (encodes-chars c.args.piece.now c.utf8.piece))
    c.compare.ensures.compared))

pub returns-clause-ok : goal.returns-clause-ok
returns-clause-ok c =
    subst (λ bytes. ComparedBytes c.args.self.now bytes c.compare.new.self)
    (c.as_bytes.ensures.value ∙ sym (encodes-chars c.args.piece.now c.utf8.piece))
    c.compare.ensures.compared
