-- A character's bytes were compared whole.
use Rattle.std.proofs.Common.{[], ◌∷◌, sym, ◌∙◌, subst, append-nil}
use Rattle.writeable_cmp.specs.Comparing.{ComparedBytes}
use Rattle.writeable_core.specs.SinkLaws.{front_whole, on_err}
use Rattle.writeable_cmp.proofs.cmp.ComparingSink.push_char.Goals as goal
use lib.Utf8.{encode}

pub returns-in_err-compare-clause-err : goal.returns-in_err-compare-clause-err
returns-in_err-compare-clause-err c =
    on_err _
    (front_whole (c.args.c ∷ [])
    (subst (λ bytes. ComparedBytes c.args.self.now bytes c.compare.new.self)
    (c.as_bytes.ensures.value ∙ c.encode_utf8.ensures.value ∙ sym (append-nil (encode c.args.c)))
    c.compare.ensures.compared))
