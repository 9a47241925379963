use Rattle.language_tags.specs.Equality.{Agree}
use Rattle.language_tags.proofs.tag.agree.Given as goal

-- what is left agrees exactly where all does
abbrev pub invariant-loop-subtag : goal.invariant-loop-subtag
invariant-loop-subtag l =
    (Agree l.subtag-iterator l.others → Agree l.fn.range l.fn.tag)
    × (Agree l.fn.range l.fn.tag → Agree l.subtag-iterator l.others)
