use Rattle.std.proofs.Common.{◌≡◌, drop, map}
use Rattle.std.specs.List.{find}
use Rattle.std.specs.Str.{bytes_eq}
use Rattle.language_tags_grammar.specs.Pieces.{lowercase}
use Rattle.language_tags_grammar.proofs.grandfathered.find_without_case.Given as goal

-- none of the tags before is the text
abbrev pub invariant-loop-tag : goal.invariant-loop-tag
invariant-loop-tag l =
    find (λ tag. bytes_eq (lowercase tag) (lowercase l.text))
    (map (λ tag. tag.now) (drop l.tag-index l.tags))
    ≡ find (λ tag. bytes_eq (lowercase tag) (lowercase l.text)) (map (λ tag. tag.now) l.tags)
