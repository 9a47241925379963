use Rattle.std.proofs.Common.{◌≡◌, ◌∙◌, ap, sym, subst, ◌++◌}
use Rattle.std.specs.Str.{IsAscii}
use Rattle.std.proofs.lemmas.Str.{IsUtf8-from_ascii}
use Rattle.language_tags_grammar.specs.Pieces.{lowercase}
use Rattle.language_tags.proofs.tag.LanguageTag.whole_in_lowercase.Goals as goal

pub from_utf8_unchecked-requires : goal.from_utf8_unchecked-requires
from_utf8_unchecked-requires c =
    let is : c.push_lowercase.new.cased.items ≡ lowercase c.args.text.now =
    c.in_ok-push_lowercase.ensures
    ∙ ap (λ xs. xs ++ lowercase c.as_bytes.result.now) c.in_ok-bytes.ensures.items
    ∙ ap lowercase c.as_bytes.ensures.value in
    IsUtf8-from_ascii c.push_lowercase.new.cased.items (subst IsAscii (sym is) c.requires)
