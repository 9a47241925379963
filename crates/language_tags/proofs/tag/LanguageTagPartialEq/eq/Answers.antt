use Rattle.std.proofs.Common.{◌≡◌, ◌∙◌, sym, ap, string_bytes, rules}
use Rattle.std.specs.Prelude.{is_none}
use Rattle.std.proofs.lemmas.Slice.Eq.{bytes_eq-Decides}
use Rattle.language_tags_grammar.specs.Tag.{print}
use Rattle.language_tags.proofs.KeptUse.{tags_equal}
use Rattle.language_tags.proofs.tag.LanguageTagPartialEq.eq.Goals as goal

pub returns-then-is_none-clause-same : goal.returns-then-is_none-clause-same
returns-then-is_none-clause-same c =
    let kind : is_none c.self.inside.ends ≡ is_none c.other.inside.ends = search rules in
    let a = c.as_str.ensures.value in
    let b = c.as_str-then-is_none.ensures.value in (
      λ same. tags_equal c.self.inside.ends c.other.inside.ends (string_bytes c.self.inside.text)
          (string_bytes c.other.inside.text)
          c.args.self.now c.args.other.now c.self.invariant c.other.invariant c.self.view_is
          c.other.view_is kind
          (sym a ∙ (bytes_eq-Decides _ _).0 (sym c.eq.ensures ∙ same) ∙ b),
      λ same. c.eq.ensures ∙ (bytes_eq-Decides _ _).1 (a ∙ ap print same ∙ sym b),
    )
