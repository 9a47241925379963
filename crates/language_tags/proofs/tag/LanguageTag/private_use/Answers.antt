use Rattle.std.proofs.Common.{◌∙◌, arith, ap, sym, string_bytes}
use Rattle.std.proofs.lemmas.Str.Pattern.{starts_text}
use Rattle.std.specs.Prelude.{codes}
use Rattle.language_tags_grammar.specs.Kept.{tag_at}
use Rattle.language_tags.proofs.KeptUse.{kept-ascii, kept-within, private-text, whole-none}
use Rattle.language_tags.proofs.KeptUse.{whole-private}
use Rattle.language_tags.proofs.tag.LanguageTag.private_use.Goals as goal

pub part-requires : goal.part-requires
part-requires c = record {
  ascii =
      kept-ascii c.self.inside.ends
      (string_bytes c.self.inside.text) c.as_str-text.result.now c.in-Some.ends c.args.self.now
      c.self.invariant c.in-Some.is c.as_str-text.ensures.value c.self.view_is;
  ordered =
      omega (
        arith,
        kept-within c.self.inside.ends
            (string_bytes c.self.inside.text) c.as_str-text.result.now c.in-Some.ends
            c.args.self.now
            c.self.invariant c.in-Some.is c.as_str-text.ensures.value c.self.view_is,
      );
  within = omega arith;
}

pub returns-in-Some : goal.returns-in-Some
returns-in-Some c =
    record {
      value = private-text c.self.inside.ends
          (string_bytes c.self.inside.text) c.as_str-text.result.now c.in-Some.ends c.args.self.now
          c.self.invariant c.in-Some.is c.as_str-text.ensures.value c.self.view_is _ c.part.ensures;
    }

pub returns-then-starts_with : goal.returns-then-starts_with
returns-then-starts_with c = record {
  value = whole-private (string_bytes c.self.inside.text) c.as_str-text.result.now c.args.self.now
      (ap (λ o. tag_at o (string_bytes c.self.inside.text)) (sym c.in-None.is) ∙ c.self.view_is)
      c.as_str-text.ensures.value
      (sym
      (starts_text c.starts_with.result
      (codes "x-") c.as_str-text.result.now c.starts_with.ensures.cases)
      ∙ c.if-starts_with.true);
}

pub returns-else-starts_with : goal.returns-else-starts_with
returns-else-starts_with c = record {
  value = whole-none (string_bytes c.self.inside.text) c.as_str-text.result.now c.args.self.now
      (ap (λ o. tag_at o (string_bytes c.self.inside.text)) (sym c.in-None.is) ∙ c.self.view_is)
      c.as_str-text.ensures.value
      (sym
      (starts_text c.starts_with.result
      (codes "x-") c.as_str-text.result.now c.starts_with.ensures.cases)
      ∙ c.if-starts_with.false);
}
