use Rattle.std.proofs.Common.{string_bytes}
use Rattle.language_tags.proofs.KeptUse.{extensions-text, kept-ascii, kept-within}
use Rattle.language_tags.proofs.KeptUse.{variant-extension}
use Rattle.language_tags.proofs.tag.LanguageTag.extension.Goals as goal

pub part-requires : goal.part-requires
part-requires c = record {
  ascii =
      kept-ascii c.self.inside.ends
      (string_bytes c.self.inside.text) c.as_str.result.now c.in-Some.ends c.args.self.now
      c.self.invariant c.in-Some.is c.as_str.ensures.value c.self.view_is;
  ordered =
      variant-extension c.self.inside.ends
      (string_bytes c.self.inside.text) c.as_str.result.now c.in-Some.ends c.args.self.now
      c.self.invariant c.in-Some.is c.as_str.ensures.value c.self.view_is;
  within =
      kept-within c.self.inside.ends
      (string_bytes c.self.inside.text) c.as_str.result.now c.in-Some.ends c.args.self.now
      c.self.invariant c.in-Some.is c.as_str.ensures.value c.self.view_is;
}

pub returns-in-Some : goal.returns-in-Some
returns-in-Some c =
    record {
      value = extensions-text c.self.inside.ends
          (string_bytes c.self.inside.text) c.as_str.result.now c.in-Some.ends c.args.self.now
          c.self.invariant c.in-Some.is c.as_str.ensures.value c.self.view_is _ c.part.ensures;
    }
