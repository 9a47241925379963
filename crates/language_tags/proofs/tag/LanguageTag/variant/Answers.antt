use Rattle.std.proofs.Common.{arith, string_bytes}
use Rattle.language_tags.proofs.KeptUse.{variants-text, kept-ascii, kept-within, region-variant}
use Rattle.language_tags.proofs.KeptUse.{variant-extension}
use Rattle.language_tags.proofs.tag.LanguageTag.variant.Goals as goal

pub part-requires : goal.part-requires
part-requires c = record {
  ascii =
      kept-ascii c.self.inside.ends
      (string_bytes c.self.inside.text) c.as_str.result.now c.in-Some.ends c.args.self.now
      c.self.invariant c.in-Some.is c.as_str.ensures.value c.self.view_is;
  ordered =
      region-variant c.self.inside.ends
      (string_bytes c.self.inside.text) c.as_str.result.now c.in-Some.ends c.args.self.now
      c.self.invariant c.in-Some.is c.as_str.ensures.value c.self.view_is;
  within =
      omega (
        arith,
        kept-within c.self.inside.ends
            (string_bytes c.self.inside.text) c.as_str.result.now c.in-Some.ends c.args.self.now
            c.self.invariant c.in-Some.is c.as_str.ensures.value c.self.view_is,
        variant-extension c.self.inside.ends
            (string_bytes c.self.inside.text) c.as_str.result.now c.in-Some.ends c.args.self.now
            c.self.invariant c.in-Some.is c.as_str.ensures.value c.self.view_is,
      );
}

pub returns-in-Some : goal.returns-in-Some
returns-in-Some c =
    record {
      value = variants-text c.self.inside.ends
          (string_bytes c.self.inside.text) c.as_str.result.now c.in-Some.ends c.args.self.now
          c.self.invariant c.in-Some.is c.as_str.ensures.value c.self.view_is _ c.part.ensures;
    }
