use Rattle.std.proofs.Common.{arith, string_bytes}
use Rattle.language_tags.proofs.KeptUse.{script-text, kept-ascii, kept-within, extlang-script}
use Rattle.language_tags.proofs.KeptUse.{script-region, region-variant, variant-extension}
use Rattle.language_tags.proofs.tag.LanguageTag.script.Goals as goal

pub part-requires : goal.part-requires
part-requires c = record {
  ascii =
      kept-ascii c.self.inside.ends
      (string_bytes c.self.inside.text) c.as_str.result.now c.in-Some.ends c.args.self.now
      c.self.invariant c.in-Some.is c.as_str.ensures.value c.self.view_is;
  ordered =
      extlang-script c.self.inside.ends
      (string_bytes c.self.inside.text) c.as_str.result.now c.in-Some.ends c.args.self.now
      c.self.invariant c.in-Some.is c.as_str.ensures.value c.self.view_is;
  within =
      omega (
        arith,
        kept-within c.self.inside.ends
            (string_bytes c.self.inside.text) c.as_str.result.now c.in-Some.ends c.args.self.now
            c.self.invariant c.in-Some.is c.as_str.ensures.value c.self.view_is,
        script-region c.self.inside.ends
            (string_bytes c.self.inside.text) c.as_str.result.now c.in-Some.ends c.args.self.now
            c.self.invariant c.in-Some.is c.as_str.ensures.value c.self.view_is,
        region-variant c.self.inside.ends
            (string_bytes c.self.inside.text) c.as_str.result.now c.in-Some.ends c.args.self.now
            c.self.invariant c.in-Some.is c.as_str.ensures.value c.self.view_is,
        variant-extension c.self.inside.ends
            (string_bytes c.self.inside.text) c.as_str.result.now c.in-Some.ends c.args.self.now
            c.self.invariant c.in-Some.is c.as_str.ensures.value c.self.view_is,
      );
}

pub returns-in-Some : goal.returns-in-Some
returns-in-Some c =
    record {
      value = script-text c.self.inside.ends
          (string_bytes c.self.inside.text) c.as_str.result.now c.in-Some.ends c.args.self.now
          c.self.invariant c.in-Some.is c.as_str.ensures.value c.self.view_is _ c.part.ensures;
    }
