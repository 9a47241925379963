use Rattle.std.proofs.Common.{◌≤◌, arith, length, refl, string_bytes}
use Rattle.std.proofs.lemmas.Bool.Decides.{nat_tests}
use Rattle.std.proofs.lemmas.Result.{IfOk-weaker, MatchResult-weaker}
use Rattle.language_tags_grammar.specs.Tag.{extlangs_of}
use Rattle.language_tags.proofs.CanonLaws.{parts-refused, parts-rewritten, plain-shaped}
use Rattle.language_tags.proofs.CanonLaws.{stays-whole}
use Rattle.language_tags.proofs.tag.LanguageTag.rewritten.Goals as goal

pub returns-then-is_none : goal.returns-then-is_none
returns-then-is_none c = record {
  ok = IfOk-weaker c.same.result _ _
      (λ tag h. stays-whole c.args.registry.now c.self.inside.ends
      (string_bytes c.self.inside.text) c.args.self.now tag
      c.if-is_none.ensures c.self.view_is h) c.same.ensures.ok;
  err =
      MatchResult-weaker c.same.result c.same.ensures.err (λ tag h. h)
      (λ fault h other. absurd (other h));
}

pub canonical_parts-requires : goal.canonical_parts-requires
canonical_parts-requires c = record {
  shapes =
      plain-shaped c.self.inside.ends
      (string_bytes c.self.inside.text) c.args.self.now c.if-is_none.ensures c.self.invariant
      c.self.view_is;
  few = grind (arith, nat_tests, c.if-not-has_few_extlangs.ensures);
}

pub returns-then-not-has_few_extlangs : goal.returns-then-not-has_few_extlangs
returns-then-not-has_few_extlangs c =
    let many : 2 ≤ length (extlangs_of c.args.self.now) =
    grind (arith, nat_tests, c.if-not-has_few_extlangs.ensures) in record {
      err = λ _. (
        refl,
        parts-refused c.args.registry.now c.self.inside.ends
            (string_bytes c.self.inside.text) c.args.self.now c.if-is_none.ensures
            c.self.view_is many,
      );
      ok = tt;
    }

pub returns-in-Ok : goal.returns-in-Ok
returns-in-Ok c =
    let few : length (extlangs_of c.args.self.now) ≤ 1 =
    grind (arith, nat_tests, c.if-not-has_few_extlangs.ensures) in record {
      ok =
          parts-rewritten c.args.registry.now c.self.inside.ends
          (string_bytes c.self.inside.text) c.args.self.now c.if-is_none.ensures
          c.self.view_is few c.in-Ok.ensures.0 c.in-Ok.ensures.1 c.in-Ok.tag c.in-Ok.ensures.2;
      err = tt;
    }
