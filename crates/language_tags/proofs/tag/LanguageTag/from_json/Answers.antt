use Rattle.std.proofs.Common.{◌≡◌, List, ℕ, Option, subst, ◌∙◌}
use Rattle.std.specs.Prelude.{IfSome}
use Rattle.language_tags_grammar.specs.TagFault.{IsFaultOf}
use Rattle.language_tags_grammar.specs.declared.error.ParseError.{ParseError}
use Rattle.language_tags.proofs.tag.LanguageTag.from_json.Goals as goal

pub returns-in_default-fault : goal.returns-in_default-fault
returns-in_default-fault c = record {
  ok = tt;
  some = tt;
  not_text = λ e. cc;
  fault = λ fault e.
      let same : c.in-Err.fault ≡ fault = cc in (
        λ memory. c.in_default-fault.not-NoMemory (same ∙ memory),
        subst (λ (o : Option (List ℕ)). IfSome o (λ text. IsFaultOf text fault)) c.in-Some.ensures
            (subst (λ (f : ParseError). IsFaultOf c.in-Some.text.now f) same
            (c.in-Err.ensures.err c.in_default-fault.not-NoMemory)),
      );
}
