use Rattle.std.proofs.Common.{◌≡◌, ◌∙◌, ap, arith, subst, IfOk}
use Rattle.serde_json.specs.View.{view}
use Rattle.icu_list.specs.Pattern.{Pattern}
use Rattle.icu_list.specs.PatternJson.{IsOfJson, json_of}
use Rattle.icu_list.proofs.PatternWriting.{written, written_back}
use Rattle.icu_list.proofs.provider.joiner.ListJoinerPattern.to_json.Goals as goal

pub returns-clause-ok : goal.returns-clause-ok
returns-clause-ok c =
    subst (λ (p : Pattern). IfOk c.json_object.result (λ value. view value ≡ json_of p))
    c.self.view_is
    (written c.self.inside.string c.as_str.result.now c.self.inside.index_0 c.self.inside.index_1
    c.as_str.utf8 c.as_str.ensures
    c.self.invariant.0 c.self.invariant.1 c.self.invariant.2 c.json_object.result
    c.json_object.ensures)

pub returns-clause-back : goal.returns-clause-back
returns-clause-back c = λ none.
    subst (λ (p : Pattern). IfOk c.json_object.result (λ value. IsOfJson (view value) p))
    c.self.view_is
    (written_back c.self.inside.string c.as_str.result.now c.self.inside.index_0
    c.self.inside.index_1 c.as_str.utf8 c.as_str.ensures
    c.self.invariant.0 c.self.invariant.1 c.self.invariant.2 (omega arith)
    (ap (λ (p : Pattern). p.prefix) c.self.view_is ∙ none)
    c.json_object.result c.json_object.ensures)
