use Rattle.std.proofs.Common.{◌≡◌, List, ℕ, ap, sym, subst, ◌∙◌, IfOk}
use Rattle.std.proofs.lemmas.Str.{encodes-chars}
use Rattle.serde_json.specs.Data.{string}
use Rattle.serde_json.specs.View.{view}
use Rattle.icu_list.proofs.provider.serde_dfa.SerdeDFA.to_json.Goals as goal
use lib.Utf8.{encodes}

pub returns : goal.returns
returns c =
    let text : c.as_str.result.now ≡ encodes c.args.self.now =
    sym (encodes-chars c.as_str.result.now c.as_str.utf8)
    ∙ ap encodes (c.as_str.ensures ∙ c.self.view_is) in
    subst (λ (bytes : List ℕ). IfOk c.json_text.result (λ value. view value ≡ string bytes)) text
    c.json_text.ensures
