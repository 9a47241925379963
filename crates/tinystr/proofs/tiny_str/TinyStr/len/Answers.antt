use Rattle.std.proofs.Common.{◌≡◌, ◌∙◌, ap, rules, tests, length}
use Rattle.std.specs.Prelude.{◌==◌, position}
use Rattle.std.proofs.lemmas.Iterator.{YieldsList-from_slice}
use Rattle.std.proofs.lemmas.Iterator.Search.{position_from_yields_List}
use Rattle.tinystr.proofs.Padding.{first_nul}
use Rattle.tinystr.proofs.tiny_str.TinyStr.len.Goals as goal

pub returns-clause-value : goal.returns-clause-value
returns-clause-value g c =
    let found : c.position.result ≡ position (λ byte. byte == 0) c.self.inside.bytes =
    position_from_yields_List (λ byte. byte == 0) _ _ c.position.result c.position.ensures.ran
    (YieldsList-from_slice _ c.iter.ensures.rest) (λ x b q k. search (rules, tests)) in
    c.unwrap_or.ensures ∙ first_nul _ _ _ found c.self.told ∙ ap length c.self.view_is
