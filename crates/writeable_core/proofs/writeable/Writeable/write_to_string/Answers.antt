-- A text whose length is at most 0 is empty.
use Rattle.std.proofs.Common.{◌≡◌, Some, sym, ◌∙◌, rules}
use Rattle.std.proofs.lemmas.Str.{chars-nil}
use Rattle.writeable_core.specs.HintLaws.{no_characters_by_hint}
use Rattle.writeable_core.proofs.writeable.Writeable.write_to_string.Goals as goal

pub returns-then-is_zero-clause-text : goal.returns-then-is_zero-clause-text
returns-then-is_zero-clause-text g c =
    let hinted = g.met.Self.Writeable.text_hinted c.args.self.now in
    let zero : (g.Self.Writeable.hint c.args.self.now).1 ≡ Some 0 = search rules in
    chars-nil ∙ sym (no_characters_by_hint _ _ zero hinted)
