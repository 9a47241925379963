-- A text whose hint says that it is empty has no character.
use Rattle.std.proofs.Common.{◌≡◌, Some, sym, ◌∙◌, rules}
use Rattle.std.proofs.lemmas.Str.{chars-nil}
use Rattle.writeable_adapters.proofs.try_writeable.written.Goals as goal

pub returns-then-is_zero-clause-text : goal.returns-then-is_zero-clause-text
returns-then-is_zero-clause-text c =
    let zero : c.args.hint.1 ≡ Some 0 = search rules in
    chars-nil ∙ sym (c.requires zero)
