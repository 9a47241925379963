use Rattle.std.proofs.Common.{◌++◌, inl, inr}
use Rattle.lazy_dfa.proofs.Texts.{early_longer, holds_early, holds_longer}
use Rattle.lazy_dfa.proofs.laws.early_answer_is_right.Goals as goal

pub returns-clause-holds : goal.returns-clause-holds
returns-clause-holds k = λ c u w h. holds_early c (u ++ w) (early_longer c u w h)

pub returns-clause-fails : goal.returns-clause-fails
returns-clause-fails k = λ c u w a b h. elim (holds_longer c u w h) [ inl e ↦ a e | inr f ↦ b f ]
