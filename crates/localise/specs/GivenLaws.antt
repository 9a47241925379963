-- The length of what is found lies in its hint.
use Rattle.std.specs.Prelude.{ℕ, List, map}
use Rattle.std.proofs.Common.{subst}
use Rattle.std.proofs.lemmas.List.{map-id}
use Rattle.icu_list.specs.Joined.{joined}
use Rattle.icu_list.specs.JoinedLaws.{joined_hinted}
use Rattle.icu_list.specs.ListHint.{list_hint}
use Rattle.icu_list.specs.Patterns.{Patterns}
use Rattle.localise.specs.Given.{Given, hint_given, text_given}
use Rattle.writeable_core.specs.Hint.{Hinted, byte_length, text_hint}
use Rattle.writeable_core.specs.HintLaws.{Hinted-exact}
use Rattle.writeable_replace.specs.ReplacedHintLaws.{Hinted-replaced}

-- the length of joined texts lies in their hint
items_hinted : (p : Patterns) (items : List (List ℕ))
    → Hinted (list_hint p (map text_hint items)) (byte_length (joined p items))
items_hinted p items =
    subst
    (λ (texts : List (List ℕ)).
    Hinted (list_hint p (map text_hint items)) (byte_length (joined p texts)))
    (map-id items)
    (joined_hinted p items (λ (t : List ℕ). t) text_hint (λ t. Hinted-exact (byte_length t)))

-- the length of the localised text lies in its hint
pub hint_given_holds : (g : Given) → Hinted (hint_given g) (byte_length (text_given g))
hint_given_holds g =
    Hinted-replaced (text_hint g.answer.words)
    (list_hint g.answer.patterns (map text_hint g.items)) g.answer.words g.placeholder
    (joined g.answer.patterns g.items) (Hinted-exact (byte_length g.answer.words))
    (items_hinted g.answer.patterns g.items)
