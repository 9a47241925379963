-- The text that is written of what is found.
use Rattle.std.proofs.Common.{◌≡◌, ℕ, List, map, ap, ◌∙◌}
use Rattle.std.proofs.lemmas.List.{map-id}
use Rattle.icu_list.specs.Joined.{joined}
use Rattle.icu_list.specs.Patterns.{Patterns}
use Rattle.writeable_replace.specs.Replaced.{replaced}

-- words with the joined texts of items that write themselves as they are
pub text_as_given : (words placeholder : List ℕ) (p q : Patterns) (values items : List (List ℕ))
    → p ≡ q → values ≡ items
    → replaced words placeholder (joined p (map (λ (t : List ℕ). t) values))
    ≡ replaced words placeholder (joined q items)
text_as_given words placeholder p q values items same are =
    ap (λ x. replaced words placeholder (joined x (map (λ (t : List ℕ). t) values))) same
    ∙ ap (λ x. replaced words placeholder (joined q x)) (map-id values ∙ are)
