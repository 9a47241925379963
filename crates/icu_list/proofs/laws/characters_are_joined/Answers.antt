use Rattle.std.proofs.Common.{◌≡◌, List, [], ◌∷◌, map, refl, sym, ap, ◌∙◌}
use Rattle.writeable_core.specs.Marks.{Mark, characters}
use Rattle.icu_list.specs.Joined.{marked_joined}
use Rattle.icu_list.specs.JoinedLaws.{joined_characters}
use Rattle.icu_list.proofs.laws.characters_are_joined.Goals as goal

same_items : (items : List (List Mark)) → map (λ (m : List Mark). m) items ≡ items
same_items [] = refl
same_items (m ∷ items) = ap (λ ys. m ∷ ys) (same_items items)

pub returns : goal.returns
returns c = λ p items.
    ap (λ (ys : List (List Mark)). characters (marked_joined p (map characters items) ys))
    (sym (same_items items))
    ∙ joined_characters p items characters (λ m. m) (λ m. refl)
