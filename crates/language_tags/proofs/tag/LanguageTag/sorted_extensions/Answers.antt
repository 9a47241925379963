use Rattle.std.proofs.Common.{map, refl, subst, List, ℕ, Bor}
use Rattle.std.specs.List.Sorted.{IsPermutation}
use Rattle.std.proofs.lemmas.List.Sorted.{IsPermutation-map}
use Rattle.language_tags.specs.CanonText.{is_item_before, pair_of}
use Rattle.language_tags.proofs.ItemLaws.{sorted-map}
use Rattle.language_tags.proofs.tag.LanguageTag.sorted_extensions.Goals as goal

pub returns : goal.returns
returns c = record {
  permutation =
      subst (λ xs. IsPermutation xs (map pair_of c.sort_unstable.new.self.items))
      c.in_ok-extensions.ensures
      (IsPermutation-map pair_of c.in_ok-extensions.extensions.items c.sort_unstable.new.self.items
      c.sort_unstable.ensures.permutation);
  order =
      sorted-map pair_of is_item_before
      (λ (x y : ℕ × Bor (List ℕ)). is_item_before (pair_of x) (pair_of y)) (λ a b. refl)
      c.sort_unstable.new.self.items c.sort_unstable.ensures.sorted;
}
