-- Pieces are at most one identifier.
use Rattle.std.proofs.Common.{◌≡◌, ℕ, suc, Bool, true, false, ◌⊎◌, ⊎_elim, inl, inr, List, [], ◌∷◌}
use Rattle.std.proofs.Common.{◌++◌, Option, Some, None, map, drop, refl, sym, ap, subst, ◌∙◌, arith}
use Rattle.std.specs.Prelude.{◌↔◌, IfSome, zero}
use Rattle.std.specs.Cmp.{tied_itself}
use Rattle.std.specs.Cmp.Lexicographic.{nat_list_cmp_total}
use Rattle.std.specs.List.{All, Contains}
use Rattle.std.specs.Option.{option_map}
use Rattle.std.specs.Ordering.{ordering_reverse}
use Rattle.std.specs.declared.cmp.Ordering.TheVariants.{Less, Equal, Greater}
use Rattle.std.proofs.lemmas.Bool.{false≢true}
use Rattle.std.proofs.lemmas.List.Elements.{All-contains, All-from_recursion, All-head}
use Rattle.std.proofs.lemmas.Map.Keys.{sorted_head, sorted_tail}
use Rattle.tinystr.specs.Shapes.{IsVariant, is_region, is_script, is_variant}
use Rattle.tinystr.specs.Text.{titlecase}
use Rattle.unic_langid_impl.specs.Identifier.{Ascend, Identifier, part, text_cmp}
use Rattle.unic_langid_impl.specs.Pieces.{first_piece}
use Rattle.unic_langid_impl.specs.Reading.{AreIdentifier, IsAscendingOf}
use Rattle.unic_langid_impl.specs.Subtags.{language_of, lowercase, uppercase}
use Rattle.unic_langid_impl.specs.Taking.{left_behind, taken}
use Rattle.unic_langid_impl.proofs.ReadingLemmas.{region-variant, script-region, script-variant}
use Rattle.unic_langid_impl.proofs.ReadingLemmas.{shaped-from}

-- ---- ascending lists of the same texts are the same

contains-cases : (x t : List ℕ) (xs : List (List ℕ)) → Contains (x ∷ xs) t → (x ≡ t) ⊎ Contains xs t
contains-cases x t xs (zero, lt, e) = inl e
contains-cases x t xs (suc k, lt, e) = inr (k, omega (arith, lt), e)

contains-here : (x : List ℕ) (xs : List (List ℕ)) → Contains (x ∷ xs) x
contains-here x xs = (0, omega arith, refl)

contains-more : (x t : List ℕ) (xs : List (List ℕ)) → Contains xs t → Contains (x ∷ xs) t
contains-more x t xs (k, lt, e) = (suc k, omega (arith, lt), e)

-- those behind the first one are greater
above : (x t : List ℕ) (xs : List (List ℕ)) → Ascend (x ∷ xs) → Contains xs t → text_cmp x t ≡ Less
above x t xs h c =
    All-contains (λ y. text_cmp x y ≡ Less) xs t
    (All-from_recursion (λ y. text_cmp x y ≡ Less) xs (sorted_head text_cmp x xs h)) c

not_both : (x y : List ℕ) → text_cmp x y ≡ Less → text_cmp y x ≡ Less → ⊥
not_both x y e f =
    let r : Greater ≡ Less =
    sym (ap ordering_reverse e) ∙ sym (nat_list_cmp_total.antisymm y x) ∙ f in cc

not_itself : (x : List ℕ) → text_cmp x x ≡ Less → ⊥
not_itself x e = let t : text_cmp x x ≡ Equal = tied_itself nat_list_cmp_total x in cc

-- the least of the one is the least of the other
same_first : (x y : List ℕ) (xs ys : List (List ℕ)) → Ascend (x ∷ xs) → Ascend (y ∷ ys)
    → Contains (y ∷ ys) x
    → Contains (x ∷ xs) y → x ≡ y
same_first x y xs ys h k cx cy =
    ⊎_elim (λ (e : y ≡ x). sym e)
    (λ (cx : Contains ys x).
    ⊎_elim (λ (e : x ≡ y). e)
    (λ (cy : Contains xs y). absurd (not_both x y (above x y xs h cy) (above y x ys k cx)))
    (contains-cases x y xs cy))
    (contains-cases y x ys cx)

-- a text behind the first
behind_first : (x y t : List ℕ) (xs ys : List (List ℕ)) → x ≡ y → Ascend (x ∷ xs)
    → (Contains (x ∷ xs) t → Contains (y ∷ ys) t)
    → Contains xs t → Contains ys t
behind_first x y t xs ys e h to c =
    ⊎_elim
    (λ (same : y ≡ t).
    absurd (not_itself t (subst (λ z. text_cmp z t ≡ Less) (e ∙ same) (above x t xs h c))))
    (λ (k : Contains ys t). k) (contains-cases y t ys (to (contains-more x t xs c)))

nowhere : (t : List ℕ) → Contains [] t → ⊥
nowhere t (k, lt, e) = absurd (omega (arith, lt))

pub same_ascending : (xs ys : List (List ℕ)) → Ascend xs → Ascend ys
    → ((t : List ℕ) → (Contains xs t ↔ Contains ys t)) → xs ≡ ys
same_ascending [] [] h k same = refl
same_ascending [] (y ∷ ys) h k same = absurd (nowhere y ((same y).1 (contains-here y ys)))
same_ascending (x ∷ xs) [] h k same = absurd (nowhere x ((same x).0 (contains-here x xs)))
same_ascending (x ∷ xs) (y ∷ ys) h k same =
    let first =
    same_first x y xs ys h k ((same x).0 (contains-here x xs))
    ((same y).1 (contains-here y ys)) in
    let rest = same_ascending xs ys (sorted_tail text_cmp x xs h) (sorted_tail text_cmp y ys k)
    (λ t. (
      behind_first x y t xs ys first h (same t).0,
      behind_first y x t ys xs (sym first) k (same t).1,
    )) in
    λ i. first i ∷ rest i

pub same_ascending_of : (texts xs ys : List (List ℕ)) → IsAscendingOf texts xs
    → IsAscendingOf texts ys → xs ≡ ys
same_ascending_of texts xs ys h k =
    same_ascending xs ys h.ascend k.ascend
    (λ t. (λ c. (k.same t).1 ((h.same t).0 c), λ c. (h.same t).1 ((k.same t).0 c)))

-- ---- the parts of the pieces

module _ (is : List ℕ → Bool) (case : List ℕ → List ℕ) where
  -- a piece of the shape, where the next has another
  taken-part : (o : Option (List ℕ)) (pieces : List (List ℕ)) → IfSome o (λ p. is (case p) ≡ true)
      → IfSome (first_piece pieces) (λ p. is (case p) ≡ false)
      → taken is case (part o ++ pieces) ≡ o
  taken-part None [] h f = refl
  taken-part None (p ∷ pieces) h f = rw f refl
  taken-part (Some p) pieces h f = rw h refl

  left-part : (o : Option (List ℕ)) (pieces : List (List ℕ)) → IfSome o (λ p. is (case p) ≡ true)
      → IfSome (first_piece pieces) (λ p. is (case p) ≡ false)
      → left_behind is case (part o ++ pieces) ≡ pieces
  left-part None [] h f = refl
  left-part None (p ∷ pieces) h f = rw f refl
  left-part (Some p) pieces h f = rw h refl

opposite : (a b : Bool) → (a ≡ true → b ≡ false) → b ≡ true → a ≡ false
opposite true b f e = absurd (false≢true (sym (f refl) ∙ e))
opposite false b f e = refl

module _ (variants : List (List ℕ)) (shapes : All IsVariant (map lowercase variants)) where
  first_variant : IfSome (first_piece variants) (λ p. is_variant (lowercase p) ≡ true)
  first_variant = go variants shapes
    where
      go : (l : List (List ℕ)) → All IsVariant (map lowercase l)
          → IfSome (first_piece l) (λ p. is_variant (lowercase p) ≡ true)
      go [] h = tt
      go (p ∷ l) h = All-head IsVariant (lowercase p) (map lowercase l) h

  no_region_first : IfSome (first_piece variants) (λ p. is_region (uppercase p) ≡ false)
  no_region_first = go variants first_variant
    where
      go : (l : List (List ℕ)) → IfSome (first_piece l) (λ p. is_variant (lowercase p) ≡ true)
          → IfSome (first_piece l) (λ p. is_region (uppercase p) ≡ false)
      go [] h = tt
      go (p ∷ l) h = opposite _ _ (region-variant p) h

  no_script_first : (region : Option (List ℕ)) → IfSome region (λ p. is_region (uppercase p) ≡ true)
      → IfSome (first_piece (part region ++ variants)) (λ p. is_script (titlecase p) ≡ false)
  no_script_first (Some p) h = opposite _ _ (script-region p) h
  no_script_first None h = go variants first_variant
    where
      go : (l : List (List ℕ)) → IfSome (first_piece l) (λ p. is_variant (lowercase p) ≡ true)
          → IfSome (first_piece l) (λ p. is_script (titlecase p) ≡ false)
      go [] h = tt
      go (p ∷ l) h = opposite _ _ (script-variant p) h

-- each part of the identifier, as a function of the pieces
module _ (pieces : List (List ℕ)) (i : Identifier) (h : AreIdentifier pieces i) where
  abbrev tail : List (List ℕ)
  tail = drop 1 pieces

  tail_is : tail ≡ part h.script ++ (part h.region ++ h.variants)
  tail_is = ap (drop 1) h.pieces_are

  script_shape : IfSome h.script (λ p. is_script (titlecase p) ≡ true)
  script_shape = shaped-from is_script titlecase i.script h.script h.is_script h.script_is

  region_shape : IfSome h.region (λ p. is_region (uppercase p) ≡ true)
  region_shape = shaped-from is_region uppercase i.region h.region h.is_region h.region_is

  script_of : i.script ≡ option_map titlecase (taken is_script titlecase tail)
  script_of =
      h.script_is ∙ ap (option_map titlecase) (sym (ap (taken is_script titlecase) tail_is
      ∙ taken-part is_script titlecase h.script (part h.region ++ h.variants) script_shape
      (no_script_first h.variants h.are_variants h.region region_shape)))

  past_script : left_behind is_script titlecase tail ≡ part h.region ++ h.variants
  past_script =
      ap (left_behind is_script titlecase) tail_is
      ∙ left-part is_script titlecase h.script (part h.region ++ h.variants) script_shape
      (no_script_first h.variants h.are_variants h.region region_shape)

  region_of : i.region
      ≡ option_map uppercase (taken is_region uppercase (left_behind is_script titlecase tail))
  region_of =
      h.region_is ∙ ap (option_map uppercase) (sym (ap (taken is_region uppercase) past_script
      ∙ taken-part is_region uppercase h.region h.variants region_shape
      (no_region_first h.variants h.are_variants)))

  past_region : left_behind is_region uppercase (left_behind is_script titlecase tail) ≡ h.variants
  past_region =
      ap (left_behind is_region uppercase) past_script
      ∙ left-part is_region uppercase h.region h.variants region_shape
      (no_region_first h.variants h.are_variants)

  variants_of :
      IsAscendingOf
      (map lowercase (left_behind is_region uppercase (left_behind is_script titlecase tail)))
      i.variants
  variants_of = rw past_region h.variants_are

same_language : (p q : List ℕ) (ps qs : List (List ℕ)) → p ∷ ps ≡ q ∷ qs → p ≡ q
same_language p q ps qs e = cc

pub determined : (pieces : List (List ℕ)) (i j : Identifier) → AreIdentifier pieces i
    → AreIdentifier pieces j → i ≡ j
determined pieces i j h k =
    let first : h.language ≡ k.language = same_language _ _ _ _ (sym h.pieces_are ∙ k.pieces_are) in
    let language = h.language_is ∙ ap (λ l. language_of (lowercase l)) first ∙ sym k.language_is in
    let script = script_of pieces i h ∙ sym (script_of pieces j k) in
    let region = region_of pieces i h ∙ sym (region_of pieces j k) in
    let variants =
    same_ascending_of _ i.variants j.variants (variants_of pieces i h)
    (variants_of pieces j k) in
    λ n. record {
      language = language n;
      script = script n;
      region = region n;
      variants = variants n;
    }
