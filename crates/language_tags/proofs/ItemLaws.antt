-- Extensions as items, each a singleton and a content's text: put in order, and written.
use Rattle.std.proofs.Common.{◌≡◌, ℕ, suc, zero, ◌+◌, ◌<◌, ◌≤◌, Bool, true, List, [], ◌∷◌, ◌++◌}
use Rattle.std.proofs.Common.{map, length, get_or, drop, refl, sym, ap, ◌∙◌, arith, subst, Bor}
use Rattle.std.proofs.Common.{append_assoc, append-nil}
use Rattle.std.specs.Prelude.{◌&&◌}
use Rattle.std.specs.Cmp.Lexicographic.{slice_cmp}
use Rattle.std.specs.List.{All, AllByRecursion, flat_map, list_all}
use Rattle.std.specs.List.Sorted.{IsPermutation, IsSortedBy}
use Rattle.std.specs.Ordering.{is_lt, nat_cmp, ordering_then}
use Rattle.std.specs.Str.{byte}
use Rattle.std.proofs.lemmas.Bool.Decides.{nat_tests}
use Rattle.std.proofs.lemmas.List.{at_drop_all, drop_more, get_or-map, length-map, map-append}
use Rattle.std.proofs.lemmas.List.Sorted.{All-permutation, IsPermutation-map}
use Rattle.std.proofs.lemmas.List.Splits.{join_with_byte-slice_split}
use Rattle.language_tags_grammar.specs.Pieces.{dashed, joined, pieces}
use Rattle.language_tags_grammar.specs.Shapes.{IsExtension, is_content, is_small}
use Rattle.language_tags_grammar.specs.Tag.{Extension, Tag, Whole, Plain, extension_pieces}
use Rattle.language_tags_grammar.specs.Tag.{extensions_of}
use Rattle.language_tags_grammar.specs.Lemmas.KeptLaws.{AreClean, dashed-append, each-clean}
use Rattle.language_tags_grammar.specs.Lemmas.KeptLaws.{joined-dashed, pieces-dashed, smalls-clean}
use Rattle.language_tags_grammar.specs.Lemmas.PartsLaws.{content-small}
use Rattle.language_tags_grammar.specs.Lemmas.PieceLaws.{some_piece}
use Rattle.language_tags_grammar.specs.Lemmas.ScannedText.{first-clean, rest-clean}
use Rattle.language_tags.specs.Canon.{is_before}
use Rattle.language_tags.specs.CanonText.{IsShaped, dashed_items, is_item_before, pair_of}
use Rattle.language_tags.specs.Extensions.{item_of}

-- the extension of an item
abbrev pub extension_at : ℕ × List ℕ → Extension
extension_at i = record { singleton = i.0; content = pieces i.1 }

-- ---- an item gives its extension back

content-again : (ps : List (List ℕ)) → 1 ≤ length ps → AreClean ps → pieces (joined ps) ≡ ps
content-again [] some h = absurd (omega arith)
content-again (x ∷ ps) some h =
    ap pieces (joined-dashed x ps) ∙ pieces-dashed x ps (first-clean x ps h) (rest-clean x ps h)

item-again : (e : Extension) → IsExtension e → extension_at (item_of e) ≡ e
item-again e h =
    let clean =
    each-clean is_content (λ x g. smalls-clean x (content-small x g)) e.content h.content in
    λ i. record { singleton = e.singleton; content = content-again e.content h.some clean i }

items-again : (es : List Extension) → AllByRecursion IsExtension es
    → map extension_at (map item_of es) ≡ es
items-again [] h = refl
items-again (e ∷ es) h = λ i. item-again e h.0 i ∷ items-again es h.1 i

-- ---- order

all-at : {X : Type 0} (P : X → Type 0) (xs : List X) → AllByRecursion P xs → All P xs
all-at P [] h k d below = absurd (omega (arith, below))
all-at P (x ∷ xs) h zero d below = h.0
all-at P (x ∷ xs) h (suc k) d below = all-at P xs h.1 k d (omega (arith, below))

all-each : {X : Type 0} (P : X → Type 0) (xs : List X) → All P xs → AllByRecursion P xs
all-each P [] h = tt
all-each P (x ∷ xs) h =
    (h 0 x (omega arith), all-each P xs (λ k d below. h (suc k) d (omega (arith, below))))

-- what is in order stays so where each element goes to one that compares alike
pub sorted-map : {X Y : Type 0} (f : X → Y) (lt : Y → Y → Bool) (before : X → X → Bool)
    → ((a b : X) → lt (f a) (f b) ≡ before a b)
    → (xs : List X) → IsSortedBy before xs → IsSortedBy lt (map f xs)
sorted-map f lt before alike [] up k e low below = absurd (omega (arith, below))
sorted-map f lt before alike (x ∷ xs) up k e low below =
    let ys = x ∷ xs in
    let within : k + 1 < length ys = omega (arith, below, length-map ys f) in
    ap (λ a. lt a (get_or (map f ys) k e)) (get_or-map f ys (k + 1) x e within)
    ∙ ap (λ b. lt (f (get_or ys (k + 1) x)) b) (get_or-map f ys k x e (omega (arith, within)))
    ∙ alike (get_or ys (k + 1) x) (get_or ys k x) ∙ up k x low within

module _ (es : List Extension) (is : List (ℕ × List ℕ)) (shapes : AllByRecursion IsExtension es)
    (permutation : IsPermutation (map item_of es) is) where
  pub items-permutation : IsPermutation es (map extension_at is)
  items-permutation =
      subst (λ x. IsPermutation x (map extension_at is)) (items-again es shapes)
      (IsPermutation-map extension_at (map item_of es) is permutation)

  pub items-shapes : AllByRecursion IsExtension (map extension_at is)
  items-shapes =
      all-each IsExtension (map extension_at is)
      (All-permutation IsExtension es (map extension_at is) items-permutation
      (all-at IsExtension es shapes))

pub items-order : (is : List (ℕ × List ℕ)) → IsSortedBy is_item_before is
    → IsSortedBy is_before (map extension_at is)
items-order is up =
    sorted-map extension_at is_before is_item_before
    (λ a b i. is_lt (ordering_then (nat_cmp a.0 b.0)
    (slice_cmp nat_cmp (join_with_byte-slice_split 45 a.1 i)
    (join_with_byte-slice_split 45 b.1 i))))
    is up

-- ---- the text

dash_pieces : (t : List ℕ) → dashed (pieces t) ≡ byte "-" ∷ t
dash_pieces t = by (pieces t) (some_piece t)
    ∙ ap (λ u. byte "-" ∷ u) (join_with_byte-slice_split 45 t)
  where
    by : (ps : List (List ℕ)) → 0 < length ps → dashed ps ≡ byte "-" ∷ joined ps
    by [] h = absurd (omega arith)
    by (p ∷ ps) h = ap (λ u. byte "-" ∷ u) (sym (joined-dashed p ps))

pub items-text : (is : List (ℕ × List ℕ))
    → dashed_items is ≡ dashed (flat_map extension_pieces (map extension_at is))
items-text [] = refl
items-text (i ∷ is) =
    let rest = flat_map extension_pieces (map extension_at is) in
    ap (λ t. byte "-" ∷ i.0 ∷ t)
    (ap (λ t. (byte "-" ∷ i.1) ++ t) (items-text is)
    ∙ ap (λ t. t ++ dashed rest) (sym (dash_pieces i.1))
    ∙ sym (dashed-append (pieces i.1) rest))

pub items-small : (ps : List (ℕ × Bor (List ℕ)))
    → AllByRecursion IsExtension (map extension_at (map pair_of ps))
    → list_all (λ (i : ℕ × Bor (List ℕ)). is_small i.0) ps ≡ true
items-small [] h = refl
items-small (p ∷ ps) h =
    let small : is_small p.0 ≡ true = grind (arith, nat_tests, h.0.singleton) in
    λ i. small i && items-small ps h.1 i

pub shaped-extensions : (g : Tag) → IsShaped g → AllByRecursion IsExtension (extensions_of g)
shaped-extensions (Whole text) h = absurd h
shaped-extensions (Plain p) h = h.extensions

-- ---- the loops

pub item-small : (ps : List (ℕ × Bor (List ℕ))) (k : ℕ) (d : ℕ × Bor (List ℕ))
    → list_all (λ (i : ℕ × Bor (List ℕ)). is_small i.0) ps ≡ true → k < length ps
    → is_small (get_or ps k d).0 ≡ true
item-small [] k d h below = absurd (omega (arith, below))
item-small (p ∷ ps) zero d h below = grind (arith, nat_tests)
item-small (p ∷ ps) (suc k) d h below =
    let tail : list_all (λ (i : ℕ × Bor (List ℕ)). is_small i.0) ps ≡ true =
    grind (arith, nat_tests) in
    item-small ps k d tail (omega (arith, below))

dashed_items-append : (is js : List (ℕ × List ℕ))
    → dashed_items (is ++ js) ≡ dashed_items is ++ dashed_items js
dashed_items-append [] js = refl
dashed_items-append (i ∷ is) js =
    ap (λ t. byte "-" ∷ i.0 ∷ byte "-" ∷ t)
    (ap (λ t. i.1 ++ t) (dashed_items-append is js)
    ∙ sym (append_assoc i.1 (dashed_items is) (dashed_items js)))

-- one more item is appended
pub item-step : (cur new whole : List ℕ) (ps : List (ℕ × Bor (List ℕ))) (i : ℕ)
    (d : ℕ × Bor (List ℕ)) → i < length ps
    → new ≡ cur ++ dashed_items (pair_of (get_or ps i d) ∷ [])
    → cur ++ dashed_items (map pair_of (drop i ps)) ≡ whole
    → new ++ dashed_items (map pair_of (drop (i + 1) ps)) ≡ whole
item-step cur new whole ps i d below text h =
    let rest = map pair_of (drop (i + 1) ps) in
    let one = pair_of (get_or ps i d) ∷ [] in
    ap (λ t. t ++ dashed_items rest) text
    ∙ append_assoc cur (dashed_items one) (dashed_items rest)
    ∙ ap (λ t. cur ++ t) (sym (dashed_items-append one rest))
    ∙ ap (λ qs. cur ++ dashed_items (map pair_of qs)) (sym (drop_more ps i d below))
    ∙ h

pub item-end : (cur whole : List ℕ) (ps : List (ℕ × Bor (List ℕ))) (i : ℕ) → length ps ≤ i
    → cur ++ dashed_items (map pair_of (drop i ps)) ≡ whole → cur ≡ whole
item-end cur whole ps i all h =
    sym (append-nil cur)
    ∙ sym (at_drop_all (λ qs. cur ++ dashed_items (map pair_of qs)) ps i all) ∙ h

-- one more item is listed
pub listed-step : (old new : List (ℕ × Bor (List ℕ))) (p : ℕ × Bor (List ℕ))
    (it rest whole : List (ℕ × List ℕ))
    → new ≡ old ++ p ∷ [] → it ≡ pair_of p ∷ rest → map pair_of old ++ it ≡ whole
    → map pair_of new ++ rest ≡ whole
listed-step old new p it rest whole e step h =
    ap (λ xs. map pair_of xs ++ rest) e
    ∙ ap (λ xs. xs ++ rest) (map-append pair_of old (p ∷ []))
    ∙ append_assoc (map pair_of old) (pair_of p ∷ []) rest
    ∙ ap (λ xs. map pair_of old ++ xs) (sym step)
    ∙ h
