-- The pieces behind `x-`.
use Rattle.std.proofs.Common.{◌≡◌, ◌≢◌, ℕ, zero, suc, ◌<◌, ◌≤◌, Bool, true, false, List, [], ◌∷◌}
use Rattle.std.proofs.Common.{◌++◌, Some, length, refl, sym, ap, ◌∙◌, cond, arith, lit<}
use Rattle.std.proofs.Common.{append_assoc, append-nil, subst, map}
use Rattle.std.specs.Prelude.{◌==◌, ◌&&◌, ◌||◌, slice_get, codes}
use Rattle.std.specs.Char.{is_ascii_alphanumeric, to_ascii_lowercase}
use Rattle.std.specs.Str.{byte}
use Rattle.std.proofs.lemmas.List.{map-append}
use Rattle.std.specs.Int.{is_in_range}
use Rattle.std.specs.List.{AllByRecursion, list_all, onto_first}
use Rattle.std.proofs.lemmas.Bool.Decides.{nat_tests}
use Rattle.language_tags_grammar.specs.Pieces.{dashed, is_dash, joined, lowercase, pieces}
use Rattle.language_tags_grammar.specs.Shapes.{is_private, is_small}
use Rattle.language_tags_grammar.specs.TagFault.{IsFirstBad, IsSized, are_allowed}
use Rattle.language_tags_grammar.specs.TagOf.{BeginsOtherwise, StandsBehindX}
use Rattle.std.specs.Str.{IsAscii}
use Rattle.std.proofs.lemmas.List.Splits.{join_with_byte-slice_split}
use Rattle.std.proofs.lemmas.Str.{IsAscii-append}
use Rattle.std.proofs.lemmas.Str.Ascii.{IsAscii-cons, IsAscii-nil}
use Rattle.language_tags_grammar.specs.Lemmas.PartsLaws.{private-small}
use Rattle.language_tags_grammar.specs.Lemmas.KeptLaws.{IsClean, clean-ascii, dashed-ascii}
use Rattle.language_tags_grammar.specs.Lemmas.KeptLaws.{each-clean, joined-dashed, smalls-clean}
use Rattle.language_tags_grammar.specs.Lemmas.PieceLaws.{pieces-lowercase, some_piece}

-- pieces that are of one to eight bytes, and those that are left
pub record Checked (ps rest : List (List ℕ)) : Type 0 where
  pub front : List (List ℕ)
  pub all : ps ≡ front ++ rest
  pub sized : AllByRecursion IsSized front

pub checked_none : (ps rest : List (List ℕ)) → ps ≡ rest → Checked ps rest
checked_none ps rest e = record { front = []; all = e; sized = tt }

sized-more : (front : List (List ℕ)) (x : List ℕ) → AllByRecursion IsSized front → IsSized x
    → AllByRecursion IsSized (front ++ (x ∷ []))
sized-more [] x h s = (s, tt)
sized-more (y ∷ front) x h s = (h.0, sized-more front x h.1 s)

pub checked_more : (ps rest : List (List ℕ)) (x : List ℕ) → Checked ps (x ∷ rest) → IsSized x
    → Checked ps rest
checked_more ps rest x h s = record {
  front = h.front ++ (x ∷ []);
  all = h.all ∙ sym (append_assoc h.front (x ∷ []) rest);
  sized = sized-more h.front x h.sized s;
}

sized-at : (front rest : List (List ℕ)) (j : ℕ) (y : List ℕ) → AllByRecursion IsSized front
    → j < length front
    → slice_get (front ++ rest) j ≡ Some y → IsSized y
sized-at [] rest j y h lt e = absurd (omega arith)
sized-at (z ∷ front) rest zero y h lt e =
    let same : z ≡ y = cc in
    subst {A = List ℕ} IsSized same h.0
sized-at (z ∷ front) rest (suc j) y h lt e = sized-at front rest j y h.1 (omega arith) e

at-front : (front : List (List ℕ)) (x : List ℕ) (rest : List (List ℕ))
    → slice_get (front ++ (x ∷ rest)) (length front) ≡ Some x
at-front [] x rest = refl
at-front (y ∷ front) x rest = at-front front x rest

-- the next piece is the first bad one
pub first_bad : (ps rest : List (List ℕ)) (x : List ℕ) (Bad : List ℕ → Type 0)
    → Checked ps (x ∷ rest) → Bad x → IsFirstBad ps Bad
first_bad ps rest x Bad h bad = record {
  place = length h.front;
  before =
      λ j piece lt e. sized-at h.front (x ∷ rest) j piece h.sized lt
      (ap (λ qs. slice_get qs j) (sym h.all) ∙ e);
  piece = x;
  piece_is = ap (λ qs. slice_get qs (length h.front)) h.all ∙ at-front h.front x rest;
  bad = bad;
}

-- allowed characters, cut at the dashes, are letters and digits
abbrev AreSmall : List (List ℕ) → Type 0
AreSmall ps = list_all (list_all is_small) ps ≡ true

dash_small : (c : ℕ) → is_dash c ≡ false → (is_small c || is_dash c) ≡ true → is_small c ≡ true
dash_small c e h = grind (arith, nat_tests)

small_onto : (c : ℕ) (ps : List (List ℕ)) → is_small c ≡ true → AreSmall ps
    → AreSmall (onto_first c ps)
small_onto c [] e h = λ i. (e i && true) && true
small_onto c (p ∷ ps) e h =
    (λ i. (e i && list_all is_small p) && list_all (list_all is_small) ps) ∙ h

small_pieces : (rest : List ℕ) → are_allowed rest ≡ true → AreSmall (pieces rest)
small_pieces [] e = refl
small_pieces (c ∷ rest) e =
    let head : (is_small c || is_dash c) ≡ true = grind (arith, nat_tests) in
    let tail : are_allowed rest ≡ true = grind (arith, nat_tests) in
    by (small_pieces rest tail) (is_dash c) refl head
  where
    by : AreSmall (pieces rest) → (b : Bool) → is_dash c ≡ b → (is_small c || is_dash c) ≡ true
        → AreSmall (cond b ([] ∷ pieces rest) (onto_first c (pieces rest)))
    by h true e g = h
    by h false e g = small_onto c (pieces rest) (dash_small c e g) h

sized_private : (ps : List (List ℕ)) → AllByRecursion IsSized ps → AreSmall ps
    → list_all is_private ps ≡ true
sized_private [] h s = refl
sized_private (p ∷ ps) h s =
    let some : 1 ≤ length p = h.0.0 in
    let few : length p ≤ 8 = h.0.1 in
    let small : list_all is_small p ≡ true = grind (arith, nat_tests) in
    let others : AreSmall ps = grind (arith, nat_tests) in
    let range : is_in_range 1 8 (length p) ≡ true = grind (arith, nat_tests) in
    λ i. (range i && small i) && sized_private ps h.1 others i

-- where all are checked
pub all_private : (rest : List ℕ) → are_allowed rest ≡ true → Checked (pieces rest) []
    → list_all is_private (pieces rest) ≡ true
all_private rest e h =
    let all : pieces rest ≡ h.front = h.all ∙ append-nil h.front in
    sized_private (pieces rest) (subst (AllByRecursion IsSized) (sym all) h.sized)
    (small_pieces rest e)

-- ---- what begins with x-

pub begins_with_x : (text first rest : List ℕ) → text ≡ first ++ (byte "-" ∷ rest)
    → lowercase first ≡ lowercase (codes "x")
    → StandsBehindX (lowercase rest) text
begins_with_x text first rest e x =
    ap lowercase e ∙ map-append to_ascii_lowercase first (byte "-" ∷ rest)
    ∙ ap (λ t. t ++ (byte "-" ∷ lowercase rest)) x

abbrev first_of : List (List ℕ) → List ℕ
first_of [] = []
first_of (p ∷ ps) = p

pub begins_otherwise : (text first : List ℕ) (ps : List (List ℕ)) → pieces text ≡ first ∷ ps
    → (lowercase first ≡ lowercase (codes "x") → ⊥) → BeginsOtherwise text
begins_otherwise text first ps e other rest x =
    other (ap first_of (sym (pieces-lowercase text ∙ ap (map lowercase) e) ∙ ap pieces x))

pub no_dash_otherwise : (text : List ℕ) → pieces text ≡ text ∷ [] → BeginsOtherwise text
no_dash_otherwise text e rest x =
    let same : lowercase text ∷ [] ≡ codes "x" ∷ pieces rest =
    sym (pieces-lowercase text ∙ ap (map lowercase) e) ∙ ap pieces x in
    absurd (omega (arith, some_piece rest, ap length same))

-- ---- allowed characters

allowed_one : (c : ℕ)
    → (is_small (to_ascii_lowercase c) || is_dash (to_ascii_lowercase c))
    ≡ (is_ascii_alphanumeric c || is_dash c)
allowed_one c = grind (arith, nat_tests)

pub allowed_lowercase : (t : List ℕ)
    → are_allowed (lowercase t) ≡ list_all (λ c. is_ascii_alphanumeric c || is_dash c) t
allowed_lowercase [] = refl
allowed_lowercase (c ∷ t) = λ i. allowed_one c i && allowed_lowercase t i

pub some_bytes : (t : List ℕ) (b : Bool) → b ≡ (length t == 0) → b ≡ false → lowercase t ≢ []
some_bytes [] b e h clash = cc
some_bytes (c ∷ t) b e h clash = cc

-- ---- such texts are ASCII

abbrev AreWords : List (List ℕ) → Type 0
AreWords ps = list_all is_private ps ≡ true

word-clean : (x : List ℕ) → is_private x ≡ true → IsClean x
word-clean x e = smalls-clean x (private-small x e)

words-ascii : (ps : List (List ℕ)) → AreWords ps → IsAscii (joined ps)
words-ascii [] h = IsAscii-nil
words-ascii (p ∷ ps) h =
    let head : is_private p ≡ true = grind (arith, nat_tests) in
    let tail : list_all is_private ps ≡ true = grind (arith, nat_tests) in
    subst IsAscii (sym (joined-dashed p ps))
    (IsAscii-append p (dashed ps) (clean-ascii p (word-clean p head))
    (dashed-ascii ps (each-clean is_private word-clean ps tail)))

pub private-ascii : (text rest : List ℕ) → StandsBehindX rest text
    → list_all is_private (pieces rest) ≡ true → IsAscii (lowercase text)
private-ascii text rest e h =
    subst IsAscii (sym (e ∙ ap (λ t. codes "x-" ++ t) (sym (join_with_byte-slice_split 45 rest))))
    (IsAscii-cons 120 (45 ∷ joined (pieces rest)) (lit< tt)
    (IsAscii-cons 45 (joined (pieces rest)) (lit< tt) (words-ascii (pieces rest) h)))
