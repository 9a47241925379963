-- The pieces of a langtag, section by section, as the scanner passes them.
use Rattle.std.proofs.Common.{◌≡◌, ℕ, zero, suc, ◌+◌, ◌-◌, List, [], ◌∷◌, ◌++◌, length, refl, ap}
use Rattle.std.proofs.Common.{arith, append_assoc, append-nil, length-append}
use Rattle.language_tags_grammar.specs.Pieces.{dashed}
use Rattle.language_tags_grammar.specs.Scan.{ends_at}
use Rattle.language_tags_grammar.specs.declared.ends.Ends.{Ends}
use Rattle.language_tags_grammar.specs.declared.stage.Stage.{Stage}
use Rattle.language_tags_grammar.specs.declared.stage.Stage.TheVariants.{Start, LongLanguage}
use Rattle.language_tags_grammar.specs.declared.stage.Stage.TheVariants.{Extlangs, Script, Region}
use Rattle.language_tags_grammar.specs.declared.stage.Stage.TheVariants.{Variant, Singleton}
use Rattle.language_tags_grammar.specs.declared.stage.Stage.TheVariants.{Extension, X, Private}

pub record Flat : Type 0 where
  pub language : List (List ℕ)
  pub extlangs : List (List ℕ)
  pub script : List (List ℕ)
  pub region : List (List ℕ)
  pub variants : List (List ℕ)
  pub extension : List (List ℕ)
  pub private : List (List ℕ)

abbrev pub nothing : Flat
nothing =
    record {
      language = [];
      extlangs = [];
      script = [];
      region = [];
      variants = [];
      extension = [];
      private = [];
    }

-- all of the pieces
abbrev pub seen : Flat → List (List ℕ)
seen f =
    f.language
    ++ (f.extlangs ++ (f.script ++ (f.region ++ (f.variants ++ (f.extension ++ f.private)))))

-- how long pieces are, with a dash before each
abbrev pub width : List (List ℕ) → ℕ
width ps = length (dashed ps)

-- where the next piece begins, and where the sections end
abbrev pub place : Flat → ℕ
place f = width (seen f)

abbrev pub ends_of : Flat → Ends
ends_of f = record {
  language = width f.language - 1;
  extlang = (width f.language + width f.extlangs) - 1;
  script = (width f.language + width f.extlangs + width f.script) - 1;
  region = (width f.language + width f.extlangs + width f.script + width f.region) - 1;
  variant =
      (width f.language + width f.extlangs + width f.script + width f.region
      + width f.variants) - 1;
  extension =
      (width f.language + width f.extlangs + width f.script + width f.region + width f.variants
      + width f.extension) - 1;
}

-- the pieces, with one more in the section of a stage
abbrev pub grown : Stage → Flat → List ℕ → Flat
grown Start f x = f
grown LongLanguage f x = record f { language = f.language ++ (x ∷ []) }
grown (Extlangs zero) f x = record f { language = f.language ++ (x ∷ []) }
grown (Extlangs (suc k)) f x = record f { extlangs = f.extlangs ++ (x ∷ []) }
grown Script f x = record f { script = f.script ++ (x ∷ []) }
grown Region f x = record f { region = f.region ++ (x ∷ []) }
grown Variant f x = record f { variants = f.variants ++ (x ∷ []) }
grown Singleton f x = record f { extension = f.extension ++ (x ∷ []) }
grown Extension f x = record f { extension = f.extension ++ (x ∷ []) }
grown X f x = record f { private = f.private ++ (x ∷ []) }
grown Private f x = record f { private = f.private ++ (x ∷ []) }

-- nothing stands behind a section
abbrev pub NonePrivate : Flat → Type 0
NonePrivate f = f.private ≡ []

abbrev pub NoneBehindVariants : Flat → Type 0
NoneBehindVariants f = (f.extension ≡ []) × (f.private ≡ [])

abbrev pub NoneBehindRegion : Flat → Type 0
NoneBehindRegion f = (f.variants ≡ []) × NoneBehindVariants f

abbrev pub NoneBehindScript : Flat → Type 0
NoneBehindScript f = (f.region ≡ []) × NoneBehindRegion f

abbrev pub NoneBehindExtlangs : Flat → Type 0
NoneBehindExtlangs f = (f.script ≡ []) × NoneBehindScript f

abbrev pub NoneBehindLanguage : Flat → Type 0
NoneBehindLanguage f = (f.extlangs ≡ []) × NoneBehindExtlangs f

-- nothing stands behind the section of a stage
abbrev pub NoneBehind : Stage → Flat → Type 0
NoneBehind Start f = ⊥
NoneBehind LongLanguage f = (f.language ≡ []) × NoneBehindLanguage f
NoneBehind (Extlangs zero) f = (f.language ≡ []) × NoneBehindLanguage f
NoneBehind (Extlangs (suc k)) f = NoneBehindExtlangs f
NoneBehind Script f = NoneBehindScript f
NoneBehind Region f = NoneBehindRegion f
NoneBehind Variant f = NoneBehindVariants f
NoneBehind Singleton f = NonePrivate f
NoneBehind Extension f = NonePrivate f
NoneBehind X f = Unit {0}
NoneBehind Private f = Unit {0}

-- ---- how long they are

pub width-append : (ps qs : List (List ℕ)) → width (ps ++ qs) ≡ width ps + width qs
width-append [] qs = omega arith
width-append (p ∷ ps) qs =
    omega (
      arith,
      width-append ps qs,
      length-append p (dashed (ps ++ qs)),
      length-append p (dashed ps),
    )

pub width_more : (ps : List (List ℕ)) (x : List ℕ)
    → width (ps ++ (x ∷ [])) ≡ width ps + length x + 1
width_more ps x = omega (arith, width-append ps (x ∷ []), length-append x [])

pub place_is : (f : Flat) → place f
    ≡ width f.language + width f.extlangs + width f.script + width f.region + width f.variants
    + width f.extension
    + width f.private
place_is f =
    omega (
      arith,
      width-append f.language
          (f.extlangs ++ (f.script ++ (f.region ++ (f.variants ++ (f.extension ++ f.private))))),
      width-append f.extlangs
          (f.script ++ (f.region ++ (f.variants ++ (f.extension ++ f.private)))),
      width-append f.script (f.region ++ (f.variants ++ (f.extension ++ f.private))),
      width-append f.region (f.variants ++ (f.extension ++ f.private)),
      width-append f.variants (f.extension ++ f.private),
      width-append f.extension f.private,
    )

empty-width : (ps : List (List ℕ)) → ps ≡ [] → width ps ≡ 0
empty-width ps e = ap width e

same_ends : (e f : Ends) → e.language ≡ f.language → e.extlang ≡ f.extlang → e.script ≡ f.script
    → e.region ≡ f.region
    → e.variant ≡ f.variant → e.extension ≡ f.extension → e ≡ f
same_ends e f a b c d g h = λ i. record {
  language = a i;
  extlang = b i;
  script = c i;
  region = d i;
  variant = g i;
  extension = h i;
}

-- one more piece: where the next begins
pub place-grown : (s : Stage) (f : Flat) (x : List ℕ) → NoneBehind s f
    → place (grown s f x) ≡ place f + length x + 1
place-grown Start f x h = absurd h
place-grown LongLanguage f x h =
    omega (arith, place_is f, place_is (grown LongLanguage f x), width_more f.language x)
place-grown (Extlangs zero) f x h =
    omega (arith, place_is f, place_is (grown (Extlangs zero) f x), width_more f.language x)
place-grown (Extlangs (suc k)) f x h =
    omega (arith, place_is f, place_is (grown (Extlangs (suc k)) f x), width_more f.extlangs x)
place-grown Script f x h =
    omega (arith, place_is f, place_is (grown Script f x), width_more f.script x)
place-grown Region f x h =
    omega (arith, place_is f, place_is (grown Region f x), width_more f.region x)
place-grown Variant f x h =
    omega (arith, place_is f, place_is (grown Variant f x), width_more f.variants x)
place-grown Singleton f x h =
    omega (arith, place_is f, place_is (grown Singleton f x), width_more f.extension x)
place-grown Extension f x h =
    omega (arith, place_is f, place_is (grown Extension f x), width_more f.extension x)
place-grown X f x h = omega (arith, place_is f, place_is (grown X f x), width_more f.private x)
place-grown Private f x h =
    omega (arith, place_is f, place_is (grown Private f x), width_more f.private x)

-- where the sections end
module _ (f : Flat) (x : List ℕ) where
  ends-language : (f.language ≡ []) × NoneBehindLanguage f
      → ends_of (record f { language = f.language ++ (x ∷ []) })
      ≡ record {
        language = place f + length x;
        extlang = place f + length x;
        script = place f + length x;
        region = place f + length x;
        variant = place f + length x;
        extension = place f + length x;
      }
  ends-language h =
      let l = empty-width f.language h.0 in
      let a = empty-width f.extlangs h.1.0 in
      let b = empty-width f.script h.1.1.0 in
      let c = empty-width f.region h.1.1.1.0 in
      let d = empty-width f.variants h.1.1.1.1.0 in
      let e = empty-width f.extension h.1.1.1.1.1.0 in
      let p = empty-width f.private h.1.1.1.1.1.1 in
      let is = place_is f in
      let more = width_more f.language x in
      same_ends _ _ (omega arith) (omega arith) (omega arith) (omega arith)
      (omega arith) (omega arith)

  ends-extlangs : NoneBehindExtlangs f
      → ends_of (record f { extlangs = f.extlangs ++ (x ∷ []) })
      ≡ record (ends_of f) {
        extlang = place f + length x;
        script = place f + length x;
        region = place f + length x;
        variant = place f + length x;
        extension = place f + length x;
      }
  ends-extlangs h =
      let b = empty-width f.script h.0 in
      let c = empty-width f.region h.1.0 in
      let d = empty-width f.variants h.1.1.0 in
      let e = empty-width f.extension h.1.1.1.0 in
      let p = empty-width f.private h.1.1.1.1 in
      let is = place_is f in
      let more = width_more f.extlangs x in
      same_ends _ _ refl (omega arith) (omega arith) (omega arith) (omega arith) (omega arith)

  ends-script : NoneBehindScript f
      → ends_of (record f { script = f.script ++ (x ∷ []) })
      ≡ record (ends_of f) {
        script = place f + length x;
        region = place f + length x;
        variant = place f + length x;
        extension = place f + length x;
      }
  ends-script h =
      let c = empty-width f.region h.0 in
      let d = empty-width f.variants h.1.0 in
      let e = empty-width f.extension h.1.1.0 in
      let p = empty-width f.private h.1.1.1 in
      let is = place_is f in
      let more = width_more f.script x in
      same_ends _ _ refl refl (omega arith) (omega arith) (omega arith) (omega arith)

  ends-region : NoneBehindRegion f
      → ends_of (record f { region = f.region ++ (x ∷ []) })
      ≡ record (ends_of f) {
        region = place f + length x;
        variant = place f + length x;
        extension = place f + length x;
      }
  ends-region h =
      let d = empty-width f.variants h.0 in
      let e = empty-width f.extension h.1.0 in
      let p = empty-width f.private h.1.1 in
      let is = place_is f in
      let more = width_more f.region x in
      same_ends _ _ refl refl refl (omega arith) (omega arith) (omega arith)

  ends-variants : NoneBehindVariants f
      → ends_of (record f { variants = f.variants ++ (x ∷ []) })
      ≡ record (ends_of f) { variant = place f + length x; extension = place f + length x }
  ends-variants h =
      let e = empty-width f.extension h.0 in
      let p = empty-width f.private h.1 in
      let is = place_is f in
      let more = width_more f.variants x in
      same_ends _ _ refl refl refl refl (omega arith) (omega arith)

  ends-extension : NonePrivate f
      → ends_of (record f { extension = f.extension ++ (x ∷ []) })
      ≡ record (ends_of f) { extension = place f + length x }
  ends-extension h =
      let p = empty-width f.private h in
      let is = place_is f in
      let more = width_more f.extension x in
      same_ends _ _ refl refl refl refl refl (omega arith)

pub ends-grown : (s : Stage) (f : Flat) (x : List ℕ) → NoneBehind s f
    → ends_of (grown s f x) ≡ ends_at (ends_of f) s (place f + length x)
ends-grown Start f x h = absurd h
ends-grown LongLanguage f x h = ends-language f x h
ends-grown (Extlangs zero) f x h = ends-language f x h
ends-grown (Extlangs (suc k)) f x h = ends-extlangs f x h
ends-grown Script f x h = ends-script f x h
ends-grown Region f x h = ends-region f x h
ends-grown Variant f x h = ends-variants f x h
ends-grown Singleton f x h = ends-extension f x h
ends-grown Extension f x h = ends-extension f x h
ends-grown X f x h = refl
ends-grown Private f x h = refl

-- one more piece is the last
pub seen-grown : (s : Stage) (f : Flat) (x : List ℕ) → NoneBehind s f
    → seen (grown s f x) ≡ seen f ++ (x ∷ [])
seen-grown Start f x h = absurd h
seen-grown LongLanguage f x h =
    simp (
      append_assoc,
      append-nil,
      h.1.0,
      h.1.1.0,
      h.1.1.1.0,
      h.1.1.1.1.0,
      h.1.1.1.1.1.0,
      h.1.1.1.1.1.1,
    )
seen-grown (Extlangs zero) f x h =
    simp (
      append_assoc,
      append-nil,
      h.1.0,
      h.1.1.0,
      h.1.1.1.0,
      h.1.1.1.1.0,
      h.1.1.1.1.1.0,
      h.1.1.1.1.1.1,
    )
seen-grown (Extlangs (suc k)) f x h =
    simp (append_assoc, append-nil, h.0, h.1.0, h.1.1.0, h.1.1.1.0, h.1.1.1.1)
seen-grown Script f x h = simp (append_assoc, append-nil, h.0, h.1.0, h.1.1.0, h.1.1.1)
seen-grown Region f x h = simp (append_assoc, append-nil, h.0, h.1.0, h.1.1)
seen-grown Variant f x h = simp (append_assoc, append-nil, h.0, h.1)
seen-grown Singleton f x h = simp (append_assoc, append-nil, h)
seen-grown Extension f x h = simp (append_assoc, append-nil, h)
seen-grown X f x h = simp append_assoc
seen-grown Private f x h = simp append_assoc
