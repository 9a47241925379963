-- What the scanner passes begins a tag, and what it refuses begins none.
use Rattle.std.proofs.Common.{◌≡◌, ℕ, ◌≤◌, true, List, [], ◌∷◌, ◌++◌, Ok, IfOk, length, refl, sym}
use Rattle.std.proofs.Common.{ap, ◌∙◌, cond, arith, append-nil, nat_le, map}
use Rattle.std.specs.Str.{byte}
use Rattle.std.proofs.lemmas.Bool.Decides.{nat_tests}
use Rattle.language_tags_grammar.specs.Begun.{Begun, EndInThirdExtlang, EndsIn, EndsInSingleton}
use Rattle.language_tags_grammar.specs.Begun.{EndsInX, with_parts, with_singleton, with_x}
use Rattle.language_tags_grammar.specs.Pieces.{lowercase}
use Rattle.language_tags_grammar.specs.Scan.{at_last, stage_after}
use Rattle.language_tags_grammar.specs.Shapes.{AreParts}
use Rattle.language_tags_grammar.specs.Tag.{Parts, private_pieces, written}
use Rattle.language_tags_grammar.specs.declared.ends.Ends.{Ends}
use Rattle.language_tags_grammar.specs.declared.stage.Stage.{Stage}
use Rattle.language_tags_grammar.specs.declared.stage.Stage.TheVariants.{Start, LongLanguage}
use Rattle.language_tags_grammar.specs.declared.stage.Stage.TheVariants.{Extlangs, Script, Region}
use Rattle.language_tags_grammar.specs.declared.stage.Stage.TheVariants.{Variant, Singleton}
use Rattle.language_tags_grammar.specs.declared.stage.Stage.TheVariants.{Extension, X, Private}
use Rattle.language_tags_grammar.specs.Lemmas.Flat.{Flat, NonePrivate, grown, nothing, seen}
use Rattle.language_tags_grammar.specs.Lemmas.Flat.{seen-grown}
use Rattle.language_tags_grammar.specs.Lemmas.Holds.{Holds, HoldsPrivate, HoldsSingleton, HoldsX}
use Rattle.language_tags_grammar.specs.Lemmas.Holds.{Whole, whole_extension}
use Rattle.language_tags_grammar.specs.Lemmas.Forward.{rank, run, run_step, to_singleton, to_x}
use Rattle.language_tags_grammar.specs.Lemmas.Runs.{only, pass_language, run_extlangs}
use Rattle.language_tags_grammar.specs.Lemmas.Runs.{with_extlangs, with_private}
use Rattle.language_tags_grammar.specs.Lemmas.PartsLaws.{IsEnd, are_parts, flat, flat-parts_of}
use Rattle.language_tags_grammar.specs.Lemmas.PartsLaws.{parsed, parsed_front, parts_of}
use Rattle.language_tags_grammar.specs.Lemmas.PartsLaws.{written-lowercase}

-- ---- sections that hold begin a tag

-- the parts of sections without private use
module _ (f : Flat) (w : Whole f) (none : NonePrivate f) where
  abbrev front_parts : Parts
  front_parts = parts_of f w [] refl

  front_flat : flat front_parts ≡ f
  front_flat = flat-parts_of f w [] refl ∙ ap (with_private f) (sym none)

  front_in_order : seen f ≡ map lowercase (written front_parts)
  front_in_order = sym (written-lowercase front_parts (are_parts f w [] refl) ∙ ap seen front_flat)

  front_begun : Begun (seen f)
  front_begun = with_parts front_parts (are_parts f w [] refl) front_in_order

  front_ends : (x : List ℕ) (ps : List (List ℕ)) → ps ≡ seen f ++ (x ∷ []) → EndsIn x front_parts ps
  front_ends x ps e = record {
    shapes = are_parts f w [] refl;
    private = refl;
    in_order = e ∙ ap (λ qs. qs ++ (x ∷ [])) front_in_order;
  }

pub singleton_ends : (f : Flat) → HoldsSingleton f → EndsInSingleton (seen f)
singleton_ends f h = record {
  parts = front_parts h.before h.whole h.none;
  singleton = h.singleton;
  is = h.is;
  ends = front_ends h.before h.whole h.none (h.singleton ∷ []) (seen f)
      (ap seen h.now ∙ seen-grown Singleton h.before (h.singleton ∷ []) h.none);
}

pub x_ends : (f : Flat) → HoldsX f → EndsInX (seen f)
x_ends f h = record {
  parts = front_parts h.before h.whole h.none;
  ends = front_ends h.before h.whole h.none (byte "x" ∷ []) (seen f)
      (ap seen h.now
      ∙ ap (λ ps. seen (with_private h.before (ps ++ ((byte "x" ∷ []) ∷ [])))) (sym h.none)
      ∙ seen-grown X h.before (byte "x" ∷ []) tt);
}

-- the parts of a tag that these sections are
pub record Made (f : Flat) : Type 0 where
  pub parts : Parts
  pub shapes : AreParts parts
  pub in_order : seen f ≡ map lowercase (written parts)
  pub sections : flat parts ≡ f

front_made : (f : Flat) (w : Whole f) → NonePrivate f → Made f
front_made f w none = record {
  parts = front_parts f w none;
  shapes = are_parts f w [] refl;
  in_order = front_in_order f w none;
  sections = front_flat f w none;
}

private_made : (f : Flat) → HoldsPrivate f → Made f
private_made f h =
    let g = h.before in
    let ps = h.first ∷ h.more in
    let all = flat-parts_of g h.whole ps h.are ∙ sym h.now in record {
      parts = parts_of g h.whole ps h.are;
      shapes = are_parts g h.whole ps h.are;
      in_order =
          sym (written-lowercase (parts_of g h.whole ps h.are) (are_parts g h.whole ps h.are)
          ∙ ap seen all);
      sections = all;
    }

pub holds_begun : (s : Stage) (f : Flat) → 1 ≤ rank s → Holds s f → Begun (seen f)
holds_begun Start f a h = absurd (omega arith)
holds_begun LongLanguage f a h = front_begun f h.0 h.1.1.1.1.1.1
holds_begun (Extlangs n) f a h = front_begun f h.whole h.none.1.1.1.1
holds_begun Script f a h = front_begun f h.0 h.1.1.1.1
holds_begun Region f a h = front_begun f h.0 h.1.1.1
holds_begun Variant f a h = front_begun f h.0 h.1.1
holds_begun Singleton f a h = with_singleton (singleton_ends f h)
holds_begun Extension f a h =
    front_begun f (whole_extension f [] h) (ap (λ g. g.private) h.now ∙ h.none)
holds_begun X f a h = with_x (x_ends f h)
holds_begun Private f a h = let m = private_made f h in with_parts m.parts m.shapes m.in_order

-- the tag's parts, where the scanner ends well
pub holds_made : (s : Stage) (f : Flat) (ends : Ends) → 1 ≤ rank s → Holds s f
    → IfOk (at_last s ends) (λ e. Made f × (e ≡ ends))
holds_made Start f ends a h = absurd (omega arith)
holds_made LongLanguage f ends a h = (front_made f h.0 h.1.1.1.1.1.1, refl)
holds_made (Extlangs n) f ends a h = (front_made f h.whole h.none.1.1.1.1, refl)
holds_made Script f ends a h = (front_made f h.0 h.1.1.1.1, refl)
holds_made Region f ends a h = (front_made f h.0 h.1.1.1, refl)
holds_made Variant f ends a h = (front_made f h.0 h.1.1, refl)
holds_made Singleton f ends a h = tt
holds_made Extension f ends a h =
    (front_made f (whole_extension f [] h) (ap (λ g. g.private) h.now ∙ h.none), refl)
holds_made X f ends a h = tt
holds_made Private f ends a h = (private_made f h, refl)

-- ---- what begins a tag is passed

pub record PassedTo (ps : List (List ℕ)) : Type 0 where
  pub stage : Stage
  pub sections : Flat
  pub is : run Start nothing ps ≡ Ok (stage, sections)

pub parts_passed : (p : Parts) → AreParts p
    → (s : Stage) × IsEnd s × (run Start nothing (map lowercase (written p)) ≡ Ok (s, flat p))
parts_passed p h =
    let all = parsed p h in (
      all.stage,
      all.is_end,
      ap (run Start nothing) (written-lowercase p h ∙ sym (append-nil (seen (flat p))))
          ∙ all.runs [],
    )

private-nothing : (p : Parts) → p.private ≡ [] → flat p ≡ with_private (flat p) []
private-nothing p e = ap (λ ps. with_private (flat p) (private_pieces ps)) e

pub ends_passed : (p : Parts) (x : List ℕ) (ps : List (List ℕ)) (next : Stage) → EndsIn x p ps
    → ((s : Stage) → 1 ≤ rank s → rank s ≤ 5 → stage_after s x ≡ Ok next)
    → run Start nothing ps ≡ Ok (next, grown next (with_private (flat p) []) x)
ends_passed p x ps next h goes =
    let f = parsed_front p h.shapes in
    ap (run Start nothing)
    (h.in_order
    ∙ ap (λ qs. qs ++ (x ∷ []))
    (written-lowercase p h.shapes ∙ ap seen (private-nothing p h.private)))
    ∙ f.runs (x ∷ [])
    ∙ run_step f.stage next (with_private (flat p) []) x [] (goes f.stage f.above f.below)

pub singleton_passed : (ps : List (List ℕ)) (h : EndsInSingleton ps)
    → (f : Flat) × (run Start nothing ps ≡ Ok (Singleton, f))
singleton_passed ps h =
    (_, ends_passed h.parts (h.singleton ∷ []) ps Singleton h.ends (to_singleton h.singleton h.is))

pub x_passed : (ps : List (List ℕ)) (h : EndsInX ps)
    → (f : Flat) × (run Start nothing ps ≡ Ok (X, f))
x_passed ps h = (_, ends_passed h.parts (byte "x" ∷ []) ps X h.ends to_x)

pub begun_passed : (ps : List (List ℕ)) → Begun ps → PassedTo ps
begun_passed ps (with_parts p h e) =
    let all = parts_passed p h in
    record { stage = all.0; sections = flat p; is = ap (run Start nothing) e ∙ all.2 }
begun_passed ps (with_singleton h) =
    let all = singleton_passed ps h in record { stage = Singleton; sections = all.0; is = all.1 }
begun_passed ps (with_x h) = let all = x_passed ps h in
    record { stage = X; sections = all.0; is = all.1 }

pub third_passed : (ps : List (List ℕ)) → EndInThirdExtlang ps
    → (f : Flat) × (run Start nothing ps ≡ Ok (Extlangs 3, f))
third_passed ps h =
    let is : nat_le (length h.language) 3 ≡ true = grind (arith, nat_tests, h.short) in (
      _,
      ap (run Start nothing) h.in_order
          ∙ pass_language h.language h.is h.extlangs
          ∙ ap (λ b. run (cond b (Extlangs 0) LongLanguage) (only h.language) h.extlangs) is
          ∙ ap (run (Extlangs 0) (only h.language)) (sym (append-nil h.extlangs))
          ∙ run_extlangs h.extlangs 0 (only h.language) h.are (omega (arith, h.three)) []
          ∙ ap (λ n. Ok (Extlangs n, with_extlangs (only h.language) h.extlangs))
          (omega (arith, h.three)),
    )
