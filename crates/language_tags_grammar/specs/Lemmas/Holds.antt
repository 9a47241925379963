-- What the scanner's stage says of the pieces so far, and that each step keeps it.
use Rattle.std.proofs.Common.{◌≡◌, ℕ, ◌+◌, ◌<◌, ◌≤◌, Bool, true, false, ◌⊎◌, inl, inr, List, []}
use Rattle.std.proofs.Common.{◌∷◌, ◌++◌, Option, Some, None, Ok, Err, IfOk, IfSome, length, refl}
use Rattle.std.proofs.Common.{sym, ap, ◌∙◌, cond, arith, add-one, append_assoc, append-nil}
use Rattle.std.proofs.Common.{length-append, nat_lt, nat_le, subst}
use Rattle.std.specs.Prelude.{◌==◌, ◌&&◌, not, slice_index}
use Rattle.std.specs.Char.{is_ascii_lowercase}
use Rattle.std.specs.List.{AllByRecursion, flat_map, list_all}
use Rattle.std.specs.Str.{byte}
use Rattle.std.proofs.lemmas.Bool.Decides.{nat_tests}
use Rattle.language_tags_grammar.specs.Scan.{at_start, behind_content, behind_extlang}
use Rattle.language_tags_grammar.specs.Scan.{behind_extlangs, behind_region, behind_script}
use Rattle.language_tags_grammar.specs.Scan.{behind_singleton, behind_x, in_place, is_single}
use Rattle.language_tags_grammar.specs.Scan.{is_small_region, is_small_script, opening, stage_after}
use Rattle.language_tags_grammar.specs.Shapes.{IsExtension, is_content, is_extlang, is_language}
use Rattle.language_tags_grammar.specs.Shapes.{is_private, is_singleton, is_small, is_variant}
use Rattle.language_tags_grammar.specs.Tag.{Extension as Run, at_most_one, extension_pieces}
use Rattle.language_tags_grammar.specs.declared.error.ParseError.{ParseError}
use Rattle.language_tags_grammar.specs.declared.error.ParseError.TheVariants.{EmptyExtension}
use Rattle.language_tags_grammar.specs.declared.error.ParseError.TheVariants.{InvalidSubtag}
use Rattle.language_tags_grammar.specs.declared.error.ParseError.TheVariants.{InvalidLanguage}
use Rattle.language_tags_grammar.specs.declared.error.ParseError.TheVariants.{SubtagTooLong}
use Rattle.language_tags_grammar.specs.declared.error.ParseError.TheVariants.{EmptySubtag}
use Rattle.language_tags_grammar.specs.declared.error.ParseError.TheVariants.{TooManyExtlangs}
use Rattle.language_tags_grammar.specs.declared.stage.Stage.{Stage}
use Rattle.language_tags_grammar.specs.declared.stage.Stage.TheVariants.{Start, LongLanguage}
use Rattle.language_tags_grammar.specs.declared.stage.Stage.TheVariants.{Extlangs, Script, Region}
use Rattle.language_tags_grammar.specs.declared.stage.Stage.TheVariants.{Variant, Singleton}
use Rattle.language_tags_grammar.specs.declared.stage.Stage.TheVariants.{Extension, X, Private}
use Rattle.language_tags_grammar.specs.Lemmas.Flat.{Flat, NoneBehind, NoneBehindExtlangs}
use Rattle.language_tags_grammar.specs.Lemmas.Flat.{NoneBehindLanguage, NoneBehindRegion}
use Rattle.language_tags_grammar.specs.Lemmas.Flat.{NoneBehindScript, NoneBehindVariants}
use Rattle.language_tags_grammar.specs.Lemmas.Flat.{NonePrivate, grown, nothing}

-- the language and its extlangs
pub record Head (language extlangs : List (List ℕ)) : Type 0 where
  pub name : List ℕ
  pub named : language ≡ name ∷ []
  pub is : is_language name ≡ true
  pub are : list_all is_extlang extlangs ≡ true
  pub few : length extlangs ≤ 3
  pub short : (extlangs ≡ []) ⊎ (length name ≤ 3)

-- the pieces, with others in the section of the extensions
abbrev pub with_extension : Flat → List (List ℕ) → Flat
with_extension f ps = record f { extension = ps }

-- one piece that passes a test, or none
pub record AtMostOne (test : List ℕ → Bool) (ps : List (List ℕ)) : Type 0 where
  pub piece : Option (List ℕ)
  pub are : ps ≡ at_most_one piece
  pub is : IfSome piece (λ p. test p ≡ true)

-- extensions
pub record Runs (ps : List (List ℕ)) : Type 0 where
  pub extensions : List Run
  pub are : ps ≡ flat_map extension_pieces extensions
  pub each : AllByRecursion IsExtension extensions

-- all sections but private use
pub record Whole (f : Flat) : Type 0 where
  pub head : Head f.language f.extlangs
  pub script : AtMostOne is_small_script f.script
  pub region : AtMostOne is_small_region f.region
  pub variants : list_all is_variant f.variants ≡ true
  pub runs : Runs f.extension

pub record HoldsExtlangs (n : ℕ) (f : Flat) : Type 0 where
  pub whole : Whole f
  pub none : NoneBehindExtlangs f
  pub count : length f.extlangs ≡ n
  pub short : length whole.head.name ≤ 3

pub record HoldsSingleton (f : Flat) : Type 0 where
  pub before : Flat
  pub whole : Whole before
  pub none : NonePrivate before
  pub singleton : ℕ
  pub is : is_singleton singleton ≡ true
  pub now : f ≡ record before { extension = before.extension ++ ((singleton ∷ []) ∷ []) }

pub record HoldsExtension (f : Flat) : Type 0 where
  pub before : Flat
  pub whole : Whole before
  pub none : NonePrivate before
  pub run : Run
  pub is : IsExtension run
  pub now : f ≡ record before { extension = before.extension ++ extension_pieces run }

pub record HoldsX (f : Flat) : Type 0 where
  pub before : Flat
  pub whole : Whole before
  pub none : NonePrivate before
  pub now : f ≡ record before { private = (byte "x" ∷ []) ∷ [] }

pub record HoldsPrivate (f : Flat) : Type 0 where
  pub before : Flat
  pub whole : Whole before
  pub none : NonePrivate before
  pub first : List ℕ
  pub more : List (List ℕ)
  pub are : list_all is_private (first ∷ more) ≡ true
  pub now : f ≡ record before { private = (byte "x" ∷ []) ∷ first ∷ more }

abbrev pub Holds : Stage → Flat → Type 0
Holds Start f = f ≡ nothing
Holds LongLanguage f = Whole f × NoneBehindLanguage f
Holds (Extlangs n) f = HoldsExtlangs n f
Holds Script f = Whole f × NoneBehindScript f
Holds Region f = Whole f × NoneBehindRegion f
Holds Variant f = Whole f × NoneBehindVariants f
Holds Singleton f = HoldsSingleton f
Holds Extension f = HoldsExtension f
Holds X f = HoldsX f
Holds Private f = HoldsPrivate f

-- a step from these pieces leads to a stage that holds of one more
abbrev pub Leads : Flat → List ℕ → Stage → Type 0
Leads f x next = Holds next (grown next f x) × NoneBehind next f

-- ---- tests of lists

pub and-intro : (a b : Bool) → a ≡ true → b ≡ true → (a && b) ≡ true
and-intro a b e h = λ i. e i && h i

pub all-more : (test : List ℕ → Bool) (ps : List (List ℕ)) (x : List ℕ) → list_all test ps ≡ true
    → test x ≡ true
    → list_all test (ps ++ (x ∷ [])) ≡ true
all-more test [] x h e = grind (arith, nat_tests)
all-more test (p ∷ ps) x h e =
    let head : test p ≡ true = grind (arith, nat_tests) in
    let tail : list_all test ps ≡ true = grind (arith, nat_tests) in
    let rest = all-more test ps x tail e in
    grind (arith, nat_tests)

pub flat_map-append : (es fs : List Run)
    → flat_map extension_pieces (es ++ fs) ≡ flat_map extension_pieces es
    ++ flat_map extension_pieces fs
flat_map-append [] fs = refl
flat_map-append (e ∷ es) fs =
    ap (λ ps. extension_pieces e ++ ps) (flat_map-append es fs)
    ∙ sym
    (append_assoc (extension_pieces e) (flat_map extension_pieces es)
    (flat_map extension_pieces fs))

pub each-append : (es fs : List Run) → AllByRecursion IsExtension es → AllByRecursion IsExtension fs
    → AllByRecursion IsExtension (es ++ fs)
each-append [] fs h g = g
each-append (e ∷ es) fs h g = (h.0, each-append es fs h.1 g)

-- one more extension
pub runs-more : (ps : List (List ℕ)) (run : Run) → Runs ps → IsExtension run
    → Runs (ps ++ extension_pieces run)
runs-more ps run r is = record {
  extensions = r.extensions ++ (run ∷ []);
  are = ap (λ qs. qs ++ extension_pieces run) r.are
      ∙ ap (λ qs. flat_map extension_pieces r.extensions ++ qs)
      (sym (append-nil (extension_pieces run)))
      ∙ sym (flat_map-append r.extensions (run ∷ []));
  each = each-append r.extensions (run ∷ []) r.each (is, tt);
}

-- a piece of one character
single_is : (x : List ℕ) → is_single x ≡ true → (c : ℕ) × (x ≡ c ∷ []) × (is_small c ≡ true)
single_is [] h = absurd (grind (arith, nat_tests))
single_is (c ∷ []) h = (c, refl, grind (arith, nat_tests))
single_is (c ∷ d ∷ x) h = absurd (grind (arith, nat_tests))

no_runs : Runs []
no_runs = record { extensions = []; are = refl; each = tt }

none_of : (test : List ℕ → Bool) → AtMostOne test []
none_of test = record { piece = None; are = refl; is = tt }

one_of : (test : List ℕ → Bool) (x : List ℕ) → test x ≡ true → AtMostOne test (x ∷ [])
one_of test x e = record { piece = Some x; are = refl; is = e }

-- an extlang is the next one
leads_next : (n : ℕ) (f : Flat) (x : List ℕ) → NoneBehindExtlangs f
    → HoldsExtlangs (n + 1) (record f { extlangs = f.extlangs ++ (x ∷ []) })
    → Leads f x (Extlangs (n + 1))
leads_next n f x none held =
    subst (Leads f x) (ap Extlangs (sym (add-one n))) (rw add-one at held, none)

-- ---- the steps, from the right

module _ (f : Flat) (x : List ℕ) where
  -- with no script, region, variants and so on
  pub opening_leads : Whole f → NonePrivate f → IfOk (opening x) (Leads f x)
  opening_leads w none = by (is_single x) refl
    where
      then : (c : ℕ) → x ≡ c ∷ [] → is_small c ≡ true → (b : Bool)
          → (slice_index x 0 == byte "x") ≡ b
          → IfOk {E = ParseError} (cond b (Ok X) (Ok Singleton)) (Leads f x)
      then c is small true e =
          let at : c ≡ byte "x" = grind (arith, nat_tests, ap (λ y. slice_index y 0) is) in (
            record {
              before = f;
              whole = w;
              none = none;
              now =
                  ap (λ ps. record f { private = ps })
                  (ap (λ ps. ps ++ (x ∷ [])) none ∙ ap (λ y. y ∷ []) (is ∙ ap (λ d. d ∷ []) at));
            },
            tt,
          )
      then c is small false e = (
        record {
          before = f;
          whole = w;
          none = none;
          singleton = c;
          is =
              (let other : (c == byte "x") ≡ false =
              ap (λ y. slice_index y 0 == byte "x") (sym is) ∙ e in
              and-intro (is_small c) (not (c == byte "x")) small (ap not other));
          now = ap (λ y. record f { extension = f.extension ++ (y ∷ []) }) is;
        },
        none,
      )

      by : (b : Bool) → is_single x ≡ b
          → IfOk {E = ParseError}
          (cond b (cond (slice_index x 0 == byte "x") (Ok X) (Ok Singleton))
          (Err InvalidSubtag)) (Leads f x)
      by true e = let s = single_is x e in then s.0 s.1 s.2 (slice_index x 0 == byte "x") refl
      by false e = tt

  pub behind_region_leads : Whole f → NoneBehindVariants f → IfOk (behind_region x) (Leads f x)
  behind_region_leads w none = by (is_variant x) refl (opening_leads w none.1)
    where
      by : (b : Bool) → is_variant x ≡ b → IfOk (opening x) (Leads f x)
          → IfOk (cond b (Ok Variant) (opening x)) (Leads f x)
      by true e rest = (
        (
          record {
            head = w.head;
            script = w.script;
            region = w.region;
            variants = all-more is_variant f.variants x w.variants e;
            runs = w.runs;
          },
          none,
        ),
        none,
      )
      by false e rest = rest

  pub behind_script_leads : Whole f → NoneBehindScript f → IfOk (behind_script x) (Leads f x)
  behind_script_leads w none = by (is_small_region x) refl (behind_region_leads w none.1.1)
    where
      by : (b : Bool) → is_small_region x ≡ b → IfOk (behind_region x) (Leads f x)
          → IfOk (cond b (Ok Region) (behind_region x)) (Leads f x)
      by true e rest = (
        (
          record {
            head = w.head;
            script = w.script;
            region =
                subst (λ ps. AtMostOne is_small_region (ps ++ (x ∷ []))) (sym none.0)
                (one_of is_small_region x e);
            variants = w.variants;
            runs = w.runs;
          },
          none.1,
        ),
        none.1,
      )
      by false e rest = rest

  pub behind_extlangs_leads : Whole f → NoneBehindExtlangs f → IfOk (behind_extlangs x) (Leads f x)
  behind_extlangs_leads w none = by (is_small_script x) refl (behind_script_leads w none.1)
    where
      by : (b : Bool) → is_small_script x ≡ b → IfOk (behind_script x) (Leads f x)
          → IfOk (cond b (Ok Script) (behind_script x)) (Leads f x)
      by true e rest = (
        (
          record {
            head = w.head;
            script =
                subst (λ ps. AtMostOne is_small_script (ps ++ (x ∷ []))) (sym none.0)
                (one_of is_small_script x e);
            region = w.region;
            variants = w.variants;
            runs = w.runs;
          },
          none.1,
        ),
        none.1,
      )
      by false e rest = rest

  pub behind_extlang_leads : (n : ℕ) → HoldsExtlangs n f → IfOk (behind_extlang n x) (Leads f x)
  behind_extlang_leads n h = by (is_extlang x) refl (behind_extlangs_leads h.whole h.none)
    where
      then : is_extlang x ≡ true → (b : Bool) → nat_lt n 3 ≡ b
          → IfOk {E = ParseError} (cond b (Ok (Extlangs (n + 1))) (Err TooManyExtlangs)) (Leads f x)
      then e true less =
          let below : n < 3 = grind (arith, nat_tests) in
          leads_next n f x h.none (record {
            whole = record {
              head = record {
                name = h.whole.head.name;
                named = h.whole.head.named;
                is = h.whole.head.is;
                are = all-more is_extlang f.extlangs x h.whole.head.are e;
                few = omega (arith, length-append f.extlangs (x ∷ []), h.count);
                short = inr h.short;
              };
              script = h.whole.script;
              region = h.whole.region;
              variants = h.whole.variants;
              runs = h.whole.runs;
            };
            none = h.none;
            count = omega (arith, length-append f.extlangs (x ∷ []), h.count);
            short = h.short;
          })
      then e false more = tt

      by : (b : Bool) → is_extlang x ≡ b → IfOk (behind_extlangs x) (Leads f x)
          → IfOk
          (cond b (cond (nat_lt n 3) (Ok (Extlangs (n + 1))) (Err TooManyExtlangs))
          (behind_extlangs x)) (Leads f x)
      by true e rest = then e (nat_lt n 3) refl
      by false e rest = rest

  pub behind_singleton_leads : HoldsSingleton f → IfOk (behind_singleton x) (Leads f x)
  behind_singleton_leads h = by (is_content x) refl
    where
      now : f ≡ record h.before { extension = h.before.extension ++ ((h.singleton ∷ []) ∷ []) }
          → record f { extension = f.extension ++ (x ∷ []) }
          ≡ record h.before { extension = h.before.extension ++ ((h.singleton ∷ []) ∷ x ∷ []) }
      now e =
          ap (λ g. grown Extension g x) e
          ∙ ap (with_extension h.before)
          (append_assoc h.before.extension ((h.singleton ∷ []) ∷ []) (x ∷ []))

      then : (b : Bool)
          → IfOk {E = ParseError} (cond b (Err EmptyExtension) (Err InvalidSubtag)) (Leads f x)
      then true = tt
      then false = tt

      by : (b : Bool) → is_content x ≡ b
          → IfOk
          (cond b (Ok Extension) (cond (is_single x) (Err EmptyExtension) (Err InvalidSubtag)))
          (Leads f x)
      by true e = (
        record {
          before = h.before;
          whole = h.whole;
          none = h.none;
          run = record { singleton = h.singleton; content = x ∷ [] };
          is =
              record {
                singleton = h.is;
                some = omega arith;
                content = and-intro (is_content x) true e refl;
              };
          now = now h.now;
        },
        ap (λ g. g.private) h.now ∙ h.none,
      )
      by false e = then (is_single x)

  -- extensions so far, as one section
  pub whole_extension : HoldsExtension f → Whole f
  whole_extension h = subst Whole (sym h.now) (record {
    head = h.whole.head;
    script = h.whole.script;
    region = h.whole.region;
    variants = h.whole.variants;
    runs = runs-more h.before.extension h.run h.whole.runs h.is;
  })

  pub behind_content_leads : HoldsExtension f → IfOk (behind_content x) (Leads f x)
  behind_content_leads h =
      by (is_content x) refl
      (opening_leads (whole_extension h) (ap (λ g. g.private) h.now ∙ h.none))
    where
      by : (b : Bool) → is_content x ≡ b → IfOk (opening x) (Leads f x)
          → IfOk (cond b (Ok Extension) (opening x)) (Leads f x)
      by true e rest = (
        record {
          before = h.before;
          whole = h.whole;
          none = h.none;
          run = record { singleton = h.run.singleton; content = h.run.content ++ (x ∷ []) };
          is = record {
            singleton = h.is.singleton;
            some = omega (arith, h.is.some, length-append h.run.content (x ∷ []));
            content = all-more is_content h.run.content x h.is.content e;
          };
          now = ap (λ g. grown Extension g x) h.now
              ∙ ap (with_extension h.before)
              (append_assoc h.before.extension (extension_pieces h.run) (x ∷ []));
        },
        ap (λ g. g.private) h.now ∙ h.none,
      )
      by false e rest = rest

  pub behind_x_leads : HoldsX f → IfOk (behind_x x) (Leads f x)
  behind_x_leads h = by (is_private x) refl
    where
      by : (b : Bool) → is_private x ≡ b
          → IfOk (cond b (Ok Private) (Err InvalidSubtag)) (Leads f x)
      by true e = (
        record {
          before = h.before;
          whole = h.whole;
          none = h.none;
          first = x;
          more = [];
          are = and-intro (is_private x) true e refl;
          now = ap (λ g. grown Private g x) h.now;
        },
        tt,
      )
      by false e = tt

  pub behind_private_leads : HoldsPrivate f → IfOk (behind_x x) (Leads f x)
  behind_private_leads h = by (is_private x) refl
    where
      by : (b : Bool) → is_private x ≡ b
          → IfOk (cond b (Ok Private) (Err InvalidSubtag)) (Leads f x)
      by true e = (
        record {
          before = h.before;
          whole = h.whole;
          none = h.none;
          first = h.first;
          more = h.more ++ (x ∷ []);
          are = all-more is_private (h.first ∷ h.more) x h.are e;
          now = ap (λ g. grown Private g x) h.now;
        },
        tt,
      )
      by false e = tt

-- the first piece
pub at_start_leads : (f : Flat) (x : List ℕ) → length x ≤ 8 → f ≡ nothing
    → IfOk (at_start x) (Leads f x)
at_start_leads f x small e =
    subst (λ g. IfOk (at_start x) (Leads g x)) (sym e)
    (by (nat_le 2 (length x) && list_all is_ascii_lowercase x) refl)
  where
    whole : (nat_le 2 (length x) && list_all is_ascii_lowercase x) ≡ true
        → Whole (record nothing { language = x ∷ [] })
    whole e = record {
      head = record {
        name = x;
        named = refl;
        is = grind (arith, nat_tests);
        are = refl;
        few = omega arith;
        short = inl refl;
      };
      script = none_of is_small_script;
      region = none_of is_small_region;
      variants = refl;
      runs = no_runs;
    }

    none : NoneBehindLanguage nothing
    none = (refl, (refl, (refl, (refl, (refl, refl)))))

    then : (nat_le 2 (length x) && list_all is_ascii_lowercase x) ≡ true → (b : Bool)
        → nat_le (length x) 3 ≡ b
        → IfOk {E = ParseError} (cond b (Ok (Extlangs 0)) (Ok LongLanguage)) (Leads nothing x)
    then e true short = (
      record { whole = whole e; none = none.1; count = refl; short = grind (arith, nat_tests) },
      (refl, none),
    )
    then e false long = ((whole e, none), (refl, none))

    by : (b : Bool) → (nat_le 2 (length x) && list_all is_ascii_lowercase x) ≡ b
        → IfOk
        (cond b (cond (nat_le (length x) 3) (Ok (Extlangs 0)) (Ok LongLanguage))
        (Err InvalidLanguage)) (Leads nothing x)
    by true e = then e (nat_le (length x) 3) refl
    by false e = tt

-- each step leads to a stage that holds
pub in_place_leads : (s : Stage) (f : Flat) (x : List ℕ) → length x ≤ 8 → Holds s f
    → IfOk (in_place s x) (Leads f x)
in_place_leads Start f x small h = at_start_leads f x small h
in_place_leads LongLanguage f x small h = behind_extlangs_leads f x h.0 h.1.1
in_place_leads (Extlangs n) f x small h = behind_extlang_leads f x n h
in_place_leads Script f x small h = behind_script_leads f x h.0 h.1
in_place_leads Region f x small h = behind_region_leads f x h.0 h.1.1
in_place_leads Variant f x small h = behind_region_leads f x h.0 h.1
in_place_leads Singleton f x small h = behind_singleton_leads f x h
in_place_leads Extension f x small h = behind_content_leads f x h
in_place_leads X f x small h = behind_x_leads f x h
in_place_leads Private f x small h = behind_private_leads f x h

pub stage_after_leads : (s : Stage) (f : Flat) (x : List ℕ) → Holds s f
    → IfOk (stage_after s x) (Leads f x)
stage_after_leads s f x h = by (length x == 0) (nat_lt 8 (length x)) refl
  where
    by : (a b : Bool) → nat_lt 8 (length x) ≡ b
        → IfOk (cond a (Err EmptySubtag) (cond b (Err SubtagTooLong) (in_place s x))) (Leads f x)
    by true b e = tt
    by false true e = tt
    by false false e = in_place_leads s f x (grind (arith, nat_tests)) h
