-- What the scanner refuses is the first fault of the pieces.
use Rattle.std.proofs.Common.{◌≡◌, ◌≢◌, ℕ, ◌+◌, ◌≤◌, Bool, true, false, List, [], ◌∷◌, ◌++◌, Some}
use Rattle.std.proofs.Common.{Result, Ok, Err, IfOk, IfErr, MatchResult, length, take, refl, sym}
use Rattle.std.proofs.Common.{ap, ◌∙◌, cond, arith, append_assoc, append-nil, length-append, nat_lt}
use Rattle.std.proofs.Common.{nat_le, subst, map}
use Rattle.std.specs.Prelude.{◌==◌, ◌&&◌, slice_get, slice_index}
use Rattle.std.specs.Char.{is_ascii_lowercase}
use Rattle.std.specs.List.{list_all}
use Rattle.std.specs.Str.{byte}
use Rattle.std.proofs.lemmas.Bool.Decides.{nat_tests}
use Rattle.std.proofs.lemmas.List.{take-append-le, take_all, take_at}
use Rattle.language_tags_grammar.specs.Begun.{Begun, EndsInSingleton, EndsInX}
use Rattle.language_tags_grammar.specs.Pieces.{lowercase}
use Rattle.language_tags_grammar.specs.Scan.{and_then, at_last, at_start, behind_content}
use Rattle.language_tags_grammar.specs.Scan.{behind_extlang, behind_extlangs, behind_region}
use Rattle.language_tags_grammar.specs.Scan.{behind_script, behind_singleton, behind_x, in_place}
use Rattle.language_tags_grammar.specs.Scan.{is_single, is_small_region, is_small_script, opening}
use Rattle.language_tags_grammar.specs.Scan.{scanned, stage_after}
use Rattle.language_tags_grammar.specs.Shapes.{AreParts, is_content, is_extlang, is_private}
use Rattle.language_tags_grammar.specs.Shapes.{is_variant}
use Rattle.language_tags_grammar.specs.Tag.{Parts, written}
use Rattle.language_tags_grammar.specs.TagFault.{AreBegun, IsFaultOfPieces, IsSingle, IsSized}
use Rattle.language_tags_grammar.specs.TagFault.{IsWrongAt, IsWrongBehind, at_end, at_piece}
use Rattle.language_tags_grammar.specs.declared.ends.Ends.{Ends}
use Rattle.language_tags_grammar.specs.declared.error.ParseError.{ParseError}
use Rattle.language_tags_grammar.specs.declared.error.ParseError.TheVariants.{EmptyExtension}
use Rattle.language_tags_grammar.specs.declared.error.ParseError.TheVariants.{EmptyPrivateUse}
use Rattle.language_tags_grammar.specs.declared.error.ParseError.TheVariants.{ForbiddenChar}
use Rattle.language_tags_grammar.specs.declared.error.ParseError.TheVariants.{InvalidSubtag}
use Rattle.language_tags_grammar.specs.declared.error.ParseError.TheVariants.{InvalidLanguage}
use Rattle.language_tags_grammar.specs.declared.error.ParseError.TheVariants.{SubtagTooLong}
use Rattle.language_tags_grammar.specs.declared.error.ParseError.TheVariants.{EmptySubtag}
use Rattle.language_tags_grammar.specs.declared.error.ParseError.TheVariants.{TooManyExtlangs}
use Rattle.language_tags_grammar.specs.declared.error.ParseError.TheVariants.{NoMemory}
use Rattle.language_tags_grammar.specs.declared.stage.Stage.{Stage}
use Rattle.language_tags_grammar.specs.declared.stage.Stage.TheVariants.{Start, LongLanguage}
use Rattle.language_tags_grammar.specs.declared.stage.Stage.TheVariants.{Extlangs, Script, Region}
use Rattle.language_tags_grammar.specs.declared.stage.Stage.TheVariants.{Variant, Singleton}
use Rattle.language_tags_grammar.specs.declared.stage.Stage.TheVariants.{Extension, X, Private}
use Rattle.language_tags_grammar.specs.Lemmas.Flat.{Flat, ends_of, grown, nothing, seen, seen-grown}
use Rattle.language_tags_grammar.specs.Lemmas.Holds.{Holds, HoldsExtlangs, Leads, stage_after_leads}
use Rattle.language_tags_grammar.specs.Lemmas.Forward.{rank, run, run_step}
use Rattle.language_tags_grammar.specs.Lemmas.Runs.{last, scanned_is}
use Rattle.language_tags_grammar.specs.Lemmas.PartsLaws.{flat}
use Rattle.language_tags_grammar.specs.Lemmas.Grammar.{Made, begun_passed, holds_begun, holds_made}
use Rattle.language_tags_grammar.specs.Lemmas.Grammar.{singleton_ends, singleton_passed}
use Rattle.language_tags_grammar.specs.Lemmas.Grammar.{third_passed, x_ends}

-- ---- why a piece is refused

abbrev Cause : Stage → List ℕ → ParseError → Type 0
Cause s x InvalidLanguage = s ≡ Start
Cause s x EmptyExtension = (s ≡ Singleton) × (is_single x ≡ true)
Cause s x TooManyExtlangs =
    (n : ℕ) × (s ≡ Extlangs n) × (nat_lt n 3 ≡ false) × (is_extlang x ≡ true)
Cause s x InvalidSubtag =
    (s ≢ Start) × (s ≡ Singleton → is_single x ≡ false)
    × ((n : ℕ) → s ≡ Extlangs n → is_extlang x ≡ false)
Cause s x EmptySubtag = ⊥
Cause s x SubtagTooLong = ⊥
Cause s x EmptyPrivateUse = ⊥
Cause s x ForbiddenChar = ⊥
Cause s x NoMemory = ⊥

abbrev IsInvalid : ParseError → Type 0
IsInvalid e = e ≡ InvalidSubtag

module _ (x : List ℕ) where
  opening_invalid : IfErr (opening x) IsInvalid
  opening_invalid = by (is_single x) (slice_index x 0 == byte "x")
    where
      by : (a b : Bool)
          → IfErr {T = Stage} (cond a (cond b (Ok X) (Ok Singleton)) (Err InvalidSubtag)) IsInvalid
      by true true = tt
      by true false = tt
      by false b = refl

  module _ (next : Stage) (r : Result Stage ParseError) (h : IfErr r IsInvalid) where
    invalid_behind : (b : Bool) → IfErr (cond b (Ok next) r) IsInvalid
    invalid_behind true = tt
    invalid_behind false = h

  region_invalid : IfErr (behind_region x) IsInvalid
  region_invalid = invalid_behind Variant (opening x) opening_invalid (is_variant x)

  script_invalid : IfErr (behind_script x) IsInvalid
  script_invalid = invalid_behind Region (behind_region x) region_invalid (is_small_region x)

  extlangs_invalid : IfErr (behind_extlangs x) IsInvalid
  extlangs_invalid = invalid_behind Script (behind_script x) script_invalid (is_small_script x)

  content_invalid : IfErr (behind_content x) IsInvalid
  content_invalid = invalid_behind Extension (opening x) opening_invalid (is_content x)

  x_invalid : IfErr (behind_x x) IsInvalid
  x_invalid = invalid_behind Private (Err InvalidSubtag) refl (is_private x)

  -- another stage than these three
  module _ (s : Stage) (a : s ≢ Start) (b : s ≢ Singleton) (c : (n : ℕ) → s ≢ Extlangs n) where
    elsewhere : (r : Result Stage ParseError) → IfErr r IsInvalid → IfErr r (Cause s x)
    elsewhere (Ok next) h = tt
    elsewhere (Err e) h =
        subst (Cause s x) (sym h) (a, λ e. absurd (b e), λ n e. absurd (c n e))

  start_cause : IfErr (at_start x) (Cause Start x)
  start_cause = by (nat_le 2 (length x) && list_all is_ascii_lowercase x) (nat_le (length x) 3)
    where
      by : (a b : Bool)
          → IfErr {T = Stage}
          (cond a (cond b (Ok (Extlangs 0)) (Ok LongLanguage)) (Err InvalidLanguage))
          (Cause Start x)
      by true true = tt
      by true false = tt
      by false b = refl

  singleton_cause : IfErr (behind_singleton x) (Cause Singleton x)
  singleton_cause = by (is_content x) (is_single x) refl
    where
      by : (a b : Bool) → is_single x ≡ b
          → IfErr {T = Stage}
          (cond a (Ok Extension) (cond b (Err EmptyExtension) (Err InvalidSubtag)))
          (Cause Singleton x)
      by true b e = tt
      by false true e = (refl, e)
      by false false e = (λ s. cc, λ s. e, λ n s. cc)

  extlang_cause : (n : ℕ) → IfErr (behind_extlang n x) (Cause (Extlangs n) x)
  extlang_cause n = by (is_extlang x) (nat_lt n 3) refl refl (behind_extlangs x) extlangs_invalid
    where
      by : (a b : Bool) → is_extlang x ≡ a → nat_lt n 3 ≡ b → (r : Result Stage ParseError)
          → IfErr r IsInvalid
          → IfErr (cond a (cond b (Ok (Extlangs (n + 1))) (Err TooManyExtlangs)) r)
          (Cause (Extlangs n) x)
      by true true e g r h = tt
      by true false e g r h = (n, refl, g, e)
      by false b e g (Ok next) h = tt
      by false b e g (Err fault) h =
          subst (Cause (Extlangs n) x) (sym h) (λ s. cc, λ s. cc, λ m s. e)

  in_place_cause : (s : Stage) → IfErr (in_place s x) (Cause s x)
  in_place_cause Start = start_cause
  in_place_cause LongLanguage =
      elsewhere LongLanguage (λ e. cc) (λ e. cc) (λ n e. cc) (behind_extlangs x) extlangs_invalid
  in_place_cause (Extlangs n) = extlang_cause n
  in_place_cause Script =
      elsewhere Script (λ e. cc) (λ e. cc) (λ n e. cc) (behind_script x) script_invalid
  in_place_cause Region =
      elsewhere Region (λ e. cc) (λ e. cc) (λ n e. cc) (behind_region x) region_invalid
  in_place_cause Variant =
      elsewhere Variant (λ e. cc) (λ e. cc) (λ n e. cc) (behind_region x) region_invalid
  in_place_cause Singleton = singleton_cause
  in_place_cause Extension =
      elsewhere Extension (λ e. cc) (λ e. cc) (λ n e. cc) (behind_content x) content_invalid
  in_place_cause X = elsewhere X (λ e. cc) (λ e. cc) (λ n e. cc) (behind_x x) x_invalid
  in_place_cause Private = elsewhere Private (λ e. cc) (λ e. cc) (λ n e. cc) (behind_x x) x_invalid

-- ---- and what the definition says of it

abbrev pub stage_in : Result (Stage × Flat) ParseError → Stage
stage_in (Ok r) = r.0
stage_in (Err e) = Start

single-test : (x : List ℕ) → IsSingle x → is_single x ≡ true
single-test x h = grind (arith, nat_tests, h.0, h.1)

single-fact : (x : List ℕ) → is_single x ≡ true → IsSingle x
single-fact x h = (grind (arith, nat_tests), grind (arith, nat_tests))

false-true : (b : Bool) → b ≡ true → b ≡ false → ⊥
false-true b e h = cc

module _ (s : Stage) (f : Flat) (x : List ℕ) (h : Holds s f)
    (reached : run Start nothing (seen f) ≡ Ok (s, f)) (sized : IsSized x) where
  wrong : (fault : ParseError) → Cause s x fault → IsWrongBehind (seen f) x fault
  wrong InvalidLanguage c = (sized, ap seen (subst (λ t. Holds t f) c h))
  wrong EmptyExtension c =
      (sized, (singleton_ends f (subst (λ t. Holds t f) c.0 h), single-fact x c.1))
  wrong TooManyExtlangs c =
      let e : HoldsExtlangs c.0 f = subst (λ t. Holds t f) c.1 h in
      let three : 3 ≤ c.0 = grind (arith, nat_tests, c.2) in (
        sized,
        (
          record {
            language = e.whole.head.name;
            extlangs = f.extlangs;
            is = e.whole.head.is;
            short = e.short;
            are = e.whole.head.are;
            three = omega (arith, e.count, e.whole.head.few, three);
            in_order =
                simp (
                  append-nil,
                  e.whole.head.named,
                  e.none.0,
                  e.none.1.0,
                  e.none.1.1.0,
                  e.none.1.1.1.0,
                  e.none.1.1.1.1,
                );
          },
          c.3,
        ),
      )
  wrong InvalidSubtag c = (
    sized,
    λ empty. c.0 (sym (ap stage_in (ap (run Start nothing) (sym empty) ∙ reached))),
    λ second.
        let all = singleton_passed (seen f) second.0 in
        false-true (is_single x) (single-test x second.1) (c.1 (ap stage_in (sym reached ∙ all.1))),
    λ fourth.
        let all = third_passed (seen f) fourth.0 in
        false-true (is_extlang x) fourth.1 (c.2 3 (ap stage_in (sym reached ∙ all.1))),
  )
  wrong EmptySubtag c = absurd c
  wrong SubtagTooLong c = absurd c
  wrong EmptyPrivateUse c = absurd c
  wrong ForbiddenChar c = absurd c
  wrong NoMemory c = absurd c

pub no_bytes : (x : List ℕ) → length x ≡ 0 → x ≡ []
no_bytes [] e = refl
no_bytes (c ∷ x) e = absurd (omega arith)

module _ (s : Stage) (f : Flat) (x : List ℕ) (h : Holds s f)
    (reached : run Start nothing (seen f) ≡ Ok (s, f)) where
  pub refused : IfErr (stage_after s x) (IsWrongBehind (seen f) x)
  refused = by (length x == 0) (nat_lt 8 (length x)) refl refl (in_place s x) (in_place_cause x s)
    where
      by : (a b : Bool) → (length x == 0) ≡ a → nat_lt 8 (length x) ≡ b
          → (r : Result Stage ParseError) → IfErr r (Cause s x)
          → IfErr (cond a (Err EmptySubtag) (cond b (Err SubtagTooLong) r))
          (IsWrongBehind (seen f) x)
      by true b e g r c = no_bytes x (grind (arith, nat_tests))
      by false true e g r c = grind (arith, nat_tests)
      by false false e g (Ok next) c = tt
      by false false e g (Err fault) c =
          wrong s f x h reached (grind (arith, nat_tests), grind (arith, nat_tests)) fault c

-- ---- the first piece that is refused

abbrev AllBegun : List (List ℕ) → Type 0
AllBegun ps = AreBegun ps (length ps)

begun_more : (ps : List (List ℕ)) (x : List ℕ) → AllBegun ps → Begun (ps ++ (x ∷ []))
    → AllBegun (ps ++ (x ∷ []))
begun_more ps x all one j lt = by (nat_lt j (length ps)) refl
  where
    by : (b : Bool) → nat_lt j (length ps) ≡ b → Begun (take (j + 1) (ps ++ (x ∷ [])))
    by true e =
        let less : j + 1 ≤ length ps = grind (arith, nat_tests) in
        subst Begun (sym (take-append-le (j + 1) ps (x ∷ []) less)) (all j (omega arith))
    by false e =
        let more : length ps ≤ j = grind (arith, nat_tests) in
        let full : length (ps ++ (x ∷ [])) ≤ j + 1 = omega (arith, length-append ps (x ∷ [])) in
        subst Begun (sym (take_all (j + 1) (ps ++ (x ∷ [])) full)) one

-- the scanner has come to these sections
pub record Reached (s : Stage) (f : Flat) : Type 0 where
  pub holds : Holds s f
  pub runs : (rest : List (List ℕ)) → run Start nothing (seen f ++ rest) ≡ run s f rest
  pub begun : AllBegun (seen f)

pub reached_nothing : Reached Start nothing
reached_nothing = record { holds = refl; runs = λ rest. refl; begun = λ j lt. absurd (omega arith) }

rank-grown : (s next : Stage) (f : Flat) (x : List ℕ) → Leads f x next → 1 ≤ rank next
rank-grown s Start f x h = absurd h.1
rank-grown s LongLanguage f x h = omega arith
rank-grown s (Extlangs n) f x h = omega arith
rank-grown s Script f x h = omega arith
rank-grown s Region f x h = omega arith
rank-grown s Variant f x h = omega arith
rank-grown s Singleton f x h = omega arith
rank-grown s Extension f x h = omega arith
rank-grown s X f x h = omega arith
rank-grown s Private f x h = omega arith

reached_more : (s next : Stage) (f : Flat) (x : List ℕ) → Reached s f → stage_after s x ≡ Ok next
    → Leads f x next
    → Reached next (grown next f x)
reached_more s next f x r e leads =
    let more = seen-grown next f x leads.1 in record {
      holds = leads.0;
      runs = λ rest.
          ap (run Start nothing) (ap (λ ps. ps ++ rest) more ∙ append_assoc (seen f) (x ∷ []) rest)
          ∙ r.runs (x ∷ rest)
          ∙ run_step s next f x rest e;
      begun = subst AllBegun (sym more)
          (begun_more (seen f) x r.begun
          (subst Begun more
          (holds_begun next (grown next f x) (rank-grown s next f x leads) leads.0)));
    }

-- the piece that is refused, and what stands before it
pub record Stops (ps : List (List ℕ)) (fault : ParseError) : Type 0 where
  pub stage : Stage
  pub sections : Flat
  pub reached : Reached stage sections
  pub piece : List ℕ
  pub more : List (List ℕ)
  pub cut : ps ≡ seen sections ++ (piece ∷ more)
  pub refuses : stage_after stage piece ≡ Err fault

pub record Ended (ps : List (List ℕ)) (r : Stage × Flat) : Type 0 where
  pub reached : Reached r.0 r.1
  pub all : ps ≡ seen r.1

pub outcome : (ps : List (List ℕ)) (s : Stage) (f : Flat) → Reached s f
    → MatchResult (run s f ps) (Ended (seen f ++ ps)) (Stops (seen f ++ ps))
outcome [] s f r = record { reached = r; all = append-nil (seen f) }
outcome (x ∷ ps) s f r = by (outcome ps) (stage_after s x) refl (stage_after_leads s f x r.holds)
  where
    more : (next : Stage) → Leads f x next → (q : Result (Stage × Flat) ParseError)
        → MatchResult q (Ended (seen (grown next f x) ++ ps)) (Stops (seen (grown next f x) ++ ps))
        → MatchResult q (Ended (seen f ++ (x ∷ ps))) (Stops (seen f ++ (x ∷ ps)))
    more next leads q h =
        subst (λ qs. MatchResult q (Ended qs) (Stops qs))
        (ap (λ qs. qs ++ ps) (seen-grown next f x leads.1) ∙ append_assoc (seen f) (x ∷ []) ps) h

    by : ((t : Stage) (g : Flat) → Reached t g
        → MatchResult (run t g ps) (Ended (seen g ++ ps)) (Stops (seen g ++ ps)))
        → (q : Result Stage ParseError) → stage_after s x ≡ q → IfOk q (Leads f x)
        → MatchResult (and_then (λ next. run next (grown next f x) ps) q)
        (Ended (seen f ++ (x ∷ ps))) (Stops (seen f ++ (x ∷ ps)))
    by rest (Err fault) e leads =
        record {
          stage = s;
          sections = f;
          reached = r;
          piece = x;
          more = ps;
          cut = refl;
          refuses = e;
        }
    by rest (Ok next) e leads =
        more next leads (run next (grown next f x) ps)
        (rest next (grown next f x) (reached_more s next f x r e leads))

-- ---- the scanner's answer

slice_get-at : (ps : List (List ℕ)) (x : List ℕ) (more : List (List ℕ))
    → slice_get (ps ++ (x ∷ more)) (length ps) ≡ Some x
slice_get-at [] x more = refl
slice_get-at (p ∷ ps) x more = slice_get-at ps x more

abbrev is_ok_stage : Result (Stage × Flat) ParseError → Bool
is_ok_stage (Ok r) = true
is_ok_stage (Err e) = false

module _ (ps : List (List ℕ)) (fault : ParseError) (h : Stops ps fault) where
  stops_reached : run Start nothing (seen h.sections) ≡ Ok (h.stage, h.sections)
  stops_reached = ap (run Start nothing) (sym (append-nil (seen h.sections))) ∙ h.reached.runs []

  stops_breaks : Begun (seen h.sections ++ (h.piece ∷ [])) → ⊥
  stops_breaks b =
      let p = begun_passed (seen h.sections ++ (h.piece ∷ [])) b in
      let e : run Start nothing (seen h.sections ++ (h.piece ∷ [])) ≡ Err fault =
      h.reached.runs (h.piece ∷ [])
      ∙ ap (and_then (λ next. run next (grown next h.sections h.piece) [])) h.refuses in
      let clash : true ≡ false = ap is_ok_stage (sym p.is ∙ e) in cc

  take_front : (n : ℕ) → n ≤ length (seen h.sections) → take n ps ≡ take n (seen h.sections)
  take_front n le = ap (take n) h.cut ∙ take-append-le n (seen h.sections) (h.piece ∷ h.more) le

  take_through : take (length (seen h.sections) + 1) ps ≡ seen h.sections ++ (h.piece ∷ [])
  take_through =
      ap (take (length (seen h.sections) + 1))
      (h.cut ∙ sym (append_assoc (seen h.sections) (h.piece ∷ []) h.more))
      ∙ take_at (seen h.sections ++ (h.piece ∷ [])) h.more (length (seen h.sections) + 1)
      (length-append (seen h.sections) (h.piece ∷ []))

  stops_wrong : IsWrongAt ps fault
  stops_wrong = record {
    place = length (seen h.sections);
    before = λ j lt. subst Begun (sym (take_front (j + 1) (omega arith))) (h.reached.begun j lt);
    piece = h.piece;
    piece_is = ap (λ qs. slice_get qs (length (seen h.sections))) h.cut
        ∙ slice_get-at (seen h.sections) h.piece h.more;
    breaks = λ b. stops_breaks (subst Begun take_through b);
    wrong = subst (λ qs. IsWrongBehind qs h.piece fault)
        (sym (take_front (length (seen h.sections)) (omega arith)
        ∙ take_all (length (seen h.sections)) (seen h.sections) (omega arith)))
        (subst (λ q. IfErr q (IsWrongBehind (seen h.sections) h.piece)) h.refuses
        (refused h.stage h.sections h.piece h.reached.holds stops_reached));
  }

-- the parts of the pieces, and where they end
pub record Scanned (ps : List (List ℕ)) (ends : Ends) : Type 0 where
  pub parts : Parts
  pub shapes : AreParts parts
  pub in_order : ps ≡ map lowercase (written parts)
  pub ends_are : ends ≡ ends_of (flat parts)

finished : (s : Stage) (f : Flat) (ps : List (List ℕ)) → 1 ≤ rank s → Ended ps (s, f)
    → MatchResult (at_last s (ends_of f)) (Scanned ps) (IsFaultOfPieces ps)
finished s f ps a h = by s h.reached.holds a (holds_made s f (ends_of f) a h.reached.holds)
  where
    all : AllBegun ps
    all = subst AllBegun (sym h.all) h.reached.begun

    made : (e : Ends) → Made f × (e ≡ ends_of f) → Scanned ps e
    made e m = record {
      parts = m.0.parts;
      shapes = m.0.shapes;
      in_order = h.all ∙ m.0.in_order;
      ends_are = m.1 ∙ ap ends_of (sym m.0.sections);
    }

    by : (t : Stage) → Holds t f → 1 ≤ rank t
        → IfOk (at_last t (ends_of f)) (λ e. Made f × (e ≡ ends_of f))
        → MatchResult (at_last t (ends_of f)) (Scanned ps) (IsFaultOfPieces ps)
    by Start g b m = absurd (omega arith)
    by LongLanguage g b m = made (ends_of f) m
    by (Extlangs n) g b m = made (ends_of f) m
    by Script g b m = made (ends_of f) m
    by Region g b m = made (ends_of f) m
    by Variant g b m = made (ends_of f) m
    by Singleton g b m = at_end all (subst EndsInSingleton (sym h.all) (singleton_ends f g))
    by Extension g b m = made (ends_of f) m
    by X g b m = at_end all (subst EndsInX (sym h.all) (x_ends f g))
    by Private g b m = made (ends_of f) m

some_stage : (s : Stage) (f : Flat) → Holds s f → 1 ≤ length (seen f) → 1 ≤ rank s
some_stage Start f h some = absurd (omega (arith, ap (λ g. length (seen g)) h))
some_stage LongLanguage f h some = omega arith
some_stage (Extlangs n) f h some = omega arith
some_stage Script f h some = omega arith
some_stage Region f h some = omega arith
some_stage Variant f h some = omega arith
some_stage Singleton f h some = omega arith
some_stage Extension f h some = omega arith
some_stage X f h some = omega arith
some_stage Private f h some = omega arith

-- the scanner answers where the parts end, or the fault of the pieces
pub scanned_law : (ps : List (List ℕ)) → 1 ≤ length ps
    → MatchResult (scanned ps) (Scanned ps) (IsFaultOfPieces ps)
scanned_law ps some =
    subst (λ q. MatchResult q (Scanned ps) (IsFaultOfPieces ps)) (sym (scanned_is ps))
    (by (run Start nothing ps) (outcome ps Start nothing reached_nothing))
  where
    by : (q : Result (Stage × Flat) ParseError) → MatchResult q (Ended ps) (Stops ps)
        → MatchResult (and_then last q) (Scanned ps) (IsFaultOfPieces ps)
    by (Err fault) h = at_piece (stops_wrong ps fault h)
    by (Ok r) h =
        finished r.0 r.1 ps
        (some_stage r.0 r.1 h.reached.holds (subst (λ qs. 1 ≤ length qs) h.all some)) h
