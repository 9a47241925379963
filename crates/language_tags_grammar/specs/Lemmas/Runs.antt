-- The scanner passes whole sections, and what it answers is what the passed pieces say.
use Rattle.std.proofs.Common.{◌≡◌, ℕ, suc, ◌+◌, ◌≤◌, Bool, true, false, ◌⊎◌, inl, inr, List, []}
use Rattle.std.proofs.Common.{◌∷◌, ◌++◌, Option, Some, None, Result, Ok, Err, IfOk, length, refl}
use Rattle.std.proofs.Common.{sym, ap, ◌∙◌, cond, arith, append_assoc, append-nil, nat_le, subst}
use Rattle.std.specs.Prelude.{◌&&◌, IfSome}
use Rattle.std.specs.Char.{is_ascii_lowercase}
use Rattle.std.specs.List.{AllByRecursion, flat_map, list_all}
use Rattle.std.proofs.lemmas.Bool.Decides.{nat_tests}
use Rattle.language_tags_grammar.specs.Scan.{and_then, at_last, at_start, ends_at, is_small_region}
use Rattle.language_tags_grammar.specs.Scan.{is_small_script, scanned, scanned_from, stage_after}
use Rattle.language_tags_grammar.specs.Shapes.{IsExtension, is_content, is_extlang, is_language}
use Rattle.language_tags_grammar.specs.Shapes.{is_private, is_variant}
use Rattle.language_tags_grammar.specs.Tag.{Extension as Run, at_most_one, extension_pieces}
use Rattle.language_tags_grammar.specs.declared.ends.Ends.{Ends}
use Rattle.language_tags_grammar.specs.declared.error.ParseError.{ParseError}
use Rattle.language_tags_grammar.specs.declared.error.ParseError.TheVariants.{InvalidLanguage}
use Rattle.language_tags_grammar.specs.declared.stage.Stage.{Stage}
use Rattle.language_tags_grammar.specs.declared.stage.Stage.TheVariants.{Start, LongLanguage}
use Rattle.language_tags_grammar.specs.declared.stage.Stage.TheVariants.{Extlangs, Script, Region}
use Rattle.language_tags_grammar.specs.declared.stage.Stage.TheVariants.{Variant, Singleton}
use Rattle.language_tags_grammar.specs.declared.stage.Stage.TheVariants.{Extension, Private}
use Rattle.language_tags_grammar.specs.Lemmas.Flat.{Flat, ends-grown, ends_of, grown, nothing}
use Rattle.language_tags_grammar.specs.Lemmas.Flat.{place, place-grown, seen, seen-grown}
use Rattle.language_tags_grammar.specs.Lemmas.Holds.{Holds, Leads, stage_after_leads}
use Rattle.language_tags_grammar.specs.Lemmas.Forward.{rank, run, run_step, sized, to_content}
use Rattle.language_tags_grammar.specs.Lemmas.Forward.{to_extlang, to_private, to_region, to_script}
use Rattle.language_tags_grammar.specs.Lemmas.Forward.{to_singleton, to_variant}

-- pieces lead to a stage in these bounds and to sections, whatever follows
pub record Passes (low high : ℕ) (s : Stage) (f : Flat) (ps : List (List ℕ)) (g : Flat) :
    Type 0 where
  pub stage : Stage
  pub above : low ≤ rank stage
  pub below : rank stage ≤ high
  pub runs : (rest : List (List ℕ)) → run s f (ps ++ rest) ≡ run stage g rest

-- one passage, and then another
pub passes_both : (a b c d : ℕ) (s : Stage) (f g h : Flat) (ps qs : List (List ℕ))
    (p : Passes a b s f ps g)
    → Passes c d p.stage g qs h → Passes c d s f (ps ++ qs) h
passes_both a b c d s f g h ps qs p q = record {
  stage = q.stage;
  above = q.above;
  below = q.below;
  runs = λ rest. ap (run s f) (append_assoc ps qs rest) ∙ p.runs (qs ++ rest) ∙ q.runs rest;
}

pub pass_nothing : (low high : ℕ) (s : Stage) (f g : Flat) → low ≤ rank s → rank s ≤ high → f ≡ g
    → Passes low high s f [] g
pass_nothing low high s f g a b e =
    record { stage = s; above = a; below = b; runs = λ rest. ap (λ h. run s h rest) e }

pass_one : (low high : ℕ) (s next : Stage) (f : Flat) (x : List ℕ) → stage_after s x ≡ Ok next
    → low ≤ rank next
    → rank next ≤ high → Passes low high s f (x ∷ []) (grown next f x)
pass_one low high s next f x e a b =
    record { stage = next; above = a; below = b; runs = λ rest. run_step s next f x rest e }

-- one piece, and then others
pub pass_more : (low high : ℕ) (s next : Stage) (f : Flat) (x : List ℕ) (ps : List (List ℕ))
    (g : Flat) → stage_after s x ≡ Ok next
    → Passes low high next (grown next f x) ps g → Passes low high s f (x ∷ ps) g
pass_more low high s next f x ps g e p = record {
  stage = p.stage;
  above = p.above;
  below = p.below;
  runs = λ rest. run_step s next f x (ps ++ rest) e ∙ p.runs rest;
}

-- the same sections, with other pieces in one of them
abbrev pub with_extlangs : Flat → List (List ℕ) → Flat
with_extlangs f ps = record f { extlangs = ps }

abbrev pub with_script : Flat → List (List ℕ) → Flat
with_script f ps = record f { script = ps }

abbrev pub with_region : Flat → List (List ℕ) → Flat
with_region f ps = record f { region = ps }

abbrev pub with_variants : Flat → List (List ℕ) → Flat
with_variants f ps = record f { variants = ps }

abbrev pub with_extension : Flat → List (List ℕ) → Flat
with_extension f ps = record f { extension = ps }

abbrev pub with_private : Flat → List (List ℕ) → Flat
with_private f ps = record f { private = ps }

abbrev pub only : List ℕ → Flat
only l = record nothing { language = l ∷ [] }

-- ---- sections

head-true : (a b : Bool) → (a && b) ≡ true → a ≡ true
head-true a b e = grind (arith, nat_tests)

tail-true : (a b : Bool) → (a && b) ≡ true → b ≡ true
tail-true a b e = grind (arith, nat_tests)

-- the stage behind a language
abbrev pub named : List ℕ → Stage
named l = cond (nat_le (length l) 3) (Extlangs 0) LongLanguage

pub pass_language : (l : List ℕ) → is_language l ≡ true → (rest : List (List ℕ))
    → run Start nothing (l ∷ rest) ≡ run (named l) (only l) rest
pass_language l e rest =
    run_step Start (named l) nothing l rest
    (sized Start l (grind (arith, nat_tests)) (grind (arith, nat_tests)) ∙ first)
    ∙ by (nat_le (length l) 3)
  where
    first : at_start l ≡ Ok (named l)
    first =
        let both : (nat_le 2 (length l) && list_all is_ascii_lowercase l) ≡ true =
        grind (arith, nat_tests) in
        ap
        (λ b. cond b (cond (nat_le (length l) 3) (Ok (Extlangs 0)) (Ok LongLanguage))
        (Err InvalidLanguage)) both
        ∙ choice (nat_le (length l) 3)
      where
        choice : (b : Bool)
            → cond {A = Result Stage ParseError} b (Ok (Extlangs 0)) (Ok LongLanguage)
            ≡ Ok (cond b (Extlangs 0) LongLanguage)
        choice true = refl
        choice false = refl

    by : (b : Bool)
        → run (cond b (Extlangs 0) LongLanguage)
        (grown (cond b (Extlangs 0) LongLanguage) nothing l) rest
        ≡ run (cond b (Extlangs 0) LongLanguage) (only l) rest
    by true = refl
    by false = refl

pub run_extlangs : (es : List (List ℕ)) (n : ℕ) (f : Flat) → list_all is_extlang es ≡ true
    → n + length es ≤ 3
    → (rest : List (List ℕ))
    → run (Extlangs n) f (es ++ rest)
    ≡ run (Extlangs (n + length es)) (with_extlangs f (f.extlangs ++ es)) rest
run_extlangs [] n f e few rest =
    (λ i. run (Extlangs (add-zero' n i)) (with_extlangs f (sym (append-nil f.extlangs) i)) rest)
  where
    add-zero' : (n : ℕ) → n ≡ n + 0
    add-zero' n = omega arith
run_extlangs (x ∷ es) n f e few rest =
    run_step (Extlangs n) (Extlangs (suc n)) f x (es ++ rest)
    (to_extlang x n (head-true (is_extlang x) (list_all is_extlang es) e) (omega arith))
    ∙ run_extlangs es (suc n) (with_extlangs f (f.extlangs ++ (x ∷ [])))
    (tail-true (is_extlang x) (list_all is_extlang es) e) (omega arith) rest
    ∙ (λ i. run (Extlangs (shift i)) (with_extlangs f (append_assoc f.extlangs (x ∷ []) es i)) rest)
  where
    shift : suc n + length es ≡ n + length (x ∷ es)
    shift = omega arith

pub pass_extlangs : (l : List ℕ) (es : List (List ℕ)) → list_all is_extlang es ≡ true
    → length es ≤ 3
    → (es ≡ []) ⊎ (length l ≤ 3) → Passes 1 1 (named l) (only l) es (with_extlangs (only l) es)
pass_extlangs l es e few (inl none) =
    by (nat_le (length l) 3)
  where
    by : (b : Bool)
        → Passes 1 1 (cond b (Extlangs 0) LongLanguage) (only l) es (with_extlangs (only l) es)
    by true =
        rw none (pass_nothing 1 1 (Extlangs 0) (only l) (only l) (omega arith) (omega arith) refl)
    by false =
        rw none (pass_nothing 1 1 LongLanguage (only l) (only l) (omega arith) (omega arith) refl)
pass_extlangs l es e few (inr short) =
    let is : nat_le (length l) 3 ≡ true = grind (arith, nat_tests) in
    subst
    (λ b. Passes 1 1 (cond b (Extlangs 0) LongLanguage) (only l) es (with_extlangs (only l) es))
    (sym is) (record {
      stage = Extlangs (0 + length es);
      above = omega arith;
      below = omega arith;
      runs = run_extlangs es 0 (only l) e (omega arith);
    })

pub pass_script : (s : Stage) (f : Flat) (o : Option (List ℕ)) → f.script ≡ []
    → 1 ≤ rank s → rank s ≤ 1
    → IfSome o (λ x. is_small_script x ≡ true)
    → Passes 1 2 s f (at_most_one o) (with_script f (at_most_one o))
pass_script s f None none a b e =
    pass_nothing 1 2 s f (with_script f []) a (omega arith) (ap (with_script f) none)
pass_script s f (Some x) none a b e =
    subst (λ ps. Passes 1 2 s f (x ∷ []) (with_script f (ps ++ (x ∷ [])))) none
    (pass_one 1 2 s Script f x (to_script x e s a b) (omega arith) (omega arith))

pub pass_region : (s : Stage) (f : Flat) (o : Option (List ℕ)) → f.region ≡ []
    → 1 ≤ rank s → rank s ≤ 2
    → IfSome o (λ x. is_small_region x ≡ true)
    → Passes 1 3 s f (at_most_one o) (with_region f (at_most_one o))
pass_region s f None none a b e =
    pass_nothing 1 3 s f (with_region f []) a (omega arith) (ap (with_region f) none)
pass_region s f (Some x) none a b e =
    subst (λ ps. Passes 1 3 s f (x ∷ []) (with_region f (ps ++ (x ∷ [])))) none
    (pass_one 1 3 s Region f x (to_region x e s a b) (omega arith) (omega arith))

pub pass_variants : (vs : List (List ℕ)) (s : Stage) (f : Flat) → 1 ≤ rank s → rank s ≤ 4
    → list_all is_variant vs ≡ true
    → Passes 1 4 s f vs (with_variants f (f.variants ++ vs))
pass_variants [] s f a b e =
    pass_nothing 1 4 s f (with_variants f (f.variants ++ [])) a b
    (ap (with_variants f) (sym (append-nil f.variants)))
pass_variants (x ∷ vs) s f a b e =
    let rest =
    pass_variants vs Variant (with_variants f (f.variants ++ (x ∷ []))) (omega arith)
    (omega arith) (tail-true (is_variant x) (list_all is_variant vs) e) in
    subst (λ ps. Passes 1 4 s f (x ∷ vs) (with_variants f ps)) (append_assoc f.variants (x ∷ []) vs)
    (pass_more 1 4 s Variant f x vs _
    (to_variant x (head-true (is_variant x) (list_all is_variant vs) e) s a b) rest)

pub pass_content : (xs : List (List ℕ)) (s : Stage) (f : Flat) → 5 ≤ rank s → rank s ≤ 6
    → (rank s ≡ 5) ⊎ (1 ≤ length xs)
    → list_all is_content xs ≡ true → Passes 5 5 s f xs (with_extension f (f.extension ++ xs))
pass_content [] s f a b (inl five) e =
    pass_nothing 5 5 s f (with_extension f (f.extension ++ [])) a (omega arith)
    (ap (with_extension f) (sym (append-nil f.extension)))
pass_content [] s f a b (inr some) e = absurd (omega arith)
pass_content (x ∷ xs) s f a b some e =
    let rest = pass_content xs Extension (with_extension f (f.extension ++ (x ∷ []))) (omega arith)
    (omega arith) (inl refl) (tail-true (is_content x) (list_all is_content xs) e) in
    subst (λ ps. Passes 5 5 s f (x ∷ xs) (with_extension f ps))
    (append_assoc f.extension (x ∷ []) xs)
    (pass_more 5 5 s Extension f x xs _
    (to_content x (head-true (is_content x) (list_all is_content xs) e) s a b) rest)

pub pass_run : (r : Run) (s : Stage) (f : Flat) → 1 ≤ rank s → rank s ≤ 5 → IsExtension r
    → Passes 5 5 s f (extension_pieces r) (with_extension f (f.extension ++ extension_pieces r))
pass_run r s f a b is =
    let c = r.singleton in
    let rest =
    pass_content r.content Singleton (with_extension f (f.extension ++ ((c ∷ []) ∷ [])))
    (omega arith) (omega arith) (inr is.some) is.content in
    subst (λ ps. Passes 5 5 s f (extension_pieces r) (with_extension f ps))
    (append_assoc f.extension ((c ∷ []) ∷ []) r.content)
    (pass_more 5 5 s Singleton f (c ∷ []) r.content _ (to_singleton c is.singleton s a b) rest)

pub pass_runs : (rs : List Run) (s : Stage) (f : Flat) → 1 ≤ rank s → rank s ≤ 5
    → AllByRecursion IsExtension rs
    → Passes 1 5 s f (flat_map extension_pieces rs)
    (with_extension f (f.extension ++ flat_map extension_pieces rs))
pass_runs [] s f a b e =
    pass_nothing 1 5 s f (with_extension f (f.extension ++ [])) a b
    (ap (with_extension f) (sym (append-nil f.extension)))
pass_runs (r ∷ rs) s f a b e =
    let first = pass_run r s f a b e.0 in
    let rest =
    pass_runs rs first.stage (with_extension f (f.extension ++ extension_pieces r))
    (omega (arith, first.above)) first.below e.1 in
    subst
    (λ ps. Passes 1 5 s f (extension_pieces r ++ flat_map extension_pieces rs)
    (with_extension f ps))
    (append_assoc f.extension (extension_pieces r) (flat_map extension_pieces rs))
    (passes_both 5 5 1 5 s f _ _ (extension_pieces r) (flat_map extension_pieces rs) first rest)

pub pass_private : (ps : List (List ℕ)) (s : Stage) (f : Flat) → 7 ≤ rank s
    → (rank s ≡ 8) ⊎ (1 ≤ length ps)
    → list_all is_private ps ≡ true → rank s ≤ 8
    → Passes 8 8 s f ps (with_private f (f.private ++ ps))
pass_private [] s f a (inl eight) e b =
    pass_nothing 8 8 s f (with_private f (f.private ++ [])) (omega arith) (omega arith)
    (ap (with_private f) (sym (append-nil f.private)))
pass_private [] s f a (inr some) e b = absurd (omega arith)
pass_private (x ∷ ps) s f a some e b =
    let rest = pass_private ps Private (with_private f (f.private ++ (x ∷ []))) (omega arith)
    (inl refl) (tail-true (is_private x) (list_all is_private ps) e) (omega arith) in
    subst (λ qs. Passes 8 8 s f (x ∷ ps) (with_private f qs)) (append_assoc f.private (x ∷ []) ps)
    (pass_more 8 8 s Private f x ps _
    (to_private x (head-true (is_private x) (list_all is_private ps) e) s a) rest)

-- ---- the scanner's answer

abbrev pub last : Stage × Flat → Result Ends ParseError
last r = at_last r.0 (ends_of r.1)

pub scanned-run : (ps : List (List ℕ)) (s : Stage) (f : Flat) → Holds s f
    → scanned_from s (place f) (ends_of f) ps ≡ and_then last (run s f ps)
scanned-run [] s f h = refl
scanned-run (x ∷ ps) s f h = by (scanned-run ps) (stage_after s x) (stage_after_leads s f x h)
  where
    by : ((t : Stage) (g : Flat) → Holds t g
        → scanned_from t (place g) (ends_of g) ps ≡ and_then last (run t g ps))
        → (r : Result Stage ParseError) → IfOk r (Leads f x)
        → and_then
        (λ next. scanned_from next (place f + length x + 1)
        (ends_at (ends_of f) next (place f + length x)) ps) r
        ≡ and_then last (and_then (λ next. run next (grown next f x) ps) r)
    by rest (Err fault) leads = refl
    by rest (Ok next) leads =
        (λ i. scanned_from next (sym (place-grown next f x leads.1) i)
        (sym (ends-grown next f x leads.1) i) ps)
        ∙ rest next (grown next f x) leads.0

pub scanned_is : (ps : List (List ℕ)) → scanned ps ≡ and_then last (run Start nothing ps)
scanned_is ps = scanned-run ps Start nothing refl

-- what the scanner has passed
pub record Passed (f : Flat) (ps : List (List ℕ)) (r : Stage × Flat) : Type 0 where
  pub holds : Holds r.0 r.1
  pub all : seen r.1 ≡ seen f ++ ps

pub run_passed : (ps : List (List ℕ)) (s : Stage) (f : Flat) → Holds s f
    → IfOk (run s f ps) (Passed f ps)
run_passed [] s f h = record { holds = h; all = sym (append-nil (seen f)) }
run_passed (x ∷ ps) s f h = by (run_passed ps) (stage_after s x) (stage_after_leads s f x h)
  where
    more : (next : Stage) → Leads f x next → (r : Result (Stage × Flat) ParseError)
        → IfOk r (Passed (grown next f x) ps)
        → IfOk r (Passed f (x ∷ ps))
    more next leads (Err fault) h = tt
    more next leads (Ok r) h = record {
      holds = h.holds;
      all = h.all ∙ ap (λ qs. qs ++ ps) (seen-grown next f x leads.1)
          ∙ append_assoc (seen f) (x ∷ []) ps;
    }

    by : ((t : Stage) (g : Flat) → Holds t g → IfOk (run t g ps) (Passed g ps))
        → (r : Result Stage ParseError) → IfOk r (Leads f x)
        → IfOk (and_then (λ next. run next (grown next f x) ps) r) (Passed f (x ∷ ps))
    by rest (Err fault) leads = tt
    by rest (Ok next) leads =
        more next leads (run next (grown next f x) ps) (rest next (grown next f x) leads.0)
