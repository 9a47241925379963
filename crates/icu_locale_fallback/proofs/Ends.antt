-- The walk ends or repeats after at most 4 p + 5 steps, where p is the number of parent
-- entries. Up to the first repeat the parent steps leave distinct keys, so there are at most p;
-- between two region steps stands a parent step, so there are at most p + 1; and only these
-- steps bring a variant back.
use Rattle.std.proofs.Common.{◌≡◌, ◌≢◌, ℕ, zero, suc, ◌+◌, ◌-◌, ◌*◌, ◌<◌, ◌≤◌, true, cond, List, []}
use Rattle.std.proofs.Common.{◌∷◌, length, Option, Some, None, is_some, refl, sym, ap, ◌∙◌, subst}
use Rattle.std.proofs.Common.{◌⊎◌, inl, inr, arith, below_more}
use Rattle.std.proofs.Math.Numerals.{sub-one}
use Rattle.std.specs.FinMap as map
use Rattle.icu_locale_core.specs.Locale.{Locale, unknown}
use Rattle.icu_locale_fallback.specs.Triple.{Triple, triple_of}
use Rattle.icu_locale_fallback.specs.Tables.{Tables}
use Rattle.icu_locale_fallback.specs.declared.config.LocaleFallbackPriority.TheVariants.{Language}
use Rattle.icu_locale_fallback.specs.declared.rule.Rule.{Rule}
use Rattle.icu_locale_fallback.specs.Normal.{first_script}
use Rattle.icu_locale_fallback.specs.Steps.{Reached, reached, rule, step_by}
use Rattle.icu_locale_fallback.specs.Walk.{brings_back}
use Rattle.icu_locale_fallback.proofs.TripleOrder.{one_or_other}
use Rattle.icu_locale_fallback.specs.Rows.{Misses, AreDistinct}
use Rattle.icu_locale_fallback.proofs.Pigeonhole.{AreKeys, no_longer}
use Rattle.icu_locale_fallback.proofs.Rules.{Applies, at_unknown, with_subdivision, with_variant}
use Rattle.icu_locale_fallback.proofs.Rules.{with_parent, with_region, with_language, applies}
use Rattle.icu_locale_fallback.proofs.Rules.{drops_to_unknown}

-- 1 where there is a subtag, else 0
abbrev has : Option (List ℕ) → ℕ
has o = cond (is_some o) 1 0

-- which is at most 1
has_le : (o : Option (List ℕ)) → has o ≤ 1
has_le None = omega arith
has_le (Some x) = omega arith

-- how many steps of dropping a subdivision or a variant stand before the next step of another kind
abbrev spare : Locale → ℕ
spare l = has l.subdivision + has l.variant

-- t is f i for some i below k, or for none
pub earlier_or_none : (f : ℕ → Triple) (t : Triple) (k : ℕ)
    → ((i : ℕ) × (i < k) × (t ≡ f i)) ⊎ ((i : ℕ) → i < k → t ≢ f i)
earlier_or_none f t zero = inr (λ i h. absurd (omega arith))
earlier_or_none f t (suc k) =
    elim (earlier_or_none f t k) [
      | inl (i, below, same) ↦ inl (i, omega arith, same)
      | inr none ↦ elim (one_or_other t (f k)) [
        | inl same ↦ inl (k, omega arith, same)
        | inr other ↦ inr (λ i h. below_more (λ j. t ≢ f j) k none other i (omega arith))
      ]
    ]

module _ (F : Tables) (l : Locale) where
  -- the walk's first script
  abbrev first : Option (List ℕ)
  first = first_script F.likely Language l

  -- the walk
  abbrev point : ℕ → Reached
  point k = reached F Language l k

  -- and the triples of its locales
  abbrev triple : ℕ → Triple
  triple k = triple_of (point k).locale

  -- step k is a parent or region step, to the triple of an earlier point
  abbrev pub RepeatsAt : ℕ → Type 0
  RepeatsAt k = (brings_back (rule Language F (point (k - 1)).locale) ≡ true)
      × ((i : ℕ) × (i < k) × (triple k ≡ triple i))

  -- the walk has ended or repeated at some step up to k
  abbrev pub Stopped : ℕ → Type 0
  Stopped k = (j : ℕ) × (j ≤ k) × (((point j).locale ≡ unknown) ⊎ RepeatsAt j)

  -- each was left before step k
  abbrev AreEarlier : ℕ → List Triple → Type 0
  AreEarlier k [] = Unit {0}
  AreEarlier k (x ∷ xs) = ((i : ℕ) × (i < k) × (triple i ≡ x)) × AreEarlier k xs

  -- a walk of k steps that has neither ended nor repeated: the keys that its parent steps left,
  -- and its region steps
  record Run (k : ℕ) : Type 0 where
    keys : List Triple
    regions : ℕ
    distinct : AreDistinct keys
    rows : AreKeys F.parents keys
    here : Misses keys (triple k)
    seen : AreEarlier k keys
    steps : k + spare (point k).locale ≤ 2 + 2 * (length keys + regions)
    between : regions + has (point k).locale.region ≤ length keys + 1

  later : (k : ℕ) (xs : List Triple) → AreEarlier k xs → AreEarlier (suc k) xs
  later k [] h = tt
  later k (x ∷ xs) ((i, below, is), rest) = ((i, omega arith, is), later k xs rest)

  -- a triple that is new is none that was left
  misses_earlier : (k : ℕ) (t : Triple) → ((i : ℕ) → i < k → t ≢ triple i) → (xs : List Triple)
      → AreEarlier k xs → Misses xs t
  misses_earlier k t new [] h = tt
  misses_earlier k t new (x ∷ xs) ((i, below, is), rest) =
      (λ e. new i below (e ∙ sym is), misses_earlier k t new xs rest)

  -- the point behind one where the rule r applies
  abbrev behind : ℕ → Rule → Reached
  behind k r = step_by r F first (point k)

  -- one step on
  point-suc : (k : ℕ) → point (suc k) ≡ behind k (rule Language F (point k).locale)
  unfolding reached
  point-suc k = refl

  -- a step goes on with the run, or ends or repeats
  advance : (k : ℕ) (r : Rule) → rule Language F (point k).locale ≡ r → Applies F (point k).locale r
      → point (suc k) ≡ behind k r → Run k → Stopped (suc k) ⊎ Run (suc k)
  advance k r is (at_unknown e) to run = inl (k, omega arith, inl e)
  advance k r is (with_subdivision s) to run =
      let same : triple (suc k) ≡ triple k = ap (λ p. triple_of p.locale) to in
      let none : has (point (suc k)).locale.subdivision ≡ 0 =
      ap (λ p. has p.locale.subdivision) to in
      let variant : has (point (suc k)).locale.variant ≡ has (point k).locale.variant =
      ap (λ p. has p.locale.variant) to in
      let region : has (point (suc k)).locale.region ≡ has (point k).locale.region =
      ap (λ p. has p.locale.region) to in
      let had : has (point k).locale.subdivision ≡ 1 = ap (λ b. cond b 1 0) s in
      let steps_now = run.steps in
      let between_now = run.between in
      inr (record {
        keys = run.keys;
        regions = run.regions;
        distinct = run.distinct;
        rows = run.rows;
        here = subst (Misses run.keys) (sym same) run.here;
        seen = later k run.keys run.seen;
        steps = omega arith;
        between = omega arith;
      })
  advance k r is (with_variant s v) to run =
      let same : triple (suc k) ≡ triple k = ap (λ p. triple_of p.locale) to in
      let subdivision : has (point (suc k)).locale.subdivision ≡ has (point k).locale.subdivision =
      ap (λ p. has p.locale.subdivision) to in
      let none : has (point (suc k)).locale.variant ≡ 0 = ap (λ p. has p.locale.variant) to in
      let region : has (point (suc k)).locale.region ≡ has (point k).locale.region =
      ap (λ p. has p.locale.region) to in
      let had : has (point k).locale.variant ≡ 1 = ap (λ b. cond b 1 0) v in
      let steps_now = run.steps in
      let between_now = run.between in
      inr (record {
        keys = run.keys;
        regions = run.regions;
        distinct = run.distinct;
        rows = run.rows;
        here = subst (Misses run.keys) (sym same) run.here;
        seen = later k run.keys run.seen;
        steps = omega arith;
        between = omega arith;
      })
  advance k r is (with_parent {parent} s v row) to run =
      elim (earlier_or_none triple (triple (suc k)) (suc k)) [
        | inl earlier ↦ inl (suc k, omega arith, inr (rw sub-one (ap brings_back is), earlier))
        | inr new ↦
            let subdivision : has (point (suc k)).locale.subdivision ≡ 0 =
            ap (λ p. has p.locale.subdivision) to ∙ ap has s in
            let variant = has_le (point (suc k)).locale.variant in
            let region = has_le (point (suc k)).locale.region in
            let steps_now = run.steps in
            let between_now = run.between in
            inr (record {
              keys = triple k ∷ run.keys;
              regions = run.regions;
              distinct = (run.here, run.distinct);
              rows = (ap is_some row, run.rows);
              here = (
                new k (omega arith),
                misses_earlier (suc k) (triple (suc k)) new run.keys
                    (later k run.keys run.seen),
              );
              seen = ((k, omega arith, refl), later k run.keys run.seen);
              steps = omega arith;
              between = omega arith;
            })
      ]
  advance k r is (with_region s v region) to run =
      elim (earlier_or_none triple (triple (suc k)) (suc k)) [
        | inl earlier ↦ inl (suc k, omega arith, inr (rw sub-one (ap brings_back is), earlier))
        | inr new ↦
            let subdivision : has (point (suc k)).locale.subdivision ≡ 0 =
            ap (λ p. has p.locale.subdivision) to ∙ ap has s in
            let variant = has_le (point (suc k)).locale.variant in
            let none : has (point (suc k)).locale.region ≡ 0 = ap (λ p. has p.locale.region) to in
            let had : has (point k).locale.region ≡ 1 = ap (λ b. cond b 1 0) region in
            let steps_now = run.steps in
            let between_now = run.between in
            inr (record {
              keys = run.keys;
              regions = run.regions + 1;
              distinct = run.distinct;
              rows = run.rows;
              here =
                  misses_earlier (suc k) (triple (suc k)) new run.keys (later k run.keys run.seen);
              seen = later k run.keys run.seen;
              steps = omega arith;
              between = omega arith;
            })
      ]
  advance k r is (with_language s v g) to run =
      inl (
        suc k,
        omega arith,
        inl (ap (λ p. p.locale) to ∙ drops_to_unknown F first (point k) s v g),
      )

  -- a walk that has stopped has stopped a step later
  longer : (k : ℕ) → Stopped k → Stopped (suc k)
  longer k (j, below, stop) = (j, omega arith, stop)

  -- so at each step the walk has stopped or runs
  run_from : (k : ℕ) → Stopped k ⊎ Run k
  run_from zero =
      let subdivision = has_le (point zero).locale.subdivision in
      let variant = has_le (point zero).locale.variant in
      let region = has_le (point zero).locale.region in
      inr (record {
        keys = [];
        regions = 0;
        distinct = tt;
        rows = tt;
        here = tt;
        seen = tt;
        steps = omega arith;
        between = omega arith;
      })
  run_from (suc k) =
      elim (run_from k) [
        | inl stop ↦ inl (longer k stop)
        | inr run ↦ advance k (rule Language F (point k).locale) refl (applies F (point k).locale)
            (point-suc k) run
      ]

  -- a run is too short for so many steps
  pub ends_or_repeats : Stopped (4 * map.len F.parents + 5)
  ends_or_repeats =
      elim (run_from (4 * map.len F.parents + 5)) [
        | inl stop ↦ stop
        | inr run ↦
            let few = no_longer F.parents run.keys run.distinct run.rows in
            let steps_now = run.steps in
            let between_now = run.between in
            absurd (omega arith)
      ]
