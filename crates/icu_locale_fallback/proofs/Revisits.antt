-- Where the walk repeats, nothing new comes. A parent or region step leaves a point that its
-- triple determines: the variant of the start is back, and its subdivision is kept. So such a step
-- to a triple that was there before leads to a point that was there before.
use Rattle.std.proofs.Common.{◌≡◌, ℕ, zero, suc, ◌+◌, ◌-◌, ◌<◌, ◌≤◌, true, false, List, Option}
use Rattle.std.proofs.Common.{None, is_some, refl, sym, ap, ◌∙◌, subst, ◌⊎◌, inl, inr, arith}
use Rattle.std.proofs.Math.Numerals.{sub-one}
use Rattle.std.proofs.Common.{zero-add, suc-add}
use Rattle.std.proofs.lemmas.Bool.{false≢true, cases_lt}
use Rattle.icu_locale_core.specs.Locale.{Locale, unknown}
use Rattle.icu_locale_fallback.specs.declared.config.LocaleFallbackPriority.TheVariants.{Language}
use Rattle.icu_locale_fallback.specs.declared.rule.Rule.{Rule}
use Rattle.icu_locale_fallback.specs.declared.rule.Rule.TheVariants.{Stay}
use Rattle.icu_locale_fallback.specs.Normal.{first_script}
use Rattle.icu_locale_fallback.specs.Triple.{Triple, triple_of}
use Rattle.icu_locale_fallback.specs.Tables.{Tables}
use Rattle.icu_locale_fallback.specs.Steps.{Reached, reached, rule, start, step_by}
use Rattle.icu_locale_fallback.specs.Walk.{brings_back, next}
use Rattle.icu_locale_fallback.proofs.Rules.{Applies, at_unknown, with_subdivision, with_variant}
use Rattle.icu_locale_fallback.proofs.Rules.{with_parent, with_region, with_language, applies}
use Rattle.icu_locale_fallback.proofs.Rules.{drops_alone, drops_to_unknown}
use Rattle.icu_locale_fallback.proofs.Ends.{RepeatsAt}

-- the same parts make the same point
same_point : (p q : Reached) → triple_of p.locale ≡ triple_of q.locale
    → p.locale.variant ≡ q.locale.variant → p.locale.subdivision ≡ q.locale.subdivision
    → p.kept_variant ≡ q.kept_variant → p.kept_subdivision ≡ q.kept_subdivision
    → p.kept_region ≡ q.kept_region → p ≡ q
same_point p q t v d kv kd kr i =
    record {
      locale =
          record {
            language = (t i).language;
            script = (t i).script;
            region = (t i).region;
            variant = v i;
            subdivision = d i;
          };
      kept_variant = kv i;
      kept_subdivision = kd i;
      kept_region = kr i;
    }

-- a subtag of the start is in its place, or kept
abbrev Carried : Option (List ℕ) → Option (List ℕ) → Option (List ℕ) → Type 0
Carried subtag here kept = ((here ≡ subtag) × (kept ≡ None)) ⊎ ((here ≡ None) × (kept ≡ subtag))

-- where it is dropped it is kept
dropped : (subtag here kept : Option (List ℕ)) → is_some here ≡ true → Carried subtag here kept
    → Carried subtag None here
dropped subtag here kept some (inl (same, empty)) = inr (refl, same)
dropped subtag here kept some (inr (gone, is)) = absurd (false≢true (sym (ap is_some gone) ∙ some))

-- where none is in place, the one that is kept is that of the start
kept_is : (subtag here kept : Option (List ℕ)) → here ≡ None → Carried subtag here kept
    → kept ≡ subtag
kept_is subtag here kept none (inl (same, empty)) = empty ∙ sym none ∙ same
kept_is subtag here kept none (inr (gone, is)) = is

module _ (F : Tables) (l : Locale) where
  -- the walk's first script
  abbrev first : Option (List ℕ)
  first = first_script F.likely Language l

  -- where it begins
  abbrev begin : Locale
  begin = (start F Language l).locale

  -- the walk
  abbrev point : ℕ → Reached
  point k = reached F Language l k

  -- the triples of its locales
  abbrev triple : ℕ → Triple
  triple k = triple_of (point k).locale

  -- the point behind one where the rule r applies
  abbrev behind : ℕ → Rule → Reached
  behind k r = step_by r F first (point k)

  -- the point with this triple and the variant of the start, and with its subdivision kept
  abbrev arrival : Triple → Reached
  arrival t =
      record {
        locale =
            record {
              language = t.language;
              script = t.script;
              region = t.region;
              variant = begin.variant;
              subdivision = None;
            };
        kept_variant = None;
        kept_subdivision = begin.subdivision;
        kept_region = None;
      }

  -- variant and subdivision of the start are there, or kept
  record Carries (p : Reached) : Type 0 where
    variant : Carried begin.variant p.locale.variant p.kept_variant
    subdivision : Carried begin.subdivision p.locale.subdivision p.kept_subdivision
    region : p.kept_region ≡ None

  -- no step
  point-zero : point zero ≡ start F Language l
  unfolding reached
  point-zero = refl

  -- one step on
  point-suc : (k : ℕ) → point (suc k) ≡ behind k (rule Language F (point k).locale)
  unfolding reached
  point-suc k = refl

  -- each step carries them on
  carries_on : (p : Reached) (r : Rule) → Applies F p.locale r → Carries p
      → Carries (step_by r F first p)
  carries_on p r (at_unknown e) h = h
  carries_on p r (with_subdivision s) h =
      record { variant = h.variant; subdivision = dropped _ _ _ s h.subdivision; region = h.region }
  carries_on p r (with_variant s v) h =
      record { variant = dropped _ _ _ v h.variant; subdivision = h.subdivision; region = h.region }
  carries_on p r (with_parent s v row) h =
      record {
        variant = inl (kept_is _ _ _ v h.variant, refl);
        subdivision = h.subdivision;
        region = h.region;
      }
  carries_on p r (with_region s v region) h =
      record {
        variant = inl (kept_is _ _ _ v h.variant, refl);
        subdivision = h.subdivision;
        region = h.region;
      }
  carries_on p r (with_language s v g) h =
      subst Carries (sym (drops_alone F first p g))
      (record { variant = h.variant; subdivision = h.subdivision; region = h.region })

  -- so they are there or kept at each point
  carries : (k : ℕ) → Carries (point k)
  carries zero =
      subst Carries (sym point-zero)
      (record { variant = inl (refl, refl); subdivision = inl (refl, refl); region = refl })
  carries (suc k) =
      subst Carries (sym (point-suc k))
      (carries_on (point k) (rule Language F (point k).locale)
      (applies F (point k).locale) (carries k))

  -- a parent or region step arrives
  arrives_by : (p : Reached) (r : Rule) → Applies F p.locale r → Carries p → brings_back r ≡ true
      → step_by r F first p ≡ arrival (triple_of (step_by r F first p).locale)
  arrives_by p r (at_unknown e) h back = cc
  arrives_by p r (with_subdivision s) h back = cc
  arrives_by p r (with_variant s v) h back = cc
  arrives_by p r (with_parent {parent} s v row) h back =
      same_point (step_by r F first p) (arrival (triple_of (step_by r F first p).locale)) refl
      (kept_is _ _ _ v h.variant) s refl (kept_is _ _ _ s h.subdivision) h.region
  arrives_by p r (with_region s v region) h back =
      same_point (step_by r F first p) (arrival (triple_of (step_by r F first p).locale)) refl
      (kept_is _ _ _ v h.variant) s refl (kept_is _ _ _ s h.subdivision) h.region
  arrives_by p r (with_language s v g) h back = cc

  -- whatever the rule
  arrives : (k : ℕ) → brings_back (rule Language F (point k).locale) ≡ true
      → point (suc k) ≡ arrival (triple (suc k))
  arrives k back =
      subst (λ p. p ≡ arrival (triple_of p.locale)) (sym (point-suc k))
      (arrives_by (point k) (rule Language F (point k).locale) (applies F (point k).locale)
      (carries k) back)

  -- the unknown locale is never left
  stays_unknown : (j n : ℕ) → (point j).locale ≡ unknown → (point (n + j)).locale ≡ unknown
  stays_unknown j zero e = rw zero-add e
  stays_unknown j (suc n) e =
      let before = stays_unknown j n e in
      let rest : rule Language F (point (n + j)).locale ≡ Stay = ap (rule Language F) before in
      rw suc-add
      (ap (λ p. p.locale) (point-suc (n + j))
      ∙ ap (λ r. (behind (n + j) r).locale) rest ∙ before)

  -- the point that a triple arrives at is among those before step k
  abbrev HasArrival : ℕ → ℕ → Type 0
  HasArrival k j = ((i : ℕ) × (i < k) × (point i ≡ arrival (triple j)))

  -- a step that brings the variant back is not behind the unknown locale
  not_behind_unknown : (n : ℕ) → brings_back (rule Language F (point n).locale) ≡ true
      → (j : ℕ) → j ≤ n
      → (point j).locale ≡ unknown → ⊥
  not_behind_unknown n back j below e =
      let whole : (n - j) + j ≡ n = omega arith in
      let there : (point n).locale ≡ unknown =
      subst (λ x. (point x).locale ≡ unknown) whole (stays_unknown j (n - j) e) in
      let rest : brings_back (rule Language F (point n).locale) ≡ false =
      ap (λ x. brings_back (rule Language F x)) there in
      false≢true (sym rest ∙ back)

  -- a start without a subdivision is an arrival
  begins_arrived : (n : ℕ) → (point zero).locale.subdivision ≡ None → HasArrival (suc n) zero
  begins_arrived n s = (
    zero,
    omega arith,
    same_point (point zero) (arrival (triple zero)) refl (ap (λ p. p.locale.variant) point-zero) s
        (ap (λ p. p.kept_variant) point-zero)
        (ap (λ p. p.kept_subdivision) point-zero ∙ sym s
        ∙ ap (λ p. p.locale.subdivision) point-zero)
        (ap (λ p. p.kept_region) point-zero),
  )

  -- the triple of the start is arrived at
  start_arrives : (n : ℕ) → brings_back (rule Language F (point n).locale) ≡ true → (r : Rule)
      → rule Language F (point zero).locale ≡ r → Applies F (point zero).locale r
      → point (suc zero) ≡ behind zero r → HasArrival (suc n) zero
  start_arrives n back r is (at_unknown e) to =
      absurd (not_behind_unknown n back zero (omega arith) e)
  start_arrives zero back r is (with_subdivision s) to =
      absurd (false≢true (sym (ap brings_back is) ∙ back))
  start_arrives (suc n) back r is (with_subdivision s) to = (
    suc zero,
    omega arith,
    to ∙ same_point (behind zero r) (arrival (triple zero)) refl
        (ap (λ p. p.locale.variant) point-zero) refl
        (ap (λ p. p.kept_variant) point-zero) (ap (λ p. p.locale.subdivision) point-zero)
        (ap (λ p. p.kept_region) point-zero),
  )
  start_arrives n back r is (with_variant s v) to = begins_arrived n s
  start_arrives n back r is (with_parent s v row) to = begins_arrived n s
  start_arrives n back r is (with_region s v region) to = begins_arrived n s
  start_arrives n back r is (with_language s v g) to = begins_arrived n s

  -- a step that leaves the triple leaves the arrival
  same_arrival : (k j : ℕ) → triple (suc j) ≡ triple j → HasArrival k j → HasArrival k (suc j)
  same_arrival k j same (i, below, is) = (i, below, is ∙ ap arrival (sym same))

  -- the triple of a later point is arrived at too
  next_arrives : (n : ℕ) → brings_back (rule Language F (point n).locale) ≡ true
      → (j : ℕ) → suc j ≤ n
      → (r : Rule) → rule Language F (point j).locale ≡ r → Applies F (point j).locale r
      → point (suc j) ≡ behind j r → HasArrival (suc n) j → HasArrival (suc n) (suc j)
  next_arrives n back j below r is (at_unknown e) to h =
      absurd (not_behind_unknown n back j (omega arith) e)
  next_arrives n back j below r is (with_subdivision s) to h =
      same_arrival (suc n) j (ap (λ p. triple_of p.locale) to) h
  next_arrives n back j below r is (with_variant s v) to h =
      same_arrival (suc n) j (ap (λ p. triple_of p.locale) to) h
  next_arrives n back j below r is (with_parent s v row) to h =
      (suc j, omega arith, arrives j (ap brings_back is))
  next_arrives n back j below r is (with_region s v region) to h =
      (suc j, omega arith, arrives j (ap brings_back is))
  next_arrives n back j below r is (with_language s v g) to h =
      absurd
      (not_behind_unknown n back (suc j) below
      (ap (λ p. p.locale) to ∙ drops_to_unknown F first (point j) s v g))

  -- so is that of each point before step k
  has_arrival : (n : ℕ) → brings_back (rule Language F (point n).locale) ≡ true → (j : ℕ) → j ≤ n
      → HasArrival (suc n) j
  has_arrival n back zero below =
      start_arrives n back (rule Language F (point zero).locale) refl
      (applies F (point zero).locale) (point-suc zero)
  has_arrival n back (suc j) below =
      next_arrives n back j below (rule Language F (point j).locale) refl
      (applies F (point j).locale) (point-suc j) (has_arrival n back j (omega arith))

  -- a point before step k
  abbrev IsBefore : ℕ → Reached → Type 0
  IsBefore k p = ((j : ℕ) × (j < k) × (p ≡ point j))

  -- a step to an earlier triple leads to a point before it
  returns_to : (n : ℕ) → brings_back (rule Language F (point n).locale) ≡ true → (i : ℕ) → i < suc n
      → triple (suc n) ≡ triple i → IsBefore (suc n) (point (suc n))
  returns_to n back i below same =
      let (j, before, is) = has_arrival n back i (omega arith) in
      (j, before, arrives n back ∙ ap arrival same ∙ sym is)

  -- a walk that has returned to a point stays among the points before
  stays_before : (n : ℕ) → IsBefore (suc n) (point (suc n)) → (x : ℕ) → IsBefore (suc n) (point x)
  stays_before n back zero = (zero, omega arith, refl)
  stays_before n back (suc x) =
      let (j, before, is) = stays_before n back x in
      let to : point (suc x) ≡ point (suc j) =
      point-suc x ∙ ap (next F first) is ∙ sym (point-suc j) in
      elim (cases_lt (suc j) (suc n)) [
        | inl less ↦ (suc j, less, to)
        | inr more ↦
            let whole : suc j ≡ suc n = omega arith in
            let (i, below, at_i) = back in
            (i, below, to ∙ ap point whole ∙ at_i)
      ]

  -- from a repeated triple on each locale is one from before
  pub revisits : (k n : ℕ) → RepeatsAt F l k
      → ((j : ℕ) × (j < k) × ((point n).locale ≡ (point j).locale))
  revisits zero n (back, (i, below, same)) = absurd (omega arith)
  revisits (suc k) n (back, (i, below, same)) =
      let here : brings_back (rule Language F (point k).locale) ≡ true = rw sub-one at back in
      let (j, before, is) = stays_before k (returns_to k here i below same) n in
      (j, before, ap (λ p. p.locale) is)
