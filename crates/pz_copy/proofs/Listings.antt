-- The list of the objects that values lead to: it is gathered step by step, and there is just one.
use Rattle.std.proofs.Common.{◌≡◌, refl, sym, ◌∙◌, ap, subst, ℕ, zero, suc, ◌+◌, ◌<◌, ◌≤◌, ◌⊎◌, inl, inr, Bool, true, false, List, [], ◌∷◌, ◌++◌, length, take, drop, get_or, Option, Some, None, arith}
use Rattle.std.specs.Prelude.{nat_eq, slice_get, All, unwrap_or}
use Rattle.std.specs.List.{flat_map, IsDistinct}
use Rattle.std.proofs.Math.Seq.{take-suc, take-append_seam}
use Rattle.std.proofs.lemmas.Bool.{eqb-true}
use Rattle.std.proofs.lemmas.Grind.{flat_map-append}
use Rattle.std.proofs.lemmas.List.{append-nil, append_assoc, take-append-le, take-append-drop, length-append}
use Rattle.std.proofs.lemmas.Option.{slice_get_within, get_or_from_slice_get, slice_get-get_or}
use Rattle.std.proofs.lemmas.Map.Steps.{length-le_from_distinct_below}
use Rattle.pz_state.specs.pz_value.declared.value.Value.{Value}
use Rattle.pz_state.specs.pz_value.declared.value.Value.TheVariants as value
use Rattle.pz_state.specs.Objects.{ObjectView}
use Rattle.pz_state.specs.States.{StateView, object}
use Rattle.pz_state.specs.References.{RefersWithin, IsSelfContained}
use Rattle.pz_copy.specs.References.{reference_of, references, IsIn}
use Rattle.pz_copy.specs.Packing.{mentioned, IsListing, HasOneListing}
use Rattle.pz_copy.specs.devices.Gathering.{gathered, IsGathered}
use Rattle.pz_copy.proofs.Gathered.{in_left, in_cases, in_at, gathered_firsts, gathered_more, gathered_append, gathers, gathers_only, gathered_distinct, nothing_distinct, seam_distinct}

-- Lists

take_whole : (n : ℕ) (xs : List ℕ) → length xs ≤ n → take n xs ≡ xs
take_whole n [] h = elim n as (λ k. take {A = ℕ} k [] ≡ []) [ zero ↦ refl | suc k ↦ refl ]
take_whole zero (x ∷ xs) h = absurd (omega arith)
take_whole (suc n) (x ∷ xs) h = ap (λ l. x ∷ l) (take_whole n xs (omega arith))

take_twice : (n m : ℕ) (xs : List ℕ) → n ≤ m → take n (take m xs) ≡ take n xs
take_twice zero m xs h = refl
take_twice (suc n) zero xs h = absurd (omega arith)
take_twice (suc n) (suc m) [] h = refl
take_twice (suc n) (suc m) (x ∷ xs) h = ap (λ l. x ∷ l) (take_twice n m xs (omega arith))

at_front : (xs ys : List ℕ) (i : ℕ) → i < length xs → slice_get (xs ++ ys) i ≡ slice_get xs i
at_front [] ys i h = absurd (omega arith)
at_front (x ∷ xs) ys zero h = refl
at_front (x ∷ xs) ys (suc i) h = at_front xs ys i (omega arith)

at_seam : (xs : List ℕ) (r : ℕ) (ys : List ℕ) → slice_get (xs ++ r ∷ ys) (length xs) ≡ Some r
at_seam [] r ys = refl
at_seam (x ∷ xs) r ys = at_seam xs r ys

pub take_next : (xs : List ℕ) (i r : ℕ) → slice_get xs i ≡ Some r → take (suc i) xs ≡ take i xs ++ r ∷ []
take_next [] i r h = cc
take_next (x ∷ xs) zero r h = let same : x ≡ r = cc in ap (λ y. y ∷ []) same
take_next (x ∷ xs) (suc i) r h = ap (λ l. x ∷ l) (take_next xs i r h)

past : (xs : List ℕ) (i : ℕ) → slice_get xs i ≡ None → length xs ≤ i
past [] i e = omega arith
past (x ∷ xs) zero e = cc
past (x ∷ xs) (suc i) e = let rest : length xs ≤ i = past xs i e in omega arith

-- the references in an object
abbrev pub inside : StateView → ℕ → List ℕ
inside s r = references (object s r).items

module _ (s : StateView) (values : List Value) where
  mentioned_append : (xs ys : List ℕ) → mentioned s values (xs ++ ys) ≡ mentioned s values xs ++ flat_map (inside s) ys
  mentioned_append xs ys = ap (λ l. references values ++ l) (flat_map-append (inside s) xs ys) ∙ sym (append_assoc (references values) (flat_map (inside s) xs) (flat_map (inside s) ys))

  mentioned_push : (xs : List ℕ) (r : ℕ) → mentioned s values (xs ++ r ∷ []) ≡ mentioned s values xs ++ inside s r
  mentioned_push xs r = mentioned_append xs (r ∷ []) ∙ ap (λ l. mentioned s values xs ++ l) (append-nil (inside s r))

  -- what an object that is listed later is mentioned by
  mentioned_later : (next i : ℕ) (listed : List ℕ) (r : ℕ) → next ≤ i → IsIn r (mentioned s values (take next listed)) → IsIn r (mentioned s values (take i listed))
  mentioned_later next i listed r order h =
      let front : take next (take i listed) ≡ take next listed = take_twice next i listed order in
      let whole : take next listed ++ drop next (take i listed) ≡ take i listed = subst (λ (l : List ℕ). l ++ drop next (take i listed) ≡ take i listed) front (take-append-drop next (take i listed)) in
      subst (λ (l : List ℕ). IsIn r (mentioned s values l)) whole
      (subst (IsIn r) (sym (mentioned_append (take next listed) (drop next (take i listed)))) (in_left r (mentioned s values (take next listed)) (flat_map (inside s) (drop next (take i listed))) h))

  from_nothing : (xs : List ℕ) (r : ℕ) → IsIn r (gathered [] xs) → IsIn r xs
  from_nothing xs r h = elim (gathers_only xs [] r h) [ inl none ↦ cc | inr some ↦ some ]

  grounded_late : (next : ℕ) (listed : List ℕ) → listed ≡ gathered [] (mentioned s values (take next listed)) → (i r : ℕ) → next ≤ i → slice_get listed i ≡ Some r → IsIn r (mentioned s values (take i listed))
  grounded_late next listed so_far i r order at = mentioned_later next i listed r order (from_nothing (mentioned s values (take next listed)) r (subst (IsIn r) so_far (in_at listed i r at)))

  pub begun : IsGathered s values 0 (gathered [] (references values))
  begun =
      let start : gathered [] (references values) ≡ gathered [] (mentioned s values []) = ap (gathered []) (sym (append-nil (references values))) in
      record {
        so_far = start;
        within = omega arith;
        grounded = λ i r at. grounded_late 0 (gathered [] (references values)) start i r (omega arith) at;
      }

  -- one object further
  pub gathered_on : (next : ℕ) (listed : List ℕ) (r : ℕ) → IsGathered s values next listed → slice_get listed next ≡ Some r → IsGathered s values (suc next) (gathered listed (inside s r))
  gathered_on next listed r g at = record { so_far = far; within = long; grounded = λ i q h. by i q (order i) h }
    where
      grown : gathered listed (inside s r) ≡ listed ++ (gathered_more listed (inside s r)).0
      grown = (gathered_more listed (inside s r)).1

      below : next < length listed
      below = slice_get_within listed next r at

      long : suc next ≤ length (gathered listed (inside s r))
      long = omega (arith, below, length-append listed (gathered_more listed (inside s r)).0, ap length grown)

      front : (n : ℕ) → n ≤ length listed → take n (gathered listed (inside s r)) ≡ take n listed
      front n few = ap (take n) grown ∙ take-append-le n listed (gathered_more listed (inside s r)).0 few

      far : gathered listed (inside s r) ≡ gathered [] (mentioned s values (take (suc next) (gathered listed (inside s r))))
      far =
          sym
          (ap (λ l. gathered [] (mentioned s values l)) (front (suc next) (omega (arith, below)) ∙ take_next listed next r at)
          ∙ ap (gathered []) (mentioned_push (take next listed) r)
          ∙ gathered_append [] (mentioned s values (take next listed)) (inside s r)
          ∙ ap (λ l. gathered l (inside s r)) (sym g.so_far))

      order : (i : ℕ) → (i < length listed) ⊎ (length listed ≤ i)
      order i = grind arith

      by : (i q : ℕ) → (i < length listed) ⊎ (length listed ≤ i) → slice_get (gathered listed (inside s r)) i ≡ Some q → IsIn q (mentioned s values (take i (gathered listed (inside s r))))
      by i q (inl early) h =
          let old : slice_get listed i ≡ Some q = sym (at_front listed (gathered_more listed (inside s r)).0 i early) ∙ ap (λ l. slice_get l i) (sym grown) ∙ h in
          subst (λ (l : List ℕ). IsIn q (mentioned s values l)) (sym (front i (omega (arith, early)))) (g.grounded i q old)
      by i q (inr late) h = grounded_late (suc next) (gathered listed (inside s r)) far i q (omega (arith, late, below)) h

  pub gathered_whole : (next : ℕ) (listed : List ℕ) → IsGathered s values next listed → length listed ≤ next → IsListing s values listed
  gathered_whole next listed g all =
      let whole : take next listed ≡ listed = take_whole next listed all in
      record {
        equation = g.so_far ∙ ap (λ l. gathered [] (mentioned s values l)) whole ∙ gathered_firsts (mentioned s values listed);
        grounded = g.grounded;
      }

  -- There is no other

  ahead : (next : ℕ) (listed other : List ℕ) → listed ≡ gathered [] (mentioned s values (take next listed)) → IsListing s values other → take next other ≡ take next listed → (more : List ℕ) × (other ≡ listed ++ more)
  ahead next listed other so_far is_one same =
      let rest : List ℕ = flat_map (inside s) (drop next other) in
      let whole : other ≡ gathered [] (mentioned s values other) = is_one.equation ∙ sym (gathered_firsts (mentioned s values other)) in
      let parts : mentioned s values other ≡ mentioned s values (take next other) ++ rest = ap (mentioned s values) (sym (take-append-drop next other)) ∙ mentioned_append (take next other) (drop next other) in
      let step : other ≡ gathered listed rest =
      whole ∙ ap (gathered []) parts ∙ gathered_append [] (mentioned s values (take next other)) rest
      ∙ ap (λ l. gathered l rest) (ap (λ l. gathered [] (mentioned s values l)) same ∙ sym so_far) in
      ((gathered_more listed rest).0, step ∙ (gathered_more listed rest).1)

  no_more : (listed other more : List ℕ) → IsListing s values listed → IsListing s values other → other ≡ listed ++ more → other ≡ listed
  no_more listed other [] is_one is_other e = e ∙ append-nil listed
  no_more listed other (r ∷ rest) is_one is_other e =
      let at : slice_get other (length listed) ≡ Some r = ap (λ l. slice_get l (length listed)) e ∙ at_seam listed r rest in
      let front : take (length listed) other ≡ listed = ap (take (length listed)) e ∙ take-append_seam listed (r ∷ rest) in
      let there : IsIn r (mentioned s values listed) = subst (λ (l : List ℕ). IsIn r (mentioned s values l)) front (is_other.grounded (length listed) r at) in
      let again : IsIn r listed = subst (IsIn r) (gathered_firsts (mentioned s values listed) ∙ sym is_one.equation) (gathers (mentioned s values listed) [] r there) in
      let distinct : IsDistinct nat_eq other = subst (IsDistinct nat_eq) (gathered_firsts (mentioned s values other) ∙ sym is_other.equation) (gathered_distinct (mentioned s values other) [] nothing_distinct) in
      absurd (seam_distinct listed r rest (subst (IsDistinct nat_eq) e distinct) again)

-- References that are there

refers : (n : ℕ) (vs : List Value) → All (RefersWithin n) vs → (r : ℕ) → IsIn r (references vs) → r < n
refers n [] all r h = cc
refers n (v ∷ vs) all r h =
    elim (in_cases r (reference_of v) (references vs) h) [
      | inl here ↦ one v (all 0 v (omega arith)) here
      | inr later ↦ refers n vs (λ k d within. all (suc k) d (omega (arith, within))) r later
    ]
  where
    one : (w : Value) → RefersWithin n w → IsIn r (reference_of w) → r < n
    one (value.Ref q) within here = by (nat_eq r q) refl here
      where
        by : (b : Bool) → nat_eq r q ≡ b → IsIn r (q ∷ []) → r < n
        by true e h = let same : r ≡ q = eqb-true r q e in subst (λ (k : ℕ). k < n) (sym same) within
        by false e h = cc
    one _ within here = cc

object_refers : (s : StateView) → IsSelfContained s → (q : ℕ) → All (RefersWithin (length s.objects)) (object s q).items
object_refers s contained q = by (slice_get s.objects q) refl
  where
    by : (found : Option ObjectView) → slice_get s.objects q ≡ found → All (RefersWithin (length s.objects)) (unwrap_or found (record { class = record { 0 = 0 }; items = [] })).items
    by None e = λ k d h. absurd (omega (arith, h))
    by (Some o) e =
        let within : q < length s.objects = slice_get_within s.objects q o e in
        let same : get_or s.objects q o ≡ o = get_or_from_slice_get s.objects q o o e in
        subst (λ (p : ObjectView). All (RefersWithin (length s.objects)) p.items) same (contained.objects q o within)

module _ (s : StateView) (contained : IsSelfContained s) (values : List Value) (within : All (RefersWithin (length s.objects)) values) where
  inside_refers : (listed : List ℕ) (r : ℕ) → IsIn r (flat_map (inside s) listed) → r < length s.objects
  inside_refers [] r h = cc
  inside_refers (q ∷ qs) r h =
      elim (in_cases r (inside s q) (flat_map (inside s) qs) h) [
        | inl here ↦ refers (length s.objects) (object s q).items (object_refers s contained q) r here
        | inr later ↦ inside_refers qs r later
      ]

  pub mentioned_there : (listed : List ℕ) (r : ℕ) → IsIn r (mentioned s values listed) → r < length s.objects
  mentioned_there listed r h =
      elim (in_cases r (references values) (flat_map (inside s) listed) h) [
        | inl here ↦ refers (length s.objects) values within r here
        | inr later ↦ inside_refers listed r later
      ]

  pub gathered_there : (next : ℕ) (listed : List ℕ) → IsGathered s values next listed → (r : ℕ) → IsIn r listed → r < length s.objects
  gathered_there next listed g r h = mentioned_there (take next listed) r (from_nothing s values (mentioned s values (take next listed)) r (subst (IsIn r) g.so_far h))

  -- there are not more numbers in it than objects
  pub gathered_few : (next : ℕ) (listed : List ℕ) → IsGathered s values next listed → length listed ≤ length s.objects
  gathered_few next listed g =
      length-le_from_distinct_below listed (length s.objects)
      (subst (IsDistinct nat_eq) (sym g.so_far) (gathered_distinct (mentioned s values (take next listed)) [] nothing_distinct))
      (gathered_there next listed g)

  go_on : (fuel next : ℕ) (listed : List ℕ) → IsGathered s values next listed → ((other : List ℕ) → IsListing s values other → (more : List ℕ) × (other ≡ listed ++ more)) → length s.objects < fuel + next → HasOneListing s values
  go_on zero next listed g prefix enough =
      let few : length listed ≤ length s.objects = gathered_few next listed g in
      let far : next ≤ length listed = g.within in
      absurd (omega (arith, few, far, enough))
  go_on (suc fuel) next listed g prefix enough = by (slice_get listed next) refl (λ more h ahead_of. go_on fuel (suc next) more h ahead_of (omega (arith, enough)))
    where
      by : (found : Option ℕ) → slice_get listed next ≡ found → ((more : List ℕ) → IsGathered s values (suc next) more → ((other : List ℕ) → IsListing s values other → (rest : List ℕ) × (other ≡ more ++ rest)) → HasOneListing s values) → HasOneListing s values
      by None e later =
          let all : length listed ≤ next = past listed next e in
          let whole : IsListing s values listed = gathered_whole s values next listed g all in
          record { listed = listed; is_one = whole; only = λ other is_other. no_more s values listed other (prefix other is_other).0 whole is_other (prefix other is_other).1 }
      by (Some r) e later =
          let further : IsGathered s values (suc next) (gathered listed (inside s r)) = gathered_on s values next listed r g e in
          let below : next < length listed = slice_get_within listed next r e in
          let grown : gathered listed (inside s r) ≡ listed ++ (gathered_more listed (inside s r)).0 = (gathered_more listed (inside s r)).1 in
          let front : take (suc next) (gathered listed (inside s r)) ≡ take (suc next) listed = ap (take (suc next)) grown ∙ take-append-le (suc next) listed (gathered_more listed (inside s r)).0 (omega (arith, below)) in
          later (gathered listed (inside s r)) further
          (λ other is_other. ahead s values (suc next) (gathered listed (inside s r)) other further.so_far is_other (ap (take (suc next)) (prefix other is_other).1 ∙ take-append-le (suc next) listed (prefix other is_other).0 (omega (arith, below)) ∙ sym front))

  pub one_listing : HasOneListing s values
  one_listing =
      go_on (suc (length s.objects)) 0 (gathered [] (references values)) (begun s values)
      (λ other is_other. ahead s values 0 (gathered [] (references values)) other (begun s values).so_far is_other refl)
      (omega arith)

  -- the object that comes next is there
  pub next_there : (next : ℕ) (listed : List ℕ) (r : ℕ) → IsGathered s values next listed → slice_get listed next ≡ Some r → r < length s.objects
  next_there next listed r g at = gathered_there next listed g r (in_at listed next r at)

  pub gathered_all : (next : ℕ) (listed : List ℕ) → IsGathered s values next listed → All (λ r. r < length s.objects) listed
  gathered_all next listed g = λ k d below. gathered_there next listed g (get_or listed k d) (in_at listed k (get_or listed k d) (slice_get-get_or listed k d below))

pub at_index : (xs : List ℕ) (i r : ℕ) → i < length xs → r ≡ get_or xs i r → slice_get xs i ≡ Some r
at_index xs i r below e = slice_get-get_or xs i r below ∙ ap (λ y. Some y) (sym e)

-- the references of one more value
pub references_next : (xs : List Value) (i : ℕ) (v : Value) → i < length xs → v ≡ get_or xs i v → references (take (i + 1) xs) ≡ references (take i xs) ++ reference_of v
references_next xs i v below e =
    let more : i + 1 ≡ suc i = omega arith in
    let taken : take (suc i) xs ≡ take i xs ++ get_or xs i v ∷ [] = take-suc xs i v below in
    ap (λ n. references (take n xs)) more ∙ ap references taken ∙ flat_map-append reference_of (take i xs) (get_or xs i v ∷ [])
    ∙ ap (λ l. references (take i xs) ++ l) (append-nil (reference_of (get_or xs i v)) ∙ ap reference_of (sym e))

pub no_reference : (v : Value) → ((r : ℕ) → v ≡ value.Ref r → ⊥) → reference_of v ≡ []
no_reference (value.Ref r) other = absurd (other r refl)
no_reference _ other = refl
