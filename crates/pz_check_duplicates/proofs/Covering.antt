-- What is found where things are held one after another against the earliest that is the same: each
-- is a repeat, and no repeat is before all of them.
use Rattle.std.proofs.Common.{◌≡◌, ◌≢◌, refl, sym, subst, ap, ◌∙◌, ℕ, ◌<◌, Bool, true, false, IsTrue, List, [], ◌∷◌, ◌++◌, append-nil, append_assoc, length, Option, Some, None, slice_get, arith, ◌⊎◌, inl, inr}
use Rattle.std.proofs.lemmas.Option.{slice_get_within}
use Rattle.pz_classes.specs.pz_syntax.declared.tokens.Pos.{Pos}
use Rattle.pz_check_violations.specs.declared.violation.Violation.{Violation}
use Rattle.pz_check_violations.specs.Order.{violation, pos_before}
use Rattle.pz_check_violations.specs.Least.{Member}
use Rattle.pz_check_violations.proofs.Order.{not_before_itself}
use Rattle.pz_check_violations.proofs.Members.{member_left, member_right, member_cases}
use Rattle.pz_classes.specs.pz_classes_rules.RepeatRules.{Repeats}
use Rattle.pz_check_duplicates.specs.devices.Earlier.{earliest_of}
use Rattle.pz_check_duplicates.specs.devices.Again.{later, later_of, found_in}
use Rattle.pz_check_duplicates.proofs.Lists.{there_before, last_there, there_cases}
use Rattle.pz_check_duplicates.proofs.Repeated.{At}
use Rattle.pz_check_duplicates.proofs.LeastCovering.{NotBehind}
use Rattle.pz_check_duplicates.proofs.PlaceOrder.{same_rule, never_sooner, not_later}
use Rattle.pz_check_duplicates.proofs.EarliestPlaces.{StandsAt, stands_earliest, IsEarly, early_for}

module _ {A : Type 0} (same : A → A → Bool) (place : A → Pos) (rule : ℕ) (turned : (x y : A) → IsTrue (same x y) → IsTrue (same y x)) where
  -- ---- each that is found is a repeat

  -- of the new one and one of those before it, the later is a repeat
  later_repeats : (ns : List A) (y : A) (q : Pos) → StandsAt place (same y) ns q → At same place rule (ns ++ (y ∷ [])) (violation rule (later q (place y)))
  later_repeats ns y q s = by_test (pos_before (place y) q) refl
    where
      within : s.index < length ns
      within = slice_get_within ns s.index s.which s.there

      apart : s.index ≢ length ns
      apart is = let below = within in omega arith

      there : slice_get (ns ++ (y ∷ [])) s.index ≡ Some s.which
      there = there_before ns (y ∷ []) s.index s.which s.there

      by_test : (t : Bool) → pos_before (place y) q ≡ t → At same place rule (ns ++ (y ∷ [])) (violation rule (later q (place y)))
      by_test true before = record {
        again = s.which;
        repeat = record {
          first = y;
          first_at = length ns;
          again_at = s.index;
          first_there = last_there ns y;
          again_there = there;
          apart = λ is. apart (sym is);
          alike = s.is_alike;
          later = rw s.stands (not_later (place y) q before);
        };
        is = rw (before, s.stands) refl;
      }
      by_test false before = record {
        again = y;
        repeat = record {
          first = s.which;
          first_at = s.index;
          again_at = length ns;
          first_there = there;
          again_there = last_there ns y;
          apart = apart;
          alike = turned y s.which s.is_alike;
          later = rw s.stands before;
        };
        is = rw before refl;
      }

  later_sound : (ns : List A) (y : A) (v : Violation) → Member v (later_of rule (earliest_of place (same y) None ns) (place y)) → At same place rule (ns ++ (y ∷ [])) v
  later_sound ns y v found = by_place (earliest_of place (same y) None ns) refl found
    where
      by_place : (o : Option Pos) → earliest_of place (same y) None ns ≡ o → Member v (later_of rule o (place y)) → At same place rule (ns ++ (y ∷ [])) v
      by_place None is at_none = absurd at_none
      by_place (Some q) is (inl here) = subst (At same place rule (ns ++ (y ∷ []))) here (later_repeats ns y q (stands_earliest place (same y) ns q is))
      by_place (Some q) is (inr none) = absurd none

  pub found_sound : (ns ys : List A) (v : Violation) → Member v (found_in same place rule ns ys) → At same place rule (ns ++ ys) v
  found_sound ns [] v found = absurd found
  found_sound ns (y ∷ ys) v found =
      by_part (λ later. found_sound (ns ++ (y ∷ [])) ys v later)
      (member_cases v (later_of rule (earliest_of place (same y) None ns) (place y)) (found_in same place rule (ns ++ (y ∷ [])) ys) found)
    where
      longer : (ns ++ (y ∷ [])) ++ ys ≡ ns ++ (y ∷ ys)
      longer = append_assoc ns (y ∷ []) ys

      wider : (i : ℕ) (x : A) → slice_get (ns ++ (y ∷ [])) i ≡ Some x → slice_get (ns ++ (y ∷ ys)) i ≡ Some x
      wider i x here = subst (λ (xs : List A). slice_get xs i ≡ Some x) longer (there_before (ns ++ (y ∷ [])) ys i x here)

      widened : At same place rule (ns ++ (y ∷ [])) v → At same place rule (ns ++ (y ∷ ys)) v
      widened a = record {
        again = a.again;
        repeat = record {
          first = a.repeat.first;
          first_at = a.repeat.first_at;
          again_at = a.repeat.again_at;
          first_there = wider a.repeat.first_at a.repeat.first a.repeat.first_there;
          again_there = wider a.repeat.again_at a.again a.repeat.again_there;
          apart = a.repeat.apart;
          alike = a.repeat.alike;
          later = a.repeat.later;
        };
        is = a.is;
      }

      by_part : (Member v (found_in same place rule (ns ++ (y ∷ [])) ys) → At same place rule ((ns ++ (y ∷ [])) ++ ys) v)
          → Member v (later_of rule (earliest_of place (same y) None ns) (place y)) ⊎ Member v (found_in same place rule (ns ++ (y ∷ [])) ys) → At same place rule (ns ++ (y ∷ ys)) v
      by_part rest (inl here) = widened (later_sound ns y v here)
      by_part rest (inr more) = subst (λ (xs : List A). At same place rule xs v) longer (rest more)

  -- ---- none is before all that are found

  module _ (all : List Violation) where
    -- no repeat among these is before all that are found
    abbrev pub Covers : List A → Type 0
    Covers ns = (y : A) → Repeats same place ns y → NotBehind all (violation rule (place y))

    pub covers_none : Covers []
    covers_none y r = let within : r.again_at < 0 = slice_get_within [] r.again_at y r.again_there in absurd (omega arith)

    pub covers_front : (xs ys : List A) → Covers (xs ++ ys) → Covers xs
    covers_front xs ys covers y r = covers y (record {
      first = r.first;
      first_at = r.first_at;
      again_at = r.again_at;
      first_there = there_before xs ys r.first_at r.first r.first_there;
      again_there = there_before xs ys r.again_at y r.again_there;
      apart = r.apart;
      alike = r.alike;
      later = r.later;
    })

    -- with the earliest that is the same as the new one, a violation at the later of the two
    given_later : (ns : List A) (y : A) → ((v : Violation) → Member v (later_of rule (earliest_of place (same y) None ns) (place y)) → Member v all)
        → (e : Pos) → earliest_of place (same y) None ns ≡ Some e → Member (violation rule (later e (place y))) all
    given_later ns y given e is = given (violation rule (later e (place y))) (rw is (inl refl))

    -- what is not before the later of two places has a violation that is not behind it
    not_behind : (p q : Pos) → Member (violation rule q) all → pos_before p q ≡ false → NotBehind all (violation rule p)
    not_behind p q here early = record { found = violation rule q; member = here; sooner = same_rule rule p q ∙ early }

    covers_one : (ns : List A) (y : A) → ((v : Violation) → Member v (later_of rule (earliest_of place (same y) None ns) (place y)) → Member v all) → Covers ns → Covers (ns ++ (y ∷ []))
    covers_one ns y given covers z r = by_two (there_cases ns y r.first_at r.first r.first_there) (there_cases ns y r.again_at z r.again_there)
      where
        -- one that is the same as the new one is not before it: so the new one is not before the earliest
        at_new : (f : A) (i : ℕ) → slice_get ns i ≡ Some f → IsTrue (same f y) → pos_before (place y) (place f) ≡ false → NotBehind all (violation rule (place y))
        at_new f i here alike behind =
            let e = early_for place (same y) None ns i f here (turned f y alike) in
            let late : pos_before (place y) e.place ≡ false = never_sooner (place y) (place f) e.place behind e.early in
            let is : later e.place (place y) ≡ place y = rw late refl in
            not_behind (place y) (place y) (subst (λ (p : Pos). Member (violation rule p) all) is (given_later ns y given e.place e.is)) (not_before (place y))
          where
            not_before : (p : Pos) → pos_before p p ≡ false
            not_before p = sym (same_rule rule p p) ∙ not_before_itself (violation rule p)

        -- the new one is not behind one of those before it
        at_old : (i : ℕ) → slice_get ns i ≡ Some z → IsTrue (same y z) → pos_before (place z) (place y) ≡ false → NotBehind all (violation rule (place z))
        at_old i here alike behind = by_early (early_for place (same y) None ns i z here alike)
          where
            by_early : IsEarly (earliest_of place (same y) None ns) (place z) → NotBehind all (violation rule (place z))
            by_early e = not_behind (place z) (later e.place (place y)) (given_later ns y given e.place e.is) (by_test (pos_before (place y) e.place) refl)
              where
                by_test : (t : Bool) → pos_before (place y) e.place ≡ t → pos_before (place z) (later e.place (place y)) ≡ false
                by_test true before = rw before e.early
                by_test false before = rw before behind

        by_two : (slice_get ns r.first_at ≡ Some r.first) ⊎ ((r.first_at ≡ length ns) × (y ≡ r.first)) → (slice_get ns r.again_at ≡ Some z) ⊎ ((r.again_at ≡ length ns) × (y ≡ z))
            → NotBehind all (violation rule (place z))
        by_two (inl first) (inl again) = covers z (record {
          first = r.first;
          first_at = r.first_at;
          again_at = r.again_at;
          first_there = first;
          again_there = again;
          apart = r.apart;
          alike = r.alike;
          later = r.later;
        })
        by_two (inl first) (inr (last, is)) =
            subst (λ (x : A). NotBehind all (violation rule (place x))) is
            (at_new r.first r.first_at first (subst (λ (x : A). IsTrue (same r.first x)) (sym is) r.alike) (subst (λ (x : A). pos_before (place x) (place r.first) ≡ false) (sym is) r.later))
        by_two (inr (last, is)) (inl again) =
            at_old r.again_at again (subst (λ (x : A). IsTrue (same x z)) (sym is) r.alike) (subst (λ (x : A). pos_before (place z) (place x) ≡ false) (sym is) r.later)
        by_two (inr (last, is)) (inr (too, same_is)) = absurd (r.apart (last ∙ sym too))

    pub covers_more : (ns ys : List A) → ((v : Violation) → Member v (found_in same place rule ns ys) → Member v all) → Covers ns → Covers (ns ++ ys)
    covers_more ns [] given covers = subst Covers (sym (append-nil ns)) covers
    covers_more ns (y ∷ ys) given covers =
        let at_y = later_of rule (earliest_of place (same y) None ns) (place y) in
        let behind = found_in same place rule (ns ++ (y ∷ [])) ys in
        let one : Covers (ns ++ (y ∷ [])) = covers_one ns y (λ v among. given v (member_left v at_y behind among)) covers in
        let more : Covers ((ns ++ (y ∷ [])) ++ ys) = covers_more (ns ++ (y ∷ [])) ys (λ v among. given v (member_right v at_y behind among)) one in
        subst Covers (append_assoc ns (y ∷ []) ys) more

    -- no repeat of a list is before all that are found in it
    pub covers_all : (xs : List A) → ((v : Violation) → Member v (found_in same place rule [] xs) → Member v all) → Covers xs
    covers_all xs given = covers_more [] xs given covers_none
