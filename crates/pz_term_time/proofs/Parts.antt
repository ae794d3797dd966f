-- Parts side by side, in the first of which time has passed.
use Rattle.std.proofs.Common.{◌≡◌, ◌<◌, ◌≤◌, ◌+◌, ℕ, List, [], ◌∷◌, ◌++◌, map, length, get_or, set, take, drop, refl, sym, subst, ap, ◌∙◌, arith}
use Rattle.std.proofs.lemmas.List.{length-set, set-set, get_or-drop, drop-drop, drop-set-lt, take_all, take_more_set, map_push, map_more}
use denote.Param.Weighed.{most, at_most}
use Rattle.pz_rules.specs.pz_state.Marks.{Seen}
use Rattle.pz_rules.specs.declared.term.Term.{Term}
use Rattle.pz_rules.specs.Terms as terms
use Rattle.pz_rules.specs.Settings.{Context}
use Rattle.pz_rules.specs.View.{term_view, terms_of, terms_view}
use Rattle.pz_rules.specs.devices.Passing.{passed, passed_all}

-- a list of which the places from i on are as they were, and the list with another element at i, twice
module _ {A : Type 0} (all now : List A) (i : ℕ) (still : drop i now ≡ drop i all) where
  still_there : (d : A) → get_or now i d ≡ get_or all i d
  still_there d =
      let n : i ≡ i + 0 = omega arith in
      ap (λ (k : ℕ). get_or now k d) n ∙ sym (get_or-drop i now 0 d) ∙ ap (λ (l : List A). get_or l 0 d) still ∙ get_or-drop i all 0 d ∙ ap (λ (k : ℕ). get_or all k d) (sym n)

  pub still_lower : (weight : A → ℕ) (x : A) → i < length all → x ≡ get_or now i x → weight x ≤ most weight all
  still_lower weight x within is = subst (λ (y : A). weight y ≤ most weight all) (sym (is ∙ still_there x)) (at_most weight all i x within)

  pub later_still : (one two : List A) (x y : A) → one ≡ set now i x → two ≡ set one i y → drop (i + 1) two ≡ drop (i + 1) all
  later_still one two x y first second =
      let above : i < i + 1 = omega arith in
      ap (λ (l : List A). drop (i + 1) l) second ∙ drop-set-lt (i + 1) one i y above
      ∙ ap (λ (l : List A). drop (i + 1) l) first ∙ drop-set-lt (i + 1) now i x above
      ∙ sym (drop-drop 1 i now) ∙ ap (λ (l : List A). drop 1 l) still ∙ drop-drop 1 i all

pub as_many : {A : Type 0} (now one two : List A) (i : ℕ) (x y : A) → one ≡ set now i x → two ≡ set one i y → length two ≡ length now
as_many now one two i x y first second = ap length second ∙ length-set one i y ∙ ap length first ∙ length-set now i x

module _ (a : Context) (d f : ℕ) where
  abbrev left_of : Term → terms.Term
  left_of t = passed a d f (term_view t)

  each_passed : (ts : List Term) → terms_of (map left_of ts) ≡ passed_all a d f (terms_view ts)
  each_passed [] = refl
  each_passed (t ∷ ts) = ap (λ (us : terms.Terms). terms.and (left_of t) us) (each_passed ts)

  pub all_passed : (all now : List Term) (n : ℕ) → length all ≤ n → length now ≡ length all → map term_view (take n now) ≡ map (λ t. passed a d f (term_view t)) (take n all) → terms_view now ≡ passed_all a d f (terms_view all)
  all_passed all now n ended count so_far =
      ap terms_of
      (ap (λ (l : List Term). map term_view l) (sym (take_all n now (omega arith))) ∙ so_far ∙ ap (λ (l : List Term). map left_of l) (take_all n all ended))
      ∙ each_passed all

-- a call begins with the state of the one before
module _ (at : Seen → Context) (d f : ℕ) where
  pub one_passed : (s later : Seen) (all now one two : List Term) (i : ℕ) (part x y : Term) → later ≡ s → i < length all → length now ≡ length all → drop i now ≡ drop i all
      → part ≡ get_or now i part → one ≡ set now i x → two ≡ set one i y → term_view y ≡ passed (at later) d f (term_view part)
      → map term_view (take i now) ≡ map (λ t. passed (at s) d f (term_view t)) (take i all)
      → map term_view (take (i + 1) two) ≡ map (λ t. passed (at s) d f (term_view t)) (take (i + 1) all)
  one_passed s later all now one two i part x y same within count still is first second passes so_far =
      let written : two ≡ set now i y = second ∙ ap (λ (l : List Term). set l i y) first ∙ set-set now i x y in
      let this : part ≡ get_or all i part = is ∙ still_there all now i still part in
      let left : term_view y ≡ passed (at s) d f (term_view (get_or all i part)) =
      passes ∙ ap (λ (v : Seen). passed (at v) d f (term_view part)) same ∙ ap (left_of (at s) d f) this in
      ap (λ (l : List Term). map term_view (take (i + 1) l)) written
      ∙ ap (λ (l : List Term). map term_view l) (take_more_set now i y (omega arith)) ∙ map_push term_view (take i now) y
      ∙ ap (λ (l : List terms.Term). l ++ term_view y ∷ []) so_far
      ∙ ap (λ (z : terms.Term). map (left_of (at s) d f) (take i all) ++ z ∷ []) left
      ∙ sym (map_more (left_of (at s) d f) all i part within)
