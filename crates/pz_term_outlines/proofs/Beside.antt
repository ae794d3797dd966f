-- Parts that stand side by side, of which one has become another.
use Rattle.std.proofs.Common.{◌≡◌, ◌<◌, ◌+◌, ℕ, zero, suc, max, Bool, true, false, ◌&&◌, List, [], ◌∷◌, ◌++◌, length, take, drop, get_or, refl, sym, ap, ◌∙◌, arith}
use Rattle.std.specs.Prelude.{if◌then◌else◌}
use Rattle.std.proofs.lemmas.List.{drop_more, take-append-drop}
use Rattle.pz_rules.specs.declared.term.Term.{Term}
use Rattle.pz_rules.specs.Terms as terms
use Rattle.pz_rules.specs.Terms.{Terms, and, height, greatest_height, count, term_at, parallel}
use Rattle.pz_rules.specs.Leaving.{is_done, all_done, replaced}
use Rattle.pz_rules.specs.Settings.{Home}
use Rattle.pz_rules.specs.View.{term_view, terms_view}
use Rattle.pz_term_outlines.specs.declared.outline.Outline.{Outline}
use Rattle.pz_term_outlines.specs.Capped.{capped}
use Rattle.pz_term_outlines.specs.Outlines.{outline, IsAbove, IsRound}
use Rattle.pz_term_outlines.proofs.Capping.{capped_max}

-- one part in the place of another

and_assoc : (a b c : Bool) → (a && (b && c)) ≡ (a && b && c)
and_assoc true b c = refl
and_assoc false b c = refl

replaced_done : (before : List Term) (t : Term) (behind : List Term) (x : terms.Term)
    → all_done (replaced (terms_view (before ++ t ∷ behind)) (length before) x) ≡ (all_done (terms_view before) && (is_done x && all_done (terms_view behind)))
replaced_done [] t behind x = refl
replaced_done (u ∷ us) t behind x =
    ap (λ (b : Bool). is_done (term_view u) && b) (replaced_done us t behind x)
    ∙ and_assoc (is_done (term_view u)) (all_done (terms_view us)) (is_done x && all_done (terms_view behind))

max_assoc : (a b c : ℕ) → max a (max b c) ≡ max (max a b) c
max_assoc a b c = omega arith

replaced_height : (before : List Term) (t : Term) (behind : List Term) (x : terms.Term)
    → greatest_height (replaced (terms_view (before ++ t ∷ behind)) (length before) x) ≡ max (greatest_height (terms_view before)) (max (height x) (greatest_height (terms_view behind)))
replaced_height [] t behind x = none_before (max (height x) (greatest_height (terms_view behind)))
  where
    none_before : (n : ℕ) → n ≡ max 0 n
    none_before n = omega arith
replaced_height (u ∷ us) t behind x =
    ap (λ (n : ℕ). max (height (term_view u)) n) (replaced_height us t behind x)
    ∙ max_assoc (height (term_view u)) (greatest_height (terms_view us)) (max (height x) (greatest_height (terms_view behind)))

pub parallel_ended : (h : Home) (before behind : List Term) (left result : Outline) → (all_done (terms_view before) && (left.done && all_done (terms_view behind))) ≡ true → result ≡ outline terms.done
    → (t : Term) → IsRound h left (parallel (terms_view (before ++ t ∷ behind))) (length before) result
parallel_ended h before behind left result is_true is t f s x same =
    let us = replaced (terms_view (before ++ t ∷ behind)) (length before) x in
    let all : all_done us ≡ true =
    replaced_done before t behind x ∙ ap (λ (o : Outline). all_done (terms_view before) && (o.done && all_done (terms_view behind))) (sym same) ∙ is_true in
    is ∙ ap (λ (b : Bool). outline (if b then terms.done else parallel us)) (sym all)

pub parallel_goes_on : (h : Home) (before behind : List Term) (left result : Outline) (first last others part : ℕ) → (all_done (terms_view before) && (left.done && all_done (terms_view behind))) ≡ false
    → first ≡ capped (greatest_height (terms_view before)) → last ≡ capped (greatest_height (terms_view behind)) → others ≡ max left.height last → part ≡ max first others
    → ((t : terms.Term) (n : ℕ) → part ≡ capped n → IsAbove t n → result ≡ outline t)
    → (t : Term) → IsRound h left (parallel (terms_view (before ++ t ∷ behind))) (length before) result
parallel_goes_on h before behind left result first last others part is_false high_first high_last some greater above t f s x same =
    let us = replaced (terms_view (before ++ t ∷ behind)) (length before) x in
    let a = greatest_height (terms_view before) in
    let b = max (height x) (greatest_height (terms_view behind)) in
    let all : all_done us ≡ false =
    replaced_done before t behind x ∙ ap (λ (o : Outline). all_done (terms_view before) && (o.done && all_done (terms_view behind))) (sym same) ∙ is_false in
    let among : others ≡ capped b = capped_max (height x) (greatest_height (terms_view behind)) left.height last others some (ap (λ (o : Outline). o.height) same) high_last in
    let high : part ≡ capped (max a b) = capped_max a b first others part greater high_first among in
    above (parallel us) (max a b) high (record { one_more = ap suc (replaced_height before t behind x); undone = refl; other = refl })
    ∙ ap (λ (c : Bool). outline (if c then terms.done else parallel us)) (sym all)

-- a part by its number

pub count_is : (ts : List Term) → count (terms_view ts) ≡ length ts
count_is [] = refl
count_is (t ∷ ts) = ap suc (count_is ts)

pub part_is : (ts : List Term) (i : ℕ) (t : Term) → i < length ts → t ≡ get_or ts i t → term_at (terms_view ts) i ≡ term_view t
part_is [] i t within is = absurd (omega (arith, within))
part_is (x ∷ ts) zero t within is = ap term_view (sym is)
part_is (x ∷ ts) (suc i) t within is = part_is ts i t (omega (arith, within)) is

-- the part at the end of a front
pub part_at : (before : List Term) (t : Term) (behind : List Term) → term_at (terms_view (before ++ t ∷ behind)) (length before) ≡ term_view t
part_at [] t behind = refl
part_at (u ∷ us) t behind = part_at us t behind

-- a list cut where a part stands
pub parted : (ts before from behind : List Term) (i : ℕ) (t : Term) → before ≡ take i ts → from ≡ drop i ts → from ≡ t ∷ behind → before ++ t ∷ behind ≡ ts
parted ts before from behind i t front back first =
    ap (λ (l : List Term). l ++ t ∷ behind) front ∙ ap (λ (l : List Term). take i ts ++ l) (sym first ∙ back) ∙ take-append-drop i ts
