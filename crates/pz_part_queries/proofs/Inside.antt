-- The way to a part, level by level.
use Rattle.std.proofs.Common.{◌≡◌, ◌<◌, ◌+◌, refl, sym, ap, subst, ℕ, zero, suc, List, [], ◌∷◌, length, drop, get_or, arith}
use Rattle.std.proofs.lemmas.List.{drop_all}
use Rattle.pz_rules.specs.pz_offer.PlaceOrder.{Place}
use Rattle.pz_rules.specs.declared.term.Term.{Term}
use Rattle.pz_rules.specs.Terms as terms
use Rattle.pz_rules.specs.Terms.{frame_in, first_or, term_at, count, child}
use Rattle.pz_rules.specs.View.{term_view, terms_view}
use Rattle.pz_rules.specs.Settings.{Context}
use Rattle.pz_rules.specs.Active as active
use Rattle.pz_rules.specs.Active.{Active}
use Rattle.pz_rules.specs.Places.{MayAct}

-- Parts side by side

pub count_is : (ts : List Term) → count (terms_view ts) ≡ length ts
count_is [] = refl
count_is (t ∷ ts) = ap suc (count_is ts)

pub term_at_is : (ts : List Term) (i : ℕ) (t : Term) → i < length ts → t ≡ get_or ts i t → term_view t ≡ term_at (terms_view ts) i
term_at_is [] i t within is = absurd (omega (arith, within))
term_at_is (x ∷ xs) zero t within is = ap term_view is
term_at_is (x ∷ xs) (suc i) t within is = term_at_is xs i t (omega (arith, within)) is

-- Down a place

inside_is : (a : Context) (f : ℕ) (t : terms.Term) (whole : Place) (g : ℕ) (x : terms.Term) (i : ℕ) (place : Place) → Active a f t whole g x → whole ≡ i ∷ place → Active a (frame_in t f) (child t i) place g x
inside_is a _ _ _ _ _ i place (active.here f t) is = cc
inside_is a _ _ _ _ _ i place (active.inside f t j rest g x r k) is =
    let number : j ≡ i = cc in
    let behind : rest ≡ place = cc in
    subst (λ (n : ℕ). Active a (frame_in t f) (child t n) place g x) number (subst (λ (p : Place). Active a (frame_in t f) (child t j) p g x) behind k)

at_end : (a : Context) (f : ℕ) (t : terms.Term) (whole : Place) (g : ℕ) (x : terms.Term) → Active a f t whole g x → whole ≡ [] → (f ≡ g) × (t ≡ x)
at_end a _ _ _ _ _ (active.here f t) is = (refl, refl)
at_end a _ _ _ _ _ (active.inside f t j rest g x r k) is = cc

-- from a term in a frame, what is active at the place is active at the rest of it from here
pub record IsOnTheWay (f : ℕ) (t : terms.Term) (place : Place) (inner : ℕ) (part : terms.Term) (rest : Place) : Type 0 where
  pub may : MayAct part rest
  pub leads : (a : Context) (g : ℕ) (x : terms.Term) → Active a f t place g x → Active a inner part rest g x

module _ (f : ℕ) (t : terms.Term) (place : Place) (inner : ℕ) (part : terms.Term) (i : ℕ) where
  on : (number : ℕ) → drop i place ≡ number ∷ drop (i + 1) place → IsOnTheWay f t place inner part (drop i place) → IsOnTheWay f t place inner part (number ∷ drop (i + 1) place)
  on number is way = subst (IsOnTheWay f t place inner part) is way

  pub goes_on : (number : ℕ) (frame : ℕ) (next : terms.Term) → drop i place ≡ number ∷ drop (i + 1) place → IsOnTheWay f t place inner part (drop i place)
      → frame ≡ frame_in part inner → next ≡ child part number → IsOnTheWay f t place frame next (drop (i + 1) place)
  goes_on number frame next is way framed childed =
      let further : IsOnTheWay f t place (frame_in part inner) (child part number) (drop (i + 1) place) = record {
        may = (on number is way).may.1;
        leads = λ a g x h. inside_is a inner part (number ∷ drop (i + 1) place) g x number (drop (i + 1) place) ((on number is way).leads a g x h) refl;
      } in
      subst (λ (n : ℕ). IsOnTheWay f t place n next (drop (i + 1) place)) (sym framed) (subst (λ (u : terms.Term). IsOnTheWay f t place (frame_in part inner) u (drop (i + 1) place)) (sym childed) further)

  pub arrived : length place < i + 1 → IsOnTheWay f t place inner part (drop i place) → (a : Context) (g : ℕ) (x : terms.Term) → Active a f t place g x → (inner ≡ g) × (part ≡ x)
  arrived past way a g x h = at_end a inner part (drop i place) g x (way.leads a g x h) (drop_all i place (omega (arith, past)))
