-- One level further in, and one put round what is left.
use Rattle.std.proofs.Common.{◌≡◌, ℕ, List, [], ◌∷◌, ◌++◌, refl, sym, subst, ap, ◌∙◌}
use Rattle.pz_rules.specs.pz_state.Marks.{Seen}
use Rattle.pz_rules.specs.pz_offer.PlaceOrder.{Place}
use Rattle.pz_rules.specs.Terms.{Term, child, frame_in}
use Rattle.pz_rules.specs.Settings.{Process, left_by, Home}
use Rattle.pz_rules.specs.Leaving.{residual}
use Rattle.pz_rules.specs.View.{term_view}
use Rattle.pz_rules.specs.Places.{MayActIn, MayAct}
use Rattle.pz_rules.specs.Becoming.{Became}
use Rattle.pz_term_residual.specs.declared.levels.Level.{Level}
use Rattle.pz_term_residual.specs.declared.levels.Inside.{Inside}
use Rattle.pz_term_residual.specs.devices.Unwound.{put_round, unwound, IsInside}

unwound-push : (h : Home) (ls : List Level) (l : Level) (p : Process) → unwound h (ls ++ l ∷ []) p ≡ unwound h ls (put_round h l p)
unwound-push h [] l p = refl
unwound-push h (k ∷ ls) l p = ap (put_round h k) (unwound-push h ls l p)

-- further in

may_step : (t : Term) (place inner : Place) (i : ℕ) → place ≡ i ∷ inner → MayAct t place → MayActIn t i × MayAct (child t i) inner
may_step t place inner i is may = subst (λ (p : Place). MayAct t p) is may

pub may_inside : (f : ℕ) (t : Term) (place inner : Place) (i : ℕ) (inside : Inside) → place ≡ i ∷ inner → IsInside f t i inside → MayAct t place → MayAct (term_view inside.term) inner
may_inside f t place inner i inside is entered may = subst (λ (u : Term). MayAct u inner) (sym entered.part) (may_step t place inner i is may).1

pub further_in : (h : Home) (levels new : List Level) (inside : Inside) (f : ℕ) (t : Term) (place inner : Place) (i : ℕ) (whole : Process → Process)
    → new ≡ levels ++ inside.level ∷ [] → place ≡ i ∷ inner → IsInside f t i inside
    → ((p : Process) → unwound h levels (residual h f t place p) ≡ whole p)
    → (p : Process) → unwound h new (residual h inside.frame.0 (term_view inside.term) inner p) ≡ whole p
further_in h levels new inside f t place inner i whole grown is entered so_far p =
    let deep = residual h inside.frame.0 (term_view inside.term) inner p in
    let q = residual h (frame_in t f) (child t i) inner p in
    let same : deep ≡ q =
    ap (λ (g : ℕ). residual h g (term_view inside.term) inner p) entered.stands ∙ ap (λ (u : Term). residual h (frame_in t f) u inner p) entered.part in
    ap (λ (ls : List Level). unwound h ls deep) grown
    ∙ unwound-push h levels inside.level deep
    ∙ ap (λ (r : Process). unwound h levels (put_round h inside.level r)) same
    ∙ ap (unwound h levels) (sym (entered.round h q.state q.term))
    ∙ ap (λ (at : Place). unwound h levels (residual h f t at p)) (sym is)
    ∙ so_far p

-- further out

pub further_out : (h : Home) (levels rest : List Level) (level : Level) (s t : Seen) (left new : Term) (whole : Process)
    → levels ≡ rest ++ level ∷ [] → Became (put_round h level (left_by s.held left)) new s t
    → unwound h levels (left_by s.held left) ≡ whole → unwound h rest (left_by t.held new) ≡ whole
further_out h levels rest level s t left new whole popped became so_far =
    let p = put_round h level (left_by s.held left) in
    let same : left_by t.held new ≡ p =
    ap (λ (x : Term). left_by t.held x) became.term ∙ ap (λ (z : Seen). left_by z.held p.term) became.state in
    ap (unwound h rest) same
    ∙ sym (unwound-push h rest level (left_by s.held left))
    ∙ ap (λ (ls : List Level). unwound h ls (left_by s.held left)) (sym popped)
    ∙ so_far

pub marks_stay : (p : Process) (x : Term) (o s t : Seen) → Became p x s t → s.marks ≡ o.marks → t.marks ≡ o.marks
marks_stay p x o s t became so_far = ap (λ (z : Seen). z.marks) became.state ∙ so_far
